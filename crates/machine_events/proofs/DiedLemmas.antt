-- Whose end the effects tell.
use Rattle.std.proofs.Common.{◌≡◌, ℕ, ◌+◌, List, [], ◌∷◌, ◌++◌, Option, Some, None, refl, ap, sym, ◌∙◌, Bool, true, false, filter, length, suc, if◌then◌else◌}
use Rattle.engine_text.specs.Scripts.{Program}
use Rattle.engine_text.specs.declared.container.Container.{Container}
use Rattle.engine_text.specs.declared.container.Goal.{Goal}
use Rattle.engine_text.specs.declared.event.Action.{Action}
use Rattle.engine_text.specs.declared.event.Event.{Event}
use Rattle.engine_text.specs.declared.exec.Exec.{Exec}
use Rattle.engine_text.specs.declared.owner.Owner.{Owner}
use Rattle.engine_text.specs.declared.script.Effect.{Effect as ProcessEffect}
use Rattle.engine_text.specs.declared.script.Effect.TheVariants.{Lives, Wrote, Ended}
use Rattle.engine_text.specs.declared.status.Status.{Status}
use Rattle.proc_kernel.specs.Catalogue.{program_of}
use Rattle.proc_kernel.specs.Processes.{Process, ProcessStep, thaw}
use Rattle.proc_kernel.specs.Tables.{effect_of, process_of}
use Rattle.restart_policy.specs.declared.decision.Decision.{Decision}
use Rattle.restart_policy.specs.declared.decision.Decision.TheVariants.{Stay, Again}
use Rattle.machine_model.specs.State.{State, container_numbered, exec_numbered, running_execs, change_life}
use Rattle.machine_model.specs.EventTexts.{plain_event, die_event}
use Rattle.machine_model.specs.Chain.{Effect, Died, in_order, each, and_then, change, with_found, tell_of, tell_mounts}
use Rattle.machine_model.specs.Effects.Destroy.{destroy, without}
use Rattle.machine_model.specs.Effects.EndMain.{end_main, die, clear_deadlines, end_exec, end_execs, by_goal, by_status, removed_if, follow, decision_at}
use Rattle.machine_model.specs.Effects.Launch.{launch, launch_by_call, afresh, launch_program, container_room}
use Rattle.machine_events.specs.Effects.EndMain.{begun}
use Rattle.machine_model.specs.Effects.Meet.{by_effect, step_process, stepped, thaw_container, thaw_execs, wake_parts, woken, send, meet_signal, running}
use Rattle.machine_model.specs.Calls.Kill.{by_hand, deliver}
use Rattle.machine_model.specs.Calls.Pause.{pause, paused, freeze_process, freeze_execs}
use Rattle.machine_events.specs.Fit.{died_of, CanEndBy, CanSettle, HasEnded}
use Rattle.machine_events.specs.Memory.{Room}
use Rattle.container_table.specs.declared.life_change.LifeChange.{LifeChange}
use Rattle.machine_model.proofs.ChainLemmas.{Keeps, keeps_each}
use Rattle.machine_events.specs.Outputs.{is_output_of}
use Rattle.machine_events.specs.declared.end_memory.EndMemory.{EndMemory}
use Rattle.machine_events.proofs.SettleLemmas.{settle_end_exec, settle_renew, settle_processes, next_alike, remove_alike, tell_still}
use Rattle.container_table.specs.Lists.{update_first}
use Rattle.engine_text.specs.Owner.{same_owner}
use Rattle.engine_text.specs.declared.log.OwnedLog.{OwnedLog}
use Rattle.engine_text.specs.declared.script.Stream.{Stream}
use Rattle.machine_model.specs.Effects.Meet.{put_output}
use Rattle.std.proofs.Common.{subst}

-- tells of no end
abbrev pub NoneDied : (State → Effect) → Type 0
NoneDied e = (s : State) → (e s).died ≡ []

none_both : (a b : List Died) → a ≡ [] → b ≡ [] → a ++ b ≡ []
none_both a b e h = rw e h

pub none_each : {A : Type 0} (f : A → State → Effect) → ((x : A) → NoneDied (f x)) → (xs : List A) → NoneDied (each f xs)
none_each f none [] s = refl
none_each f none (x ∷ xs) s = none_both _ _ (none x s) (none_each f none xs (f x s).state)

pub none_found : {A : Type 0} (o : Option A) (f : A → State → Effect) → ((x : A) → NoneDied (f x)) → NoneDied (with_found o f)
none_found None f none s = refl
none_found (Some x) f none s = none x s

none_tell : (event : Container → ℕ → Event) (n : ℕ) → NoneDied (tell_of event n)
none_tell event n s = none_found (container_numbered n s) _ (λ c z. refl) s

none_mounts : (a : Action) (n : ℕ) → NoneDied (tell_mounts a n)
none_mounts a n s = none_found (container_numbered n s) _ (λ c z. refl) s

pub none_end_exec : (code k : ℕ) → NoneDied (end_exec code k)
none_end_exec code k s = none_found (exec_numbered k s) _ (λ (x : Exec) z. none_both _ _ (none_tell _ x.container z) refl) s

none_launched : (o : Option Program) (c : Container) → NoneDied (launch_program o c)
none_launched None c s = refl
none_launched (Some program) c s =
    let z : State = begun c.number program c.life.open_stdin (container_room c) s in
    none_both _ _ (none_mounts Action.Mount c.number z) (none_tell (plain_event Action.Start) c.number (tell_mounts Action.Mount c.number z).state)

pub none_launch : (n : ℕ) → NoneDied (launch n)
none_launch n s = none_found (container_numbered n s) _ (λ c. none_launched (program_of c.life.words (c.life.starts + 1)) c) s

pub none_destroy : (n : ℕ) → NoneDied (destroy n)
none_destroy n s =
    let z : State = (tell_of (plain_event Action.Destroy) n s).state in
    none_both _ _ (none_tell (plain_event Action.Destroy) n s) (none_found (container_numbered n z) (λ c. change (without c)) (λ c y. refl) z)

none_gone : (auto : Bool) (n : ℕ) → NoneDied (removed_if auto n)
none_gone true n s = none_destroy n s
none_gone false n s = refl

none_follow : (d : Decision) (auto : Bool) (n : ℕ) → NoneDied (follow d auto n)
none_follow Stay auto n s = none_gone auto n _
none_follow (Again delay) auto n s = refl

none_goal : (g : Goal) (c : Container) → NoneDied (by_goal g c)
none_goal Goal.Remove c s = none_destroy c.number s
none_goal Goal.Stop c s = none_both _ _ (none_tell _ c.number _) (none_gone c.life.auto_remove c.number _)
none_goal Goal.Restart c s =
    let n : ℕ = c.number in
    let a : State = (tell_of (plain_event Action.Stop) n s).state in
    let b : State = (launch_by_call n a).state in
    none_both _ _ (none_tell (plain_event Action.Stop) n s) (none_both _ _ (none_launch n (change_life n afresh a)) (none_tell (plain_event Action.Restart) n b))
none_goal Goal.None c s = none_follow (decision_at s.clock c.life) c.life.auto_remove c.number s

none_status : (u : Status) (c : Container) → NoneDied (by_status u c)
none_status Status.Dead c s = refl
none_status Status.Created c s = none_goal c.life.goal c s
none_status Status.Running c s = none_goal c.life.goal c s
none_status Status.Paused c s = none_goal c.life.goal c s
none_status Status.Restarting c s = none_goal c.life.goal c s
none_status Status.Removing c s = none_goal c.life.goal c s
none_status Status.Exited c s = none_goal c.life.goal c s

last_one : (a b : List Died) (d : Died) (rest : List Died) → a ≡ [] → b ≡ [] → rest ≡ [] → d ∷ [] ≡ a ++ (b ++ (d ∷ rest))
last_one a b d rest e h k = rw (e, h, k) refl

-- the end of a main process is told
pub died_end_main : (code n : ℕ) (s : State) → died_of n (Some code) ≡ (end_main code n s).died
died_end_main code n s =
    let a : State = (end_execs n s).state in
    let b : State = (tell_of (die_event code) n a).state in
    let d : State = clear_deadlines n (die code n b).state in
    let e : State = (tell_mounts Action.Unmount n d).state in
    last_one (end_execs n s).died (tell_of (die_event code) n a).died (record { number = n; code = code }) _
    (none_each _ (λ (x : Exec). none_end_exec 137 x.number) (running_execs n s) s)
    (none_tell (die_event code) n a)
    (none_both _ _ (none_mounts Action.Unmount n d) (none_both _ _ (none_found (container_numbered n e) _ (λ (c : Container). none_status c.life.status c) e) refl))

none_exec_effect : (e : ProcessEffect) (k : ℕ) → NoneDied (by_effect e (Owner.Exec k))
none_exec_effect Lives k s = refl
none_exec_effect (Wrote stream payload) k s = refl
none_exec_effect (Ended code) k s = none_end_exec code k s

none_thaw_execs : (n : ℕ) → NoneDied (thaw_execs n)
none_thaw_execs n s = none_each _ (λ (x : Exec) z. none_exec_effect (effect_of (thaw z.clock) (process_of (Owner.Exec x.number) z.processes)) x.number (stepped thaw (Owner.Exec x.number) z)) (running_execs n s) s

none_wake : (n : ℕ) → NoneDied (in_order (wake_parts n))
none_wake n s =
    none_both _ _ (none_tell (plain_event Action.Unpause) n s)
    (none_both _ _ (none_thaw_execs n (change_life n running (tell_of (plain_event Action.Unpause) n s).state)) refl)

pub none_woken : (u : Status) (n : ℕ) → NoneDied (woken u n)
none_woken Status.Paused n s = none_wake n s
none_woken Status.Created n s = refl
none_woken Status.Running n s = refl
none_woken Status.Restarting n s = refl
none_woken Status.Removing n s = refl
none_woken Status.Exited n s = refl
none_woken Status.Dead n s = refl

met_found : (number n : ℕ) (o : Option Container) (s a : State) (c : Container) (died : List Died) → o ≡ Some c → a ≡ (woken c.life.status n s).state → died ≡ (send true number n a).died
    → died ≡ (with_found o (λ (c : Container). and_then (woken c.life.status n) (send true number n)) s).died
met_found number n None s a c died e h k = absurd (cc)
met_found number n (Some d) s a c died e h k =
    let is : c ≡ d = cc in
    let one : died ≡ (send true number n (woken c.life.status n s).state).died = k ∙ ap (λ z. (send true number n z).died) h in
    one ∙ (sym (front (woken c.life.status n s).died _ (none_woken c.life.status n s)) ∙ ap (λ (x : Container). (and_then (woken x.life.status n) (send true number n) s).died) is)
  where
    front : (a b : List Died) → a ≡ [] → a ++ b ≡ b
    front a b e = rw e refl

-- the end that a signal's meeting tells is that of the signal
pub died_met : (number n : ℕ) (s a : State) (c : Container) (died : List Died) → container_numbered n s ≡ Some c → a ≡ (woken c.life.status n s).state → died ≡ (send true number n a).died → died ≡ (meet_signal number n s).died
died_met number n s a c died e h k = met_found number n (container_numbered n s) s a c died e h k

-- so is it of the end of a pause, and of its main process
pub died_thaw : (n : ℕ) (s a : State) (died : List Died) → a ≡ (in_order (wake_parts n) s).state → died ≡ (step_process thaw (Owner.Container n) a).died → died ≡ (thaw_container n s).died
died_thaw n s a died e h =
    h ∙ (ap (λ z. (step_process thaw (Owner.Container n) z).died) e
    ∙ sym (ap (λ l. l ++ (step_process thaw (Owner.Container n) (in_order (wake_parts n) s).state).died) (none_wake n s)))

-- ---- what a wake keeps

pub settle_stepped : (n : ℕ) (brought : EndMemory) (room : Room) (step : ℕ → Process → ProcessStep) (o : Owner) (s : State) → CanSettle n brought room s → CanSettle n brought room (stepped step o s)
settle_stepped n brought room step o s h = settle_processes n brought room (stepped step o s).processes s h

outputs_either : {A : Type 0} (p : A → Bool) (b d : Bool) (x y : A) (xs ys : List A) → p y ≡ d → p x ≡ d → length (filter p ys) ≡ length (filter p xs)
    → length (filter p (if b then y ∷ xs else x ∷ ys)) ≡ length (if d then x ∷ filter p xs else filter p xs)
outputs_either p true true x y xs ys e k rest = ap (λ c. length (if c then y ∷ filter p xs else filter p xs)) e
outputs_either p true false x y xs ys e k rest = ap (λ c. length (if c then y ∷ filter p xs else filter p xs)) e
outputs_either p false true x y xs ys e k rest = ap (λ c. length (if c then x ∷ filter p ys else filter p ys)) k ∙ ap suc rest
outputs_either p false false x y xs ys e k rest = ap (λ c. length (if c then x ∷ filter p ys else filter p ys)) k ∙ rest

count_updated : {A : Type 0} (p q : A → Bool) (f : A → A) (xs : List A) → ((x : A) → p (f x) ≡ p x) → length (filter p (update_first q f xs)) ≡ length (filter p xs)
count_updated p q f [] keeps = refl
count_updated p q f (x ∷ xs) keeps = outputs_either p (q x) (p x) x (f x) xs (update_first q f xs) (keeps x) refl (count_updated p q f xs keeps)

-- a record more in an output
settle_put : (n : ℕ) (brought : EndMemory) (room : Room) (k : ℕ) (stream : Stream) (payload : List ℕ) (s : State) → CanSettle n brought room s → CanSettle n brought room (put_output k stream payload s)
settle_put n brought room k stream payload s h =
    let t : State = put_output k stream payload s in
    record {
      clock = h.clock;
      launch = next_alike n brought.script s t refl refl h.launch;
      remove = remove_alike n brought room s t (record {
        removed = refl;
        kept = refl;
        numbers = refl;
        outputs = count_updated (is_output_of n s.execs) (λ (o : OwnedLog). same_owner o.owner (Owner.Exec k)) _ s.outputs (λ o. refl);
      }) h.remove;
      execs = h.execs;
      timers = h.timers;
    }

settle_exec_effect : (n : ℕ) (brought : EndMemory) (room : Room) (e : ProcessEffect) (k : ℕ) → Keeps (CanSettle n brought room) (by_effect e (Owner.Exec k))
settle_exec_effect n brought room Lives k s h = h
settle_exec_effect n brought room (Wrote stream payload) k s h = settle_put n brought room k stream payload s h
settle_exec_effect n brought room (Ended code) k s h = settle_end_exec n brought room code k s h

settle_thaw_execs : (n : ℕ) (brought : EndMemory) (room : Room) → Keeps (CanSettle n brought room) (thaw_execs n)
settle_thaw_execs n brought room s h =
    keeps_each (CanSettle n brought room) _ (λ (x : Exec) z k. settle_exec_effect n brought room (effect_of (thaw z.clock) (process_of (Owner.Exec x.number) z.processes)) x.number (stepped thaw (Owner.Exec x.number) z) (settle_stepped n brought room thaw (Owner.Exec x.number) z k)) (running_execs n s) s h

settle_wake : (n : ℕ) (brought : EndMemory) (room : Room) → Keeps (CanSettle n brought room) (in_order (wake_parts n))
settle_wake n brought room s h =
    settle_thaw_execs n brought room _
    (subst (λ (z : State). CanSettle n brought room (change_life n running z)) (sym (tell_still (plain_event Action.Unpause) n s)) (settle_renew n brought room LifeChange.Running (λ l. refl) s h))

pub settle_woken : (n : ℕ) (brought : EndMemory) (room : Room) (u : Status) → Keeps (CanSettle n brought room) (woken u n)
settle_woken n brought room Status.Paused s h = settle_wake n brought room s h
settle_woken n brought room Status.Created s h = h
settle_woken n brought room Status.Running s h = h
settle_woken n brought room Status.Restarting s h = h
settle_woken n brought room Status.Removing s h = h
settle_woken n brought room Status.Exited s h = h
settle_woken n brought room Status.Dead s h = h

-- ---- what is ready where an effect ends the main process

-- its end is one
pub main_ended : (effect : ProcessEffect) (code n : ℕ) (s : State) → effect ≡ Ended code → HasEnded (by_effect effect (Owner.Container n) s).died
main_ended effect code n s is =
    subst (λ (e : ProcessEffect). HasEnded (by_effect e (Owner.Container n) s).died) (sym is) (subst (λ (d : List Died). HasEnded d) (died_end_main code n s) tt)

-- by a step of it
pub end_stepped : (f : ℕ → Process → ProcessStep) (n : ℕ) (brought : EndMemory) (room other : Room) (s z : State) (e : ProcessEffect) → z ≡ stepped f (Owner.Container n) s → e ≡ effect_of (f s.clock) (process_of (Owner.Container n) s.processes) → other ≡ room
    → CanEndBy (step_process f (Owner.Container n)) n brought room s → CanEndBy (by_effect e (Owner.Container n)) n brought other z
end_stepped f n brought room other s z e state effect same h ended =
    subst (λ (r : Room). CanSettle n brought r z) (sym same)
    (subst (λ (y : State). CanSettle n brought room y) (sym state)
    (settle_stepped n brought room f (Owner.Container n) s (h
    (subst (λ (y : State). HasEnded (by_effect (effect_of (f s.clock) (process_of (Owner.Container n) s.processes)) (Owner.Container n) y).died) state
    (subst (λ (x : ProcessEffect). HasEnded (by_effect x (Owner.Container n) z).died) effect ended)))))

-- by a signal, behind the end of a pause
pub end_met : (number n : ℕ) (brought : EndMemory) (room other : Room) (s a : State) (c : Container) → container_numbered n s ≡ Some c → a ≡ (woken c.life.status n s).state → other ≡ room
    → CanEndBy (meet_signal number n) n brought room s → CanEndBy (send true number n) n brought other a
end_met number n brought room other s a c found woke same h ended =
    subst (λ (r : Room). CanSettle n brought r a) (sym same)
    (subst (λ (y : State). CanSettle n brought room y) (sym woke)
    (settle_woken n brought room c.life.status s (h (subst (λ (d : List Died). HasEnded d) (died_met number n s a c (send true number n a).died found woke refl) ended))))

-- by the end of a pause
pub end_thawed : (n : ℕ) (brought : EndMemory) (room other : Room) (s a : State) → a ≡ (in_order (wake_parts n) s).state → other ≡ room
    → CanEndBy (thaw_container n) n brought room s → CanEndBy (step_process thaw (Owner.Container n)) n brought other a
end_thawed n brought room other s a woke same h ended =
    subst (λ (r : Room). CanSettle n brought r a) (sym same)
    (subst (λ (y : State). CanSettle n brought room y) (sym woke)
    (settle_woken n brought room Status.Paused s (h (subst (λ (d : List Died). HasEnded d) (died_thaw n s a (step_process thaw (Owner.Container n) a).died woke refl) ended))))

-- by the last signal of a kill
pub end_last : (b : Bool) (number n : ℕ) (brought : EndMemory) (room other : Room) (s a : State) → b ≡ true → a ≡ change_life n by_hand s → other ≡ room
    → CanEndBy (deliver b number n) n brought room s → CanEndBy (meet_signal number n) n brought other a
end_last b number n brought room other s a is at same h ended =
    subst (λ (r : Room). CanSettle n brought r a) (sym same)
    (subst (λ (y : State). CanSettle n brought room y) (sym at)
    (settle_renew n brought room LifeChange.ByHand (λ l. refl) s (h
    (subst (λ (x : Bool). HasEnded (deliver x number n s).died) (sym is) (subst (λ (y : State). HasEnded (meet_signal number n y).died) at ended)))))

-- by another one
pub end_other : (b : Bool) (number n : ℕ) (brought : EndMemory) (room : Room) (s : State) → b ≡ false → CanEndBy (deliver b number n) n brought room s → CanEndBy (send false number n) n brought room s
end_other b number n brought room s is h ended = h (subst (λ (x : Bool). HasEnded (deliver x number n s).died) (sym is) ended)

pub none_pause : (n : ℕ) (s : State) → [] ≡ (pause n s).died
none_pause n s =
    let a : State = (freeze_process (Owner.Container n) s).state in
    let b : State = (freeze_execs n a).state in
    let none : (freeze_execs n a).died ≡ [] = none_each (λ (x : Exec). freeze_process (Owner.Exec x.number)) (λ x z. refl) (running_execs n a) a in
    sym (none_both (freeze_execs n a).died (tell_of (plain_event Action.Pause) n (change_life n paused b)).died none (none_tell (plain_event Action.Pause) n (change_life n paused b)))
