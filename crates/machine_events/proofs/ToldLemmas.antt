-- What is told before a step is what the step tells.
use Rattle.std.proofs.Common.{◌≡◌, ℕ, ◌+◌, ◌==◌, Bool, true, false, List, [], ◌∷◌, ◌++◌, Option, Some, None, refl, ap, sym, ◌∙◌, subst, find, map, filter, if◌then◌else◌}
use Rattle.std.specs.Prelude.{option_map, is_some}
use Rattle.std.specs.List.{flat_map}
use Rattle.engine_text.specs.Scripts.{Program}
use Rattle.engine_text.specs.Owner.{same_owner}
use Rattle.engine_text.specs.declared.container.Container.{Container}
use Rattle.engine_text.specs.declared.container.Life.{Life}
use Rattle.engine_text.specs.declared.container.Goal.{Goal}
use Rattle.engine_text.specs.declared.event.Action.{Action}
use Rattle.engine_text.specs.declared.event.Event.{Event}
use Rattle.engine_text.specs.declared.exec.Exec.{Exec}
use Rattle.engine_text.specs.declared.mounts.Mount.{Mount}
use Rattle.engine_text.specs.declared.owner.Owner.{Owner}
use Rattle.engine_text.specs.declared.status.Status.{Status}
use Rattle.container_table.specs.Lists.{update_first}
use Rattle.proc_kernel.specs.Catalogue.{program_of}
use Rattle.proc_kernel.specs.Processes.{Process}
use Rattle.proc_kernel.specs.Tables.{Entry, process_of, change as changed_of}
use Rattle.restart_policy.specs.declared.decision.Decision.{Decision}
use Rattle.restart_policy.specs.declared.decision.Decision.TheVariants.{Stay, Again}
use Rattle.machine_model.specs.State.{State, container_numbered, exec_numbered, running_execs, change_life, drop_process, change_exec}
use Rattle.machine_model.specs.EventTexts.{plain_event, die_event, exec_die_event, mount_event}
use Rattle.machine_model.specs.Chain.{and_then, each, change, tell_of, tell_mounts, with_found}
use Rattle.machine_model.specs.Effects.Destroy.{without}
use Rattle.machine_model.specs.Effects.EndMain.{end_main, end_exec, exec_ended, end_execs, die, ended, exited, clear_deadlines, by_goal, by_status, removed_if, follow, decision_at}
use Rattle.machine_model.specs.Effects.Launch.{launch, launch_program, launched, afresh, container_room}
use Rattle.machine_events.specs.Foretold.{told_of, told_exec, told_number, running_numbers, ending_as, told_mounts, told_launch, told_gone, told_follow, told_goal, told_status}
use Rattle.machine_events.specs.ChangedLives.{renewed}
use Rattle.machine_events.specs.declared.foretell_end.Ending.{Ending}
use Rattle.machine_events.specs.Effects.EndMain.{begun}
use Rattle.machine_events.proofs.EachLemmas.{same_filter}
use Rattle.machine_events.proofs.SettleLemmas.{begun_is, found_updated, has_number, told, tell_still}

pub found_renewed : (n : ℕ) (f : Life → Life) (s : State) (c : Container) → container_numbered n s ≡ Some c → container_numbered n (change_life n f s) ≡ Some (renewed f c)
found_renewed n f s c e = found_updated (λ (d : Container). d.number == n) (renewed f) s.containers (λ d. refl) ∙ ap (option_map (renewed f)) e

pub told_at : (event : Container → ℕ → Event) (n : ℕ) (s : State) (c : Container) → container_numbered n s ≡ Some c → (tell_of event n s).events ≡ event c s.clock ∷ []
told_at event n s c e = ap (λ o. (with_found o (λ (d : Container) (z : State). record { state = z; events = event d z.clock ∷ []; died = [] }) s).events) e

pub mounts_at : (a : Action) (n : ℕ) (s : State) (c : Container) → container_numbered n s ≡ Some c → (tell_mounts a n s).events ≡ told_mounts a c s.clock
mounts_at a n s c e = ap (λ o. (with_found o (λ (d : Container) (z : State). record { state = z; events = map (λ (m : Mount). mount_event a m.volume d z.clock) d.life.mounts; died = [] }) s).events) e

-- ---- execs

-- what an exec's end tells of it
record Face : Type 0 where
  id : List ℕ
  container : ℕ

abbrev face : Exec → Face
face x = record { id = x.id; container = x.container }

face_either : (b d : Bool) (k j : ℕ) (code : ℕ) (x : Exec) (xs ys : List Exec) → option_map face (find (λ y. y.number == k) ys) ≡ option_map face (find (λ y. y.number == k) xs) → (x.number == k) ≡ d
    → option_map face (find (λ y. y.number == k) (if b then exec_ended code x ∷ xs else x ∷ ys)) ≡ option_map face (if d then Some x else find (λ y. y.number == k) xs)
face_either true true k j code x xs ys e h = ap (λ c. option_map face (if c then Some (exec_ended code x) else find (λ y. y.number == k) xs)) h
face_either true false k j code x xs ys e h = ap (λ c. option_map face (if c then Some (exec_ended code x) else find (λ y. y.number == k) xs)) h
face_either false true k j code x xs ys e h = ap (λ c. option_map face (if c then Some x else find (λ y. y.number == k) ys)) h
face_either false false k j code x xs ys e h = ap (λ c. option_map face (if c then Some x else find (λ y. y.number == k) ys)) h ∙ e

face_ended : (k j code : ℕ) (xs : List Exec) → option_map face (find (λ y. y.number == k) (update_first (λ y. y.number == j) (exec_ended code) xs)) ≡ option_map face (find (λ y. y.number == k) xs)
face_ended k j code [] = refl
face_ended k j code (x ∷ xs) = face_either (x.number == j) (x.number == k) k j code x xs (update_first (λ y. y.number == j) (exec_ended code) xs) (face_ended k j code xs) refl

-- two states in which the same is told of execs
pub record AreAlike (s z : State) : Type 0 where
  pub containers : z.containers ≡ s.containers
  pub clock : z.clock ≡ s.clock
  pub execs : (k : ℕ) → option_map face (exec_numbered k z) ≡ option_map face (exec_numbered k s)

told_face : ℕ → Option Face → List Container → ℕ → List Event
told_face code None cs t = []
told_face code (Some f) cs t = told_of (λ c. exec_die_event f.id code c t) (find (λ c. c.number == f.container) cs)

by_face : (code : ℕ) (o : Option Exec) (s : State) → told_exec code o s ≡ told_face code (option_map face o) s.containers s.clock
unfolding told_face
by_face code None s = refl
by_face code (Some x) s = refl

alike_told : (s z : State) (k : ℕ) → AreAlike s z → told_number z k ≡ told_number s k
alike_told s z k a =
    by_face 137 (exec_numbered k z) z
    ∙ (ap (λ o. told_face 137 o z.containers z.clock) (a.execs k)
    ∙ (ap (λ cs. told_face 137 (option_map face (exec_numbered k s)) cs z.clock) a.containers
    ∙ (ap (told_face 137 (option_map face (exec_numbered k s)) s.containers) a.clock ∙ sym (by_face 137 (exec_numbered k s) s))))

pub alike_told_exec : (code k : ℕ) (s z : State) → AreAlike s z → told_exec code (exec_numbered k z) z ≡ told_exec code (exec_numbered k s) s
alike_told_exec code k s z a =
    by_face code (exec_numbered k z) z
    ∙ (ap (λ o. told_face code o z.containers z.clock) (a.execs k)
    ∙ (ap (λ cs. told_face code (option_map face (exec_numbered k s)) cs z.clock) a.containers
    ∙ (ap (told_face code (option_map face (exec_numbered k s)) s.containers) a.clock ∙ sym (by_face code (exec_numbered k s) s))))

nil_end : {A : Type 0} (xs : List A) → xs ++ [] ≡ xs
nil_end [] = refl
nil_end (x ∷ xs) = ap (λ l. x ∷ l) (nil_end xs)

told_found : (event : Container → ℕ → Event) (o : Option Container) (s : State) → (with_found o (λ (d : Container) (z : State). record { state = z; events = event d z.clock ∷ []; died = [] }) s).events ≡ told_of (λ c. event c s.clock) o
told_found event None s = refl
told_found event (Some c) s = refl

pub exec_found : (code k : ℕ) (o : Option Exec) (s : State)
    → (with_found o (λ (x : Exec). and_then (tell_of (exec_die_event x.id code) x.container) (and_then (change (drop_process (Owner.Exec k))) (change (change_exec k (exec_ended code))))) s).events ≡ told_exec code o s
exec_found code k None s = refl
exec_found code k (Some x) s = nil_end (tell_of (exec_die_event x.id code) x.container s).events ∙ told_found (exec_die_event x.id code) (container_numbered x.container s) s

pub exec_told : (k : ℕ) (s : State) → (end_exec 137 k s).events ≡ told_number s k
exec_told k s = exec_found 137 k (exec_numbered k s) s

alike_state : (code k : ℕ) (s : State) → AreAlike s (change_exec k (exec_ended code) (drop_process (Owner.Exec k) s))
alike_state code k s = record { containers = refl; clock = refl; execs = λ j. face_ended j k code s.execs }

alike_found : (code k : ℕ) (o : Option Exec) (s : State)
    → AreAlike s (with_found o (λ (x : Exec). and_then (tell_of (exec_die_event x.id code) x.container) (and_then (change (drop_process (Owner.Exec k))) (change (change_exec k (exec_ended code))))) s).state
alike_found code k None s = record { containers = refl; clock = refl; execs = λ j. refl }
alike_found code k (Some x) s =
    subst (λ (z : State). AreAlike s (change_exec k (exec_ended code) (drop_process (Owner.Exec k) z))) (sym (tell_still (exec_die_event x.id code) x.container s)) (alike_state code k s)

pub alike_exec : (code k : ℕ) (s : State) → AreAlike s (end_exec code k s).state
alike_exec code k s = alike_found code k (exec_numbered k s) s

pub alike_both : (s z y : State) → AreAlike s z → AreAlike z y → AreAlike s y
alike_both s z y a b = record { containers = b.containers ∙ a.containers; clock = b.clock ∙ a.clock; execs = λ k. b.execs k ∙ a.execs k }

pub each_told : (xs : List Exec) (s z : State) → AreAlike s z
    → (each (λ (x : Exec). end_exec 137 x.number) xs z).events ≡ flat_map (told_number s) (map (λ (x : Exec). x.number) xs)
each_told [] s z a = refl
each_told (x ∷ xs) s z a =
    ap (λ l. l ++ (each (λ (x : Exec). end_exec 137 x.number) xs (end_exec 137 x.number z).state).events) (exec_told x.number z ∙ alike_told s z x.number a)
    ∙ ap (λ l. told_number s x.number ++ l) (each_told xs s (end_exec 137 x.number z).state (alike_both s z (end_exec 137 x.number z).state a (alike_exec 137 x.number z)))

pub each_alike : (xs : List Exec) (s : State) → AreAlike s (each (λ (x : Exec). end_exec 137 x.number) xs s).state
each_alike [] s = record { containers = refl; clock = refl; execs = λ j. refl }
each_alike (x ∷ xs) s = alike_both s (end_exec 137 x.number s).state _ (alike_exec 137 x.number s) (each_alike xs (end_exec 137 x.number s).state)

-- ---- a launch

launch_some_told : (program : Program) (c : Container) (s : State) → container_numbered c.number s ≡ Some c → (launch_program (Some program) c s).events ≡ told_launch (Some program) c s.clock
launch_some_told program c s e =
    let n : ℕ = c.number in
    let z : State = begun n program c.life.open_stdin (container_room c) s in
    let f : container_numbered n z ≡ Some (renewed (launched s) c) = found_renewed n (launched s) s c e in
    let y : State = (tell_mounts Action.Mount n z).state in
    let g : container_numbered n y ≡ Some (renewed (launched s) c) = ap (container_numbered n) (told z (container_numbered n z) _ (λ d x. refl)) ∙ f in
    let t : y.clock ≡ s.clock = ap (λ (x : State). x.clock) (told z (container_numbered n z) _ (λ d x. refl)) in
    ap (λ l. l ++ (tell_of (plain_event Action.Start) n y).events) (mounts_at Action.Mount n z (renewed (launched s) c) f)
    ∙ ap (λ l. told_mounts Action.Mount c s.clock ++ l) (told_at (plain_event Action.Start) n y (renewed (launched s) c) g ∙ ap (λ k. plain_event Action.Start c k ∷ []) t)

launch_any_told : (o : Option Program) (c : Container) (s : State) → container_numbered c.number s ≡ Some c → (launch_program o c s).events ≡ told_launch o c s.clock
launch_any_told None c s e = refl
launch_any_told (Some program) c s e = launch_some_told program c s e

pub launch_told : (n : ℕ) (c : Container) (s : State) → container_numbered n s ≡ Some c → (launch n s).events ≡ told_launch (program_of c.life.words (c.life.starts + 1)) c s.clock
launch_told n c s e =
    let k : container_numbered c.number s ≡ Some c = ap (λ m. container_numbered m s) (has_number n s c e) ∙ e in
    ap (λ o. (with_found o (λ (d : Container). launch_program (program_of d.life.words (d.life.starts + 1)) d) s).events) e
    ∙ launch_any_told (program_of c.life.words (c.life.starts + 1)) c s k

-- ---- what follows an end

quiet_found : (o : Option Container) (s : State) → (with_found o (λ (c : Container). change (without c)) s).events ≡ []
quiet_found None s = refl
quiet_found (Some c) s = refl

-- one that is removed by itself tells of its destroy
gone_told : (auto : Bool) (n : ℕ) (c : Container) (s : State) → container_numbered n s ≡ Some c → (removed_if auto n s).events ≡ told_gone auto (plain_event Action.Destroy c s.clock)
gone_told false n c s e = refl
gone_told true n c s e =
    let z : State = (tell_of (plain_event Action.Destroy) n s).state in
    ap (λ l. l ++ (with_found (container_numbered n z) (λ (d : Container). change (without d)) z).events) (told_at (plain_event Action.Destroy) n s c e)
    ∙ ap (λ l. plain_event Action.Destroy c s.clock ∷ l) (quiet_found (container_numbered n z) z)

follow_told : (d : Decision) (auto : Bool) (c : Container) (s : State) → container_numbered c.number s ≡ Some c → (follow d auto c.number s).events ≡ told_follow d auto (plain_event Action.Destroy c s.clock)
follow_told Stay auto c s e = gone_told auto c.number (renewed exited c) (change_life c.number exited s) (found_renewed c.number exited s c e)
follow_told (Again delay) auto c s e = refl

pub same_launch : (o : Option Program) (f : Life → Life) (c : Container) (t : ℕ) → (f c.life).mounts ≡ c.life.mounts → told_launch o (renewed f c) t ≡ told_launch o c t
same_launch None f c t e = refl
same_launch (Some program) f c t e = ap (λ ms. map (λ (m : Mount). mount_event Action.Mount m.volume c t) ms ++ plain_event Action.Start c t ∷ []) e

after_launch : (a : Action) (o : Option Program) (c : Container) (s : State) → container_numbered c.number s ≡ Some c → (tell_of (plain_event a) c.number (launch_program o c s).state).events ≡ plain_event a c s.clock ∷ []
after_launch a None c s e = told_at (plain_event a) c.number s c e
after_launch a (Some program) c s e =
    ap (λ y. (tell_of (plain_event a) c.number y).events) (begun_is program c s)
    ∙ told_at (plain_event a) c.number (begun c.number program c.life.open_stdin (container_room c) s) (renewed (launched s) c) (found_renewed c.number (launched s) s c e)

pub launch_then : (a : Action) (c : Container) (s : State) → container_numbered c.number s ≡ Some c → (tell_of (plain_event a) c.number (launch c.number s).state).events ≡ plain_event a c s.clock ∷ []
launch_then a c s e =
    ap (λ o. (tell_of (plain_event a) c.number (with_found o (λ (d : Container). launch_program (program_of d.life.words (d.life.starts + 1)) d) s).state).events) e
    ∙ after_launch a (program_of c.life.words (c.life.starts + 1)) c s e

restart_told : (c : Container) (s : State) → container_numbered c.number s ≡ Some c → (by_goal Goal.Restart c s).events ≡ told_goal Goal.Restart (program_of c.life.words (c.life.starts + 1)) c s.clock
restart_told c s e =
    let n : ℕ = c.number in
    let o : Option Program = program_of c.life.words (c.life.starts + 1) in
    let b : State = change_life n afresh s in
    let f : container_numbered n b ≡ Some (renewed afresh c) = found_renewed n afresh s c e in
    let first : (launch n b).events ≡ told_launch o c s.clock = launch_told n (renewed afresh c) b f ∙ same_launch o afresh c s.clock refl in
    let last : (tell_of (plain_event Action.Restart) n (launch n b).state).events ≡ plain_event Action.Restart c s.clock ∷ [] = launch_then Action.Restart (renewed afresh c) b f in
    ap (λ z. (tell_of (plain_event Action.Stop) n s).events ++ ((launch n (change_life n afresh z)).events ++ (tell_of (plain_event Action.Restart) n (launch n (change_life n afresh z)).state).events)) (tell_still (plain_event Action.Stop) n s)
    ∙ (ap (λ l. l ++ ((launch n b).events ++ (tell_of (plain_event Action.Restart) n (launch n b).state).events)) (told_at (plain_event Action.Stop) n s c e)
    ∙ (ap (λ l. plain_event Action.Stop c s.clock ∷ (l ++ (tell_of (plain_event Action.Restart) n (launch n b).state).events)) first
    ∙ ap (λ l. plain_event Action.Stop c s.clock ∷ (told_launch o c s.clock ++ l)) last))

-- a restart tells the same of the container as it ended
pub restart_ended : (o : Option Program) (code t : ℕ) (ending : Ending) (c : Container) → told_goal Goal.Restart o (renewed (ended code t) (ending_as ending c)) t ≡ told_goal Goal.Restart o c t
restart_ended None code t ending c = refl
restart_ended (Some program) code t ending c = refl

goal_told : (g : Goal) (c : Container) (s : State) → container_numbered c.number s ≡ Some c → (by_goal g c s).events ≡ told_goal g (program_of c.life.words (c.life.starts + 1)) c s.clock
goal_told Goal.Remove c s e = gone_told true c.number c s e
goal_told Goal.Stop c s e =
    let n : ℕ = c.number in
    let z : State = change_life n exited s in
    let found : container_numbered n z ≡ Some (renewed exited c) = found_renewed n exited s c e in
    ap (λ y. (tell_of (plain_event Action.Stop) n z).events ++ (removed_if c.life.auto_remove n y).events) (tell_still (plain_event Action.Stop) n z)
    ∙ (ap (λ l. l ++ (removed_if c.life.auto_remove n z).events) (told_at (plain_event Action.Stop) n z (renewed exited c) found)
    ∙ ap (λ l. plain_event Action.Stop c s.clock ∷ l) (gone_told c.life.auto_remove n (renewed exited c) z found))
goal_told Goal.Restart c s e = restart_told c s e
goal_told Goal.None c s e = follow_told (decision_at s.clock c.life) c.life.auto_remove c s e

status_told : (u : Status) (c : Container) (s : State) → container_numbered c.number s ≡ Some c → (by_status u c s).events ≡ told_status u (program_of c.life.words (c.life.starts + 1)) c s.clock
status_told Status.Dead c s e = refl
status_told Status.Created c s e = goal_told c.life.goal c s e
status_told Status.Running c s e = goal_told c.life.goal c s e
status_told Status.Paused c s e = goal_told c.life.goal c s e
status_told Status.Restarting c s e = goal_told c.life.goal c s e
status_told Status.Removing c s e = goal_told c.life.goal c s e
status_told Status.Exited c s e = goal_told c.life.goal c s e

-- ---- an end

-- the parts of an end, in a state in which the execs have ended
rest_told : (code n : ℕ) (s : State) (c : Container) → container_numbered n s ≡ Some c
    → (tell_of (die_event code) n s).events ++ ((tell_mounts Action.Unmount n (clear_deadlines n (die code n s).state)).events ++ ((with_found (container_numbered n (tell_mounts Action.Unmount n (clear_deadlines n (die code n s).state)).state) (λ (d : Container). by_status d.life.status d) (tell_mounts Action.Unmount n (clear_deadlines n (die code n s).state)).state).events ++ []))
    ≡ die_event code c s.clock ∷ (told_mounts Action.Unmount c s.clock ++ told_status c.life.status (program_of c.life.words (c.life.starts + 1)) (renewed (ended code s.clock) c) s.clock)
rest_told code n s c e =
    let d : State = clear_deadlines n (die code n s).state in
    let c2 : Container = renewed (ended code s.clock) c in
    let f : container_numbered n d ≡ Some c2 = found_renewed n (ended code s.clock) (drop_process (Owner.Container n) s) c e in
    let y : State = (tell_mounts Action.Unmount n d).state in
    let at : y ≡ d = told d (container_numbered n d) _ (λ c x. refl) in
    let k : container_numbered c2.number d ≡ Some c2 = ap (λ m. container_numbered m d) (has_number n s c e) ∙ f in
    let last : (with_found (container_numbered n d) (λ (d : Container). by_status d.life.status d) d).events ≡ told_status c.life.status (program_of c.life.words (c.life.starts + 1)) (renewed (ended code s.clock) c) s.clock =
    ap (λ o. (with_found o (λ (d : Container). by_status d.life.status d) d).events) f ∙ status_told c.life.status c2 d k in
    ap (λ l. l ++ ((tell_mounts Action.Unmount n d).events ++ ((with_found (container_numbered n y) (λ (d : Container). by_status d.life.status d) y).events ++ []))) (told_at (die_event code) n s c e)
    ∙ (ap (λ l. die_event code c s.clock ∷ (l ++ ((with_found (container_numbered n y) (λ (d : Container). by_status d.life.status d) y).events ++ []))) (mounts_at Action.Unmount n d c2 f)
    ∙ (ap (λ z. die_event code c s.clock ∷ (told_mounts Action.Unmount c s.clock ++ ((with_found (container_numbered n z) (λ (d : Container). by_status d.life.status d) z).events ++ []))) at
    ∙ ap (λ l. die_event code c s.clock ∷ (told_mounts Action.Unmount c s.clock ++ l)) (nil_end _ ∙ last)))

end_parts : (code n : ℕ) (s a : State) (c : Container) → a.containers ≡ s.containers → a.clock ≡ s.clock → container_numbered n s ≡ Some c
    → (tell_of (die_event code) n a).events ++ ((tell_mounts Action.Unmount n (clear_deadlines n (die code n (tell_of (die_event code) n a).state).state)).events ++ ((with_found (container_numbered n (tell_mounts Action.Unmount n (clear_deadlines n (die code n (tell_of (die_event code) n a).state).state)).state) (λ (d : Container). by_status d.life.status d) (tell_mounts Action.Unmount n (clear_deadlines n (die code n (tell_of (die_event code) n a).state).state)).state).events ++ []))
    ≡ die_event code c s.clock ∷ (told_mounts Action.Unmount c s.clock ++ told_status c.life.status (program_of c.life.words (c.life.starts + 1)) (renewed (ended code s.clock) c) s.clock)
end_parts code n s a c same clock e =
    let g : container_numbered n a ≡ Some c = ap (find (λ (d : Container). d.number == n)) same ∙ e in
    ap (λ z. (tell_of (die_event code) n a).events ++ ((tell_mounts Action.Unmount n (clear_deadlines n (die code n z).state)).events ++ ((with_found (container_numbered n (tell_mounts Action.Unmount n (clear_deadlines n (die code n z).state)).state) (λ (d : Container). by_status d.life.status d) (tell_mounts Action.Unmount n (clear_deadlines n (die code n z).state)).state).events ++ []))) (tell_still (die_event code) n a)
    ∙ (rest_told code n a c g ∙ ap (λ t. die_event code c t ∷ (told_mounts Action.Unmount c t ++ told_status c.life.status (program_of c.life.words (c.life.starts + 1)) (renewed (ended code t) c) t)) clock)

-- the end of a main process, told from a state in which the same is told of its execs
pub end_told_of : (code n : ℕ) (s z : State) (c : Container) → AreAlike s z → container_numbered n z ≡ Some c
    → (end_main code n z).events ≡ flat_map (told_number s) (map (λ (x : Exec). x.number) (running_execs n z)) ++ (die_event code c s.clock ∷ (told_mounts Action.Unmount c s.clock ++ told_status c.life.status (program_of c.life.words (c.life.starts + 1)) (renewed (ended code s.clock) c) s.clock))
end_told_of code n s z c a e =
    let y : State = (end_execs n z).state in
    let b : AreAlike z y = each_alike (running_execs n z) z in
    let execs : List Event = flat_map (told_number s) (map (λ (x : Exec). x.number) (running_execs n z)) in
    let first : (end_execs n z).events ≡ execs = each_told (running_execs n z) s z a in
    ap (λ l. l ++ ((tell_of (die_event code) n y).events ++ ((tell_mounts Action.Unmount n (clear_deadlines n (die code n (tell_of (die_event code) n y).state).state)).events ++ ((with_found (container_numbered n (tell_mounts Action.Unmount n (clear_deadlines n (die code n (tell_of (die_event code) n y).state).state)).state) (λ (d : Container). by_status d.life.status d) (tell_mounts Action.Unmount n (clear_deadlines n (die code n (tell_of (die_event code) n y).state).state)).state).events ++ [])))) first
    ∙ ap (λ l. execs ++ l) (end_parts code n z y c b.containers b.clock e ∙ ap (λ t. die_event code c t ∷ (told_mounts Action.Unmount c t ++ told_status c.life.status (program_of c.life.words (c.life.starts + 1)) (renewed (ended code t) c) t)) a.clock)

-- the same execs running
pub end_told : (code n : ℕ) (s z : State) (c : Container) → AreAlike s z → running_execs n z ≡ running_execs n s → container_numbered n z ≡ Some c
    → (end_main code n z).events ≡ flat_map (told_number s) (running_numbers n s) ++ (die_event code c s.clock ∷ (told_mounts Action.Unmount c s.clock ++ told_status c.life.status (program_of c.life.words (c.life.starts + 1)) (renewed (ended code s.clock) c) s.clock))
end_told code n s z c a same e =
    end_told_of code n s z c a e
    ∙ ap (λ (xs : List Exec). flat_map (told_number s) (map (λ (x : Exec). x.number) xs) ++ (die_event code c s.clock ∷ (told_mounts Action.Unmount c s.clock ++ told_status c.life.status (program_of c.life.words (c.life.starts + 1)) (renewed (ended code s.clock) c) s.clock))) same

-- ---- a step of the main process

stands_either : (o p : Owner) (f : Process → Process) (b d : Bool) (e : Entry) (xs ys : List Entry) → is_some (process_of o ys) ≡ is_some (process_of o xs) → same_owner e.owner o ≡ d
    → is_some (process_of o (if b then record e { process = f e.process } ∷ xs else e ∷ ys)) ≡ is_some (if d then Some e.process else process_of o xs)
stands_either o p f true true e xs ys h k = ap (λ c. is_some (if c then Some (f e.process) else process_of o xs)) k
stands_either o p f true false e xs ys h k = ap (λ c. is_some (if c then Some (f e.process) else process_of o xs)) k
stands_either o p f false true e xs ys h k = ap (λ c. is_some (if c then Some e.process else process_of o ys)) k
stands_either o p f false false e xs ys h k = ap (λ c. is_some (if c then Some e.process else process_of o ys)) k ∙ h

-- a step leaves who lives
pub stands_changed : (o p : Owner) (f : Process → Process) (es : List Entry) → is_some (process_of o (changed_of p f es)) ≡ is_some (process_of o es)
stands_changed o p f [] = refl
stands_changed o p f (e ∷ es) = stands_either o p f (same_owner e.owner p) (same_owner e.owner o) e es (changed_of p f es) (stands_changed o p f es) refl

pub running_changed : (n : ℕ) (p : Owner) (f : Process → Process) (s : State) → running_execs n (record s { processes = changed_of p f s.processes }) ≡ running_execs n s
running_changed n p f s = same_filter (λ x. is_some (process_of (Owner.Exec x.number) (changed_of p f s.processes))) (λ x. is_some (process_of (Owner.Exec x.number) s.processes))
    (λ x. stands_changed (Owner.Exec x.number) p f s.processes) (filter (λ x. x.container == n) s.execs)
