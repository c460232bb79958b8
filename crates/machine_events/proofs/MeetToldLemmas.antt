-- What is told before a signal is met is what its meeting tells, whatever the container's status.
use Rattle.std.proofs.Common.{◌≡◌, ℕ, ◌+◌, ◌==◌, Bool, true, false, List, [], ◌∷◌, ◌++◌, Option, Some, None, refl, ap, sym, ◌∙◌, find, map, if◌then◌else◌, append-nil}
use Rattle.std.specs.List.{flat_map}
use Rattle.engine_text.specs.Scripts.{Program}
use Rattle.engine_text.specs.Owner.{same_owner}
use Rattle.engine_text.specs.declared.container.Container.{Container}
use Rattle.engine_text.specs.declared.mounts.Mount.{Mount}
use Rattle.engine_text.specs.declared.container.Goal.{Goal}
use Rattle.engine_text.specs.declared.container.Life.{Life}
use Rattle.engine_text.specs.declared.event.Action.{Action}
use Rattle.engine_text.specs.declared.exec.Exec.{Exec}
use Rattle.engine_text.specs.declared.owner.Owner.{Owner}
use Rattle.engine_text.specs.declared.script.Effect.{Effect as ProcessEffect}
use Rattle.engine_text.specs.declared.script.Effect.TheVariants.{Lives, Wrote, Ended}
use Rattle.engine_text.specs.declared.status.Status.{Status}
use Rattle.proc_kernel.specs.Catalogue.{program_of}
use Rattle.proc_kernel.specs.Foretelling.{code_at, code_in}
use Rattle.proc_kernel.specs.Processes.{Process, thaw, signal}
use Rattle.proc_kernel.specs.Tables.{Entry, process_of, effect_of, change as changed_of, without as without_of}
use Rattle.machine_model.specs.Consistency.{AreDistinct}
use Rattle.machine_model.specs.State.{State, container_numbered, exec_numbered, running_execs, change_life, drop_process, change_exec}
use Rattle.machine_model.specs.Chain.{and_then, change, each, in_order, tell_of, with_found}
use Rattle.machine_model.specs.EventTexts.{plain_event, die_event, exec_die_event, mount_event}
use Rattle.machine_model.specs.Calls.Kill.{by_hand, deliver}
use Rattle.machine_model.specs.Effects.EndMain.{ended, decision_at, exec_ended}
use Rattle.machine_model.specs.Effects.Meet.{by_effect, step_process, stepped, thaw_execs, running, wake_parts, woken, send, meet_signal}
use Rattle.machine_events.specs.Foretold.{told_number, told_mounts, told_launch, told_gone, told_follow, told_goal, told_status, running_numbers, told_end, told_code}
use Rattle.machine_events.specs.ChangedLives.{renewed}
use Rattle.machine_events.specs.ToldMeet.{thawed_code, running_after, told_thaw, told_wake, told_meet, told_deliver}
use Rattle.machine_events.proofs.SettleLemmas.{tell_still}
use Rattle.machine_events.proofs.ToldLemmas.{AreAlike, end_told_of, found_renewed, running_changed, told_at}
use Rattle.machine_events.proofs.MeetLemmas.{exec_changed, send_told}
use Rattle.machine_events.proofs.WakeLemmas.{thaws_told, thaws_alike}
use Rattle.machine_events.proofs.WokenLemmas.{differ_running, same_running, runs_after}

-- ---- a signal to the main process, told from a state in which the same is told of its execs

pub effect_told_with : (e : ProcessEffect) (n : ℕ) (p : Process → Process) (s z : State) (c : Container) (o : Option Program) → AreAlike s z → container_numbered n z ≡ Some c → o ≡ program_of c.life.words (c.life.starts + 1)
    → (by_effect e (Owner.Container n) (record z { processes = changed_of (Owner.Container n) p z.processes })).events ≡ told_code (running_numbers n z) (code_in e) c o s
effect_told_with Lives n p s z c o a found named = refl
effect_told_with (Wrote stream payload) n p s z c o a found named = refl
effect_told_with (Ended code) n p s z c o a found named =
    end_told_of code n s (record z { processes = changed_of (Owner.Container n) p z.processes }) c (record { containers = a.containers; clock = a.clock; execs = a.execs }) found
    ∙ (ap (λ (xs : List Exec). told_end (map (λ (x : Exec). x.number) xs) code c (program_of c.life.words (c.life.starts + 1)) s) (running_changed n (Owner.Container n) p z)
    ∙ ap (λ q. told_end (running_numbers n z) code c q s) (sym named))

pub send_told_with : (thaws : Bool) (number n : ℕ) (s z : State) (c : Container) (o : Option Program) (code : Option ℕ) → AreAlike s z → container_numbered n z ≡ Some c → o ≡ program_of c.life.words (c.life.starts + 1)
    → code ≡ code_at (signal number thaws z.clock) (process_of (Owner.Container n) z.processes) → (send thaws number n z).events ≡ told_code (running_numbers n z) code c o s
send_told_with thaws number n s z c o code a found named is =
    effect_told_with (effect_of (signal number thaws z.clock) (process_of (Owner.Container n) z.processes)) n (λ p. (signal number thaws z.clock p).process) s z c o a found named
    ∙ ap (λ k. told_code (running_numbers n z) k c o s) (sym is)

-- ---- a thaw of execs leaves the main process

changed_either : (n : ℕ) (f : Process → Process) (b d : Bool) (e : Entry) (xs ys : List Entry) → (b ≡ true → d ≡ false) → same_owner e.owner (Owner.Container n) ≡ d → process_of (Owner.Container n) ys ≡ process_of (Owner.Container n) xs
    → process_of (Owner.Container n) (if b then record e { process = f e.process } ∷ xs else e ∷ ys) ≡ (if d then Some e.process else process_of (Owner.Container n) xs)
changed_either n f true true e xs ys other is h = let no : true ≡ false = other refl in absurd (cc)
changed_either n f true false e xs ys other is h = ap (λ c. if c then Some (f e.process) else process_of (Owner.Container n) xs) is
changed_either n f false true e xs ys other is h = ap (λ c. if c then Some e.process else process_of (Owner.Container n) ys) is
changed_either n f false false e xs ys other is h = ap (λ c. if c then Some e.process else process_of (Owner.Container n) ys) is ∙ h

apart : (o : Owner) (j n : ℕ) → same_owner o (Owner.Exec j) ≡ true → same_owner o (Owner.Container n) ≡ false
apart (Owner.Container m) j n e = absurd (cc)
apart (Owner.Exec m) j n e = refl

main_changed : (j n : ℕ) (f : Process → Process) (es : List Entry) → process_of (Owner.Container n) (changed_of (Owner.Exec j) f es) ≡ process_of (Owner.Container n) es
main_changed j n f [] = refl
main_changed j n f (e ∷ es) = changed_either n f (same_owner e.owner (Owner.Exec j)) (same_owner e.owner (Owner.Container n)) e es (changed_of (Owner.Exec j) f es) (apart e.owner j n) refl (main_changed j n f es)

without_either : (n : ℕ) (b d : Bool) (e : Entry) (xs ys : List Entry) → (b ≡ true → d ≡ false) → same_owner e.owner (Owner.Container n) ≡ d → process_of (Owner.Container n) ys ≡ process_of (Owner.Container n) xs
    → process_of (Owner.Container n) (if b then xs else e ∷ ys) ≡ (if d then Some e.process else process_of (Owner.Container n) xs)
without_either n true true e xs ys other is h = let no : true ≡ false = other refl in absurd (cc)
without_either n true false e xs ys other is h = refl
without_either n false true e xs ys other is h = ap (λ c. if c then Some e.process else process_of (Owner.Container n) ys) is
without_either n false false e xs ys other is h = ap (λ c. if c then Some e.process else process_of (Owner.Container n) ys) is ∙ h

main_without : (j n : ℕ) (es : List Entry) → process_of (Owner.Container n) (without_of (Owner.Exec j) es) ≡ process_of (Owner.Container n) es
main_without j n [] = refl
main_without j n (e ∷ es) = without_either n (same_owner e.owner (Owner.Exec j)) (same_owner e.owner (Owner.Container n)) e es (without_of (Owner.Exec j) es) (apart e.owner j n) refl (main_without j n es)

main_ended : (j n code : ℕ) (o : Option Exec) (s : State)
    → process_of (Owner.Container n) (with_found o (λ (x : Exec). and_then (tell_of (exec_die_event x.id code) x.container) (and_then (change (drop_process (Owner.Exec j))) (change (change_exec j (exec_ended code))))) s).state.processes ≡ process_of (Owner.Container n) s.processes
main_ended j n code None s = refl
main_ended j n code (Some x) s =
    ap (λ (z : State). process_of (Owner.Container n) (without_of (Owner.Exec j) z.processes)) (tell_still (exec_die_event x.id code) x.container s) ∙ main_without j n s.processes

main_effect : (j n : ℕ) (e : ProcessEffect) (s : State) → process_of (Owner.Container n) (by_effect e (Owner.Exec j) s).state.processes ≡ process_of (Owner.Container n) s.processes
main_effect j n Lives s = refl
main_effect j n (Wrote stream payload) s = refl
main_effect j n (Ended code) s = main_ended j n code (exec_numbered j s) s

pub main_thaws : (xs : List Exec) (n : ℕ) (s : State) → process_of (Owner.Container n) (each (λ (x : Exec). step_process thaw (Owner.Exec x.number)) xs s).state.processes ≡ process_of (Owner.Container n) s.processes
main_thaws [] n s = refl
main_thaws (x ∷ xs) n s =
    let j : ℕ = x.number in
    main_thaws xs n (step_process thaw (Owner.Exec j) s).state
    ∙ (main_effect j n (effect_of (thaw s.clock) (process_of (Owner.Exec j) s.processes)) (stepped thaw (Owner.Exec j) s)
    ∙ main_changed j n (λ p. (thaw s.clock p).process) s.processes)

-- ---- a change of the life that leaves mounts and goal leaves what is told

thaw_changed : (code : Option ℕ) (j n : ℕ) (f : Life → Life) (s : State) → told_thaw code j (change_life n f s) ≡ told_thaw code j s
thaw_changed None j n f s = refl
thaw_changed (Some code) j n f s = exec_changed code (exec_numbered j s) n f s

pub thaws_changed : (js : List ℕ) (n : ℕ) (f : Life → Life) (s : State) → flat_map (λ j. told_thaw (thawed_code j s) j (change_life n f s)) js ≡ flat_map (λ j. told_thaw (thawed_code j s) j s) js
thaws_changed [] n f s = refl
thaws_changed (j ∷ js) n f s =
    ap (λ l. l ++ flat_map (λ k. told_thaw (thawed_code k s) k (change_life n f s)) js) (thaw_changed (thawed_code j s) j n f s)
    ∙ ap (λ l. told_thaw (thawed_code j s) j s ++ l) (thaws_changed js n f s)

pub execs_changed : (ks : List ℕ) (n : ℕ) (f : Life → Life) (s : State) → flat_map (told_number (change_life n f s)) ks ≡ flat_map (told_number s) ks
execs_changed [] n f s = refl
execs_changed (k ∷ ks) n f s =
    ap (λ l. l ++ flat_map (told_number (change_life n f s)) ks) (exec_changed 137 (exec_numbered k s) n f s)
    ∙ ap (λ l. told_number s k ++ l) (execs_changed ks n f s)

-- of two lives with the same mounts, of which as much is told
pub record IsLike (t : ℕ) (k l : Life) : Type 0 where
  pub mounts : k.mounts ≡ l.mounts
  pub auto : k.auto_remove ≡ l.auto_remove
  pub goal : k.goal ≡ l.goal
  pub decided : l.goal ≡ Goal.None → (code : ℕ) → decision_at t (ended code t k) ≡ decision_at t (ended code t l)

launch_like : (o : Option Program) (t : ℕ) (c : Container) (k l : Life) → k.mounts ≡ l.mounts → told_launch o (record c { life = k }) t ≡ told_launch o (record c { life = l }) t
launch_like None t c k l e = refl
launch_like (Some program) t c k l e = ap (λ ms. map (λ (m : Mount). mount_event Action.Mount m.volume c t) ms ++ plain_event Action.Start c t ∷ []) e

-- the same is told of an end
goal_like : (g : Goal) (o : Option Program) (code t : ℕ) (c : Container) (k l : Life) → l.goal ≡ g → IsLike t k l
    → told_goal g o (record c { life = ended code t k }) t ≡ told_goal g o (record c { life = ended code t l }) t
goal_like Goal.Remove o code t c k l is h = refl
goal_like Goal.Stop o code t c k l is h = ap (λ b. plain_event Action.Stop c t ∷ told_gone b (plain_event Action.Destroy c t)) h.auto
goal_like Goal.Restart o code t c k l is h =
    ap (λ ls. plain_event Action.Stop c t ∷ (ls ++ plain_event Action.Restart c t ∷ [])) (launch_like o t c (ended code t k) (ended code t l) h.mounts)
goal_like Goal.None o code t c k l is h =
    ap (λ d. told_follow d k.auto_remove (plain_event Action.Destroy c t)) (h.decided is code)
    ∙ ap (λ b. told_follow (decision_at t (ended code t l)) b (plain_event Action.Destroy c t)) h.auto

pub by_goal_like : (o : Option Program) (code t : ℕ) (c : Container) (k l : Life) → IsLike t k l
    → told_goal k.goal o (record c { life = ended code t k }) t ≡ told_goal l.goal o (record c { life = ended code t l }) t
by_goal_like o code t c k l h =
    ap (λ x. told_goal x o (record c { life = ended code t k }) t) h.goal ∙ goal_like l.goal o code t c k l refl h

pub status_like : (u : Status) (o : Option Program) (code t : ℕ) (c : Container) (k l : Life) → IsLike t k l
    → told_status u o (record c { life = ended code t k }) t ≡ told_status u o (record c { life = ended code t l }) t
status_like Status.Dead o code t c k l h = refl
status_like Status.Created o code t c k l h = by_goal_like o code t c k l h
status_like Status.Running o code t c k l h = by_goal_like o code t c k l h
status_like Status.Paused o code t c k l h = by_goal_like o code t c k l h
status_like Status.Restarting o code t c k l h = by_goal_like o code t c k l h
status_like Status.Removing o code t c k l h = by_goal_like o code t c k l h
status_like Status.Exited o code t c k l h = by_goal_like o code t c k l h

pub code_kept : (ks : List ℕ) (code : Option ℕ) (n : ℕ) (f : Life → Life) (c : Container) (o : Option Program) (s : State) → (f c.life).mounts ≡ c.life.mounts
    → ((code : ℕ) → told_status (f c.life).status o (renewed (ended code s.clock) (renewed f c)) s.clock ≡ told_status c.life.status o (renewed (ended code s.clock) c) s.clock)
    → told_code ks code (renewed f c) o (change_life n f s) ≡ told_code ks code c o s
code_kept ks None n f c o s mounts status = refl
code_kept ks (Some code) n f c o s mounts status =
    ap (λ l. l ++ (die_event code c s.clock ∷ (told_mounts Action.Unmount (renewed f c) s.clock ++ told_status (f c.life).status o (renewed (ended code s.clock) (renewed f c)) s.clock))) (execs_changed ks n f s)
    ∙ (ap (λ ms. flat_map (told_number s) ks ++ (die_event code c s.clock ∷ (told_mounts Action.Unmount (record c { life = record c.life { mounts = ms } }) s.clock ++ told_status (f c.life).status o (renewed (ended code s.clock) (renewed f c)) s.clock))) mounts
    ∙ ap (λ l. flat_map (told_number s) ks ++ (die_event code c s.clock ∷ (told_mounts Action.Unmount c s.clock ++ l))) (status code))

-- ---- the end of a pause

-- the execs and the processes of a state stand once each
pub record StandOnce (s : State) : Type 0 where
  pub execs : AreDistinct (map (λ (x : Exec). x.number) s.execs)
  pub processes : AreDistinct (map (λ (y : Entry). y.owner) s.processes)

pub wake_told : (n : ℕ) (s : State) (c : Container) → container_numbered n s ≡ Some c → StandOnce s → (in_order (wake_parts n) s).events ≡ told_wake n c s
wake_told n s c found single =
    let s1 : State = change_life n running s in
    let thaws : (thaw_execs n s1).events ≡ flat_map (λ j. told_thaw (thawed_code j s) j s1) (running_numbers n s) =
    thaws_told (running_execs n s1) s1 s1 (record { containers = refl; clock = refl; execs = λ k. refl }) (differ_running n s1 single.execs) (same_running n s1) in
    ap (λ z. (tell_of (plain_event Action.Unpause) n s).events ++ ((thaw_execs n (change_life n running z)).events ++ [])) (tell_still (plain_event Action.Unpause) n s)
    ∙ (ap (λ l. l ++ ((thaw_execs n s1).events ++ [])) (told_at (plain_event Action.Unpause) n s c found)
    ∙ ap (λ l. plain_event Action.Unpause c s.clock ∷ l) (append-nil (thaw_execs n s1).events ∙ (thaws ∙ thaws_changed (running_numbers n s) n running s)))

pub paused_status : (u : Status) (o : Option Program) (code t : ℕ) (c : Container) → c.life.status ≡ u → u ≡ Status.Paused
    → told_status Status.Running o (renewed (ended code t) (renewed running c)) t ≡ told_status c.life.status o (renewed (ended code t) c) t
paused_status u o code t c is e =
    by_goal_like o code t c (running c.life) c.life (record { mounts = refl; auto = refl; goal = refl; decided = λ none code. refl })
    ∙ sym (ap (λ v. told_status v o (renewed (ended code t) c) t) (is ∙ e))

pub paused_told : (number n : ℕ) (s : State) (c : Container) (o : Option Program) (code : Option ℕ) → container_numbered n s ≡ Some c → c.life.status ≡ Status.Paused → o ≡ program_of c.life.words (c.life.starts + 1) → StandOnce s
    → code ≡ code_at (signal number true s.clock) (process_of (Owner.Container n) s.processes)
    → (and_then (in_order (wake_parts n)) (send true number n) s).events ≡ told_wake n c s ++ told_code (running_after n s) code c o s
paused_told number n s c o code found paused named single is =
    let s1 : State = change_life n running s in
    let c1 : Container = renewed running c in
    let xs : List Exec = running_execs n s1 in
    let z : State = (thaw_execs n s1).state in
    let a : AreAlike s1 z = thaws_alike xs s1 s1 (record { containers = refl; clock = refl; execs = λ k. refl }) in
    let f : container_numbered n z ≡ Some c1 = ap (find (λ (d : Container). d.number == n)) a.containers ∙ found_renewed n running s c found in
    let k : code ≡ code_at (signal number true z.clock) (process_of (Owner.Container n) z.processes) =
    is ∙ (sym (ap (λ t. code_at (signal number true t) (process_of (Owner.Container n) s.processes)) a.clock) ∙ sym (ap (λ q. code_at (signal number true z.clock) q) (main_thaws xs n s1))) in
    let sent : (send true number n z).events ≡ told_code (running_numbers n z) code c1 o s1 = send_told_with true number n s1 z c1 o code a f named k in
    let still : (in_order (wake_parts n) s).state ≡ z = ap (λ y. (thaw_execs n (change_life n running y)).state) (tell_still (plain_event Action.Unpause) n s) in
    ap (λ l. l ++ (send true number n (in_order (wake_parts n) s).state).events) (wake_told n s c found single)
    ∙ ap (λ l. told_wake n c s ++ l)
    (ap (λ y. (send true number n y).events) still
    ∙ (sent ∙ (ap (λ ks. told_code ks code c1 o s1) (runs_after n s1 single.execs single.processes)
    ∙ code_kept (running_after n s) code n running c o s refl (λ code. paused_status c.life.status o code s.clock c refl paused))))

pub by_status : (u : Status) (number n : ℕ) (s : State) (c : Container) (o : Option Program) (code : Option ℕ) → c.life.status ≡ u → container_numbered n s ≡ Some c → o ≡ program_of c.life.words (c.life.starts + 1) → StandOnce s
    → code ≡ code_at (signal number true s.clock) (process_of (Owner.Container n) s.processes) → (and_then (woken u n) (send true number n) s).events ≡ told_meet u code n c o s
by_status Status.Paused number n s c o code at found named single is = paused_told number n s c o code found at named single is
by_status Status.Created number n s c o code at found named single is = send_told true number n s c o code found named is
by_status Status.Running number n s c o code at found named single is = send_told true number n s c o code found named is
by_status Status.Restarting number n s c o code at found named single is = send_told true number n s c o code found named is
by_status Status.Removing number n s c o code at found named single is = send_told true number n s c o code found named is
by_status Status.Exited number n s c o code at found named single is = send_told true number n s c o code found named is
by_status Status.Dead number n s c o code at found named single is = send_told true number n s c o code found named is

-- a signal that is met
pub meet_told : (number n : ℕ) (s : State) (c : Container) (o : Option Program) (code : Option ℕ) → container_numbered n s ≡ Some c → o ≡ program_of c.life.words (c.life.starts + 1) → StandOnce s
    → code ≡ code_at (signal number true s.clock) (process_of (Owner.Container n) s.processes) → (meet_signal number n s).events ≡ told_meet c.life.status code n c o s
meet_told number n s c o code found named single is =
    ap (λ q. (with_found q (λ (d : Container). and_then (woken d.life.status n) (send true number n)) s).events) found
    ∙ by_status c.life.status number n s c o code refl found named single is

-- ---- the signal of a kill

-- a change of a life leaves the ends that are told of the same container
woken_by_hand : (ks : List ℕ) (code : Option ℕ) (n : ℕ) (d : Container) (o : Option Program) (s : State) → told_code ks code d o (change_life n by_hand s) ≡ told_code ks code d o s
woken_by_hand ks None n d o s = refl
woken_by_hand ks (Some code) n d o s =
    ap (λ l. l ++ (die_event code d s.clock ∷ (told_mounts Action.Unmount d s.clock ++ told_status d.life.status o (renewed (ended code s.clock) d) s.clock))) (execs_changed ks n by_hand s)

code_by_hand : (code : Option ℕ) (n : ℕ) (d : Container) (o : Option Program) (s : State) → told_code (running_numbers n (change_life n by_hand s)) code d o (change_life n by_hand s) ≡ told_code (running_numbers n s) code d o s
code_by_hand code n d o s = woken_by_hand (running_numbers n s) code n d o s

pub meet_by_hand : (u : Status) (code : Option ℕ) (n : ℕ) (c : Container) (o : Option Program) (s : State) → told_meet u code n (renewed by_hand c) o (change_life n by_hand s) ≡ told_meet u code n (renewed by_hand c) o s
meet_by_hand Status.Paused code n c o s =
    ap (λ l. (plain_event Action.Unpause c s.clock ∷ l) ++ told_code (running_after n s) code (renewed by_hand c) o (change_life n by_hand s)) (thaws_changed (running_numbers n s) n by_hand s)
    ∙ ap (λ l. told_wake n c s ++ l) (woken_by_hand (running_after n s) code n (renewed by_hand c) o s)
meet_by_hand Status.Created code n c o s = code_by_hand code n (renewed by_hand c) o s
meet_by_hand Status.Running code n c o s = code_by_hand code n (renewed by_hand c) o s
meet_by_hand Status.Restarting code n c o s = code_by_hand code n (renewed by_hand c) o s
meet_by_hand Status.Removing code n c o s = code_by_hand code n (renewed by_hand c) o s
meet_by_hand Status.Exited code n c o s = code_by_hand code n (renewed by_hand c) o s
meet_by_hand Status.Dead code n c o s = code_by_hand code n (renewed by_hand c) o s

pub delivered_told : (last : Bool) (number n : ℕ) (s : State) (c : Container) (o : Option Program) (code : Option ℕ) → container_numbered n s ≡ Some c → o ≡ program_of c.life.words (c.life.starts + 1) → StandOnce s
    → code ≡ code_at (signal number last s.clock) (process_of (Owner.Container n) s.processes) → (deliver last number n s).events ≡ told_deliver last code n c o s
delivered_told false number n s c o code found named single is = send_told false number n s c o code found named is
delivered_told true number n s c o code found named single is =
    meet_told number n (change_life n by_hand s) (renewed by_hand c) o code (found_renewed n by_hand s c found) named (record { execs = single.execs; processes = single.processes }) is
    ∙ meet_by_hand c.life.status code n c o s
