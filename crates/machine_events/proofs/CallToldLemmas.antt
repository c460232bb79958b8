-- What is told before an unpause, a launch, a removal or what is due of a container is what it tells.
use Rattle.std.proofs.Common.{◌≡◌, ℕ, ◌+◌, ◌==◌, List, [], ◌∷◌, ◌++◌, Option, Some, None, refl, ap, sym, ◌∙◌, find}
use Rattle.engine_text.specs.Scripts.{Program}
use Rattle.engine_text.specs.declared.container.Container.{Container}
use Rattle.engine_text.specs.declared.container.Life.{Life}
use Rattle.engine_text.specs.declared.event.Action.{Action}
use Rattle.engine_text.specs.declared.exec.Exec.{Exec}
use Rattle.engine_text.specs.declared.owner.Owner.{Owner}
use Rattle.engine_text.specs.declared.status.Status.{Status}
use Rattle.proc_kernel.specs.Catalogue.{program_of}
use Rattle.proc_kernel.specs.Foretelling.{code_at}
use Rattle.proc_kernel.specs.Processes.{run_due, thaw}
use Rattle.proc_kernel.specs.Tables.{Entry, effect_of, process_of}
use Rattle.machine_model.specs.State.{State, container_numbered, owner_number, running_execs, change_life, clear_timer}
use Rattle.machine_model.specs.EventTexts.{kill_event, plain_event}
use Rattle.machine_model.specs.Chain.{and_then, change, in_order, tell_of, with_found}
use Rattle.machine_model.specs.Calls.Restart.{launch_again}
use Rattle.machine_model.specs.Due.{died, time_out, op_effect, removal_deadline, restart_timer, restarted}
use Rattle.machine_model.specs.Effects.Cancel.{cancel_restart, cancelled}
use Rattle.machine_model.specs.Effects.Destroy.{destroy, without}
use Rattle.machine_model.specs.Effects.Launch.{afresh, launch_by_call}
use Rattle.machine_model.specs.Effects.Meet.{running, step_process, thaw_container, thaw_execs, wake_parts}
use Rattle.machine_events.specs.Foretold.{running_numbers, told_code, told_launch}
use Rattle.machine_events.specs.ChangedLives.{renewed}
use Rattle.machine_events.specs.ToldCalls.{told_again, told_main, told_op}
use Rattle.machine_events.specs.ToldMeet.{running_after, told_meet, told_thaw, told_wake}
use Rattle.machine_events.proofs.SettleLemmas.{has_number, tell_still}
use Rattle.machine_events.proofs.ToldLemmas.{AreAlike, found_renewed, launch_then, launch_told, same_launch, told_at}
use Rattle.machine_events.proofs.MeetLemmas.{effect_told}
use Rattle.machine_events.proofs.MeetToldLemmas.{StandOnce, code_kept, effect_told_with, main_thaws, paused_status, wake_told}
use Rattle.machine_events.proofs.WakeLemmas.{thaws_alike}
use Rattle.machine_events.proofs.WakeLemmas as Wake
use Rattle.machine_events.proofs.WokenLemmas.{runs_after}
use Rattle.container_table.specs.declared.rank.Rank.{Rank}

-- ---- an unpause

pub unpause_told : (n : ℕ) (s : State) (c : Container) (o : Option Program) (code : Option ℕ) → container_numbered n s ≡ Some c → c.life.status ≡ Status.Paused → o ≡ program_of c.life.words (c.life.starts + 1) → StandOnce s
    → code ≡ code_at (thaw s.clock) (process_of (Owner.Container n) s.processes) → (thaw_container n s).events ≡ told_meet Status.Paused code n c o s
unpause_told n s c o code found paused named single is =
    let s1 : State = change_life n running s in
    let c1 : Container = renewed running c in
    let xs : List Exec = running_execs n s1 in
    let z : State = (thaw_execs n s1).state in
    let a : AreAlike s1 z = thaws_alike xs s1 s1 (record { containers = refl; clock = refl; execs = λ k. refl }) in
    let f : container_numbered n z ≡ Some c1 = ap (find (λ (d : Container). d.number == n)) a.containers ∙ found_renewed n running s c found in
    let k : code ≡ code_at (thaw z.clock) (process_of (Owner.Container n) z.processes) =
    is ∙ (sym (ap (λ t. code_at (thaw t) (process_of (Owner.Container n) s.processes)) a.clock) ∙ sym (ap (λ q. code_at (thaw z.clock) q) (main_thaws xs n s1))) in
    let ends : (step_process thaw (Owner.Container n) z).events ≡ told_code (running_numbers n z) code c1 o s1 =
    effect_told_with (effect_of (thaw z.clock) (process_of (Owner.Container n) z.processes)) n (λ p. (thaw z.clock p).process) s1 z c1 o a f named ∙ ap (λ q. told_code (running_numbers n z) q c1 o s1) (sym k) in
    let still : (in_order (wake_parts n) s).state ≡ z = ap (λ y. (thaw_execs n (change_life n running y)).state) (tell_still (plain_event Action.Unpause) n s) in
    ap (λ l. l ++ (step_process thaw (Owner.Container n) (in_order (wake_parts n) s).state).events) (wake_told n s c found single)
    ∙ (ap (λ l. told_wake n c s ++ l)
    (ap (λ y. (step_process thaw (Owner.Container n) y).events) still
    ∙ (ends ∙ (ap (λ ks. told_code ks code c1 o s1) (runs_after n s1 single.execs single.processes)
    ∙ code_kept (running_after n s) code n running c o s refl (λ code. paused_status c.life.status o code s.clock c refl paused)))))

-- ---- an op

main_op_told : (n : ℕ) (s : State) (c : Container) (o : Option Program) (code : Option ℕ) → container_numbered n s ≡ Some c → o ≡ program_of c.life.words (c.life.starts + 1)
    → code ≡ code_at (run_due s.clock) (process_of (Owner.Container n) s.processes) → (step_process run_due (Owner.Container n) s).events ≡ told_op (Owner.Container n) code o s
main_op_told n s c o code found named is =
    effect_told (effect_of (run_due s.clock) (process_of (Owner.Container n) s.processes)) n (λ p. (run_due s.clock p).process) s c o found named
    ∙ (ap (λ k. told_code (running_numbers n s) k c o s) (sym is)
    ∙ (ap (λ m. told_code (running_numbers m s) code c o s) (sym (has_number n s c found)) ∙ ap (λ q. told_main q code o s) (sym found)))

exec_op_told : (n : ℕ) (s : State) (o : Option Program) (code : Option ℕ) → code ≡ code_at (run_due s.clock) (process_of (Owner.Exec n) s.processes) → (step_process run_due (Owner.Exec n) s).events ≡ told_op (Owner.Exec n) code o s
exec_op_told n s o code is =
    Wake.effect_told (effect_of (run_due s.clock) (process_of (Owner.Exec n) s.processes)) n (λ p. (run_due s.clock p).process) s s (record { containers = refl; clock = refl; execs = λ k. refl })
    ∙ ap (λ k. told_thaw k n s) (sym is)

-- the container of a main process stands, and the script is that of its next launch
abbrev pub OwnerStands : Owner → Option Program → State → Type 0
OwnerStands (Owner.Container n) o s = (c : Container) × (container_numbered n s ≡ Some c) × (o ≡ program_of c.life.words (c.life.starts + 1))
OwnerStands (Owner.Exec n) o s = Unit {0}

pub step_told : (p : Owner) (s : State) (o : Option Program) (code : Option ℕ) → OwnerStands p o s → code ≡ code_at (run_due s.clock) (process_of p s.processes) → (step_process run_due p s).events ≡ told_op p code o s
step_told (Owner.Container n) s o code stands is = main_op_told n s stands.0 o code stands.1 stands.2 is
step_told (Owner.Exec n) s o code stands is = exec_op_told n s o code is

pub op_told : (n : ℕ) (e : Entry) (s : State) (o : Option Program) (code : Option ℕ) → find (λ (d : Entry). owner_number d.owner == n) s.processes ≡ Some e → OwnerStands e.owner o s → code ≡ code_at (run_due s.clock) (process_of e.owner s.processes) → (op_effect n s).events ≡ told_op e.owner code o s
op_told n e s o code found stands is =
    ap (λ q. (with_found q (λ (d : Entry). step_process run_due d.owner) s).events) found ∙ step_told e.owner s o code stands is

-- ---- launches

again_same : (o : Option Program) (f : Life → Life) (c : Container) (t : ℕ) → (f c.life).mounts ≡ c.life.mounts → told_again o (renewed f c) t ≡ told_again o c t
again_same o f c t e = ap (λ l. l ++ plain_event Action.Restart c t ∷ []) (same_launch o f c t e)

pub start_told : (n : ℕ) (s : State) (c : Container) → container_numbered n s ≡ Some c → (launch_by_call n s).events ≡ told_launch (program_of c.life.words (c.life.starts + 1)) c s.clock
start_told n s c e =
    launch_told n (renewed afresh c) (change_life n afresh s) (found_renewed n afresh s c e)
    ∙ same_launch (program_of c.life.words (c.life.starts + 1)) afresh c s.clock refl

-- a restart of a container that doesn't live
pub again_told : (n : ℕ) (s : State) (c : Container) → container_numbered n s ≡ Some c → (launch_again n s).events ≡ told_again (program_of c.life.words (c.life.starts + 1)) c s.clock
again_told n s c e =
    let k : container_numbered c.number s ≡ Some c = ap (λ m. container_numbered m s) (has_number n s c e) ∙ e in
    let last : (tell_of (plain_event Action.Restart) n (launch_by_call n s).state).events ≡ plain_event Action.Restart c s.clock ∷ [] =
    ap (λ m. (tell_of (plain_event Action.Restart) m (launch_by_call m s).state).events) (sym (has_number n s c e)) ∙ launch_then Action.Restart (renewed afresh c) (change_life c.number afresh s) (found_renewed c.number afresh s c k) in
    ap (λ l. l ++ (tell_of (plain_event Action.Restart) n (launch_by_call n s).state).events) (start_told n s c e)
    ∙ ap (λ l. told_launch (program_of c.life.words (c.life.starts + 1)) c s.clock ++ l) last

-- a restart of one whose restart is pending
pub restarting_again_told : (n : ℕ) (s : State) (c : Container) → container_numbered n s ≡ Some c → (and_then (cancel_restart n) (launch_again n) s).events ≡ told_again (program_of c.life.words (c.life.starts + 1)) c s.clock
restarting_again_told n s c e =
    again_told n (change_life n cancelled (clear_timer Rank.RestartTimer n s)) (renewed cancelled c) (found_renewed n cancelled (clear_timer Rank.RestartTimer n s) c e)
    ∙ again_same (program_of c.life.words (c.life.starts + 1)) cancelled c s.clock refl

pub restart_timer_told : (n : ℕ) (s : State) (c : Container) → container_numbered n s ≡ Some c → (restart_timer n s).events ≡ told_launch (program_of c.life.words (c.life.starts + 1)) c s.clock
restart_timer_told n s c e =
    let y : State = clear_timer Rank.RestartTimer n s in
    launch_told n (renewed restarted c) (change_life n restarted y) (found_renewed n restarted y c e)
    ∙ same_launch (program_of c.life.words (c.life.starts + 1)) restarted c s.clock refl

-- ---- a pending restart is given up

pub cancel_told : (n : ℕ) (s : State) → (cancel_restart n s).events ≡ []
cancel_told n s = refl

pub stop_restarting_told : (n : ℕ) (s : State) (c : Container) → container_numbered n s ≡ Some c → (and_then (cancel_restart n) (tell_of (plain_event Action.Stop) n) s).events ≡ plain_event Action.Stop c s.clock ∷ []
stop_restarting_told n s c e =
    let y : State = clear_timer Rank.RestartTimer n s in
    told_at (plain_event Action.Stop) n (change_life n cancelled y) (renewed cancelled c) (found_renewed n cancelled y c e)

pub kill_restarting_told : (number n : ℕ) (s : State) (c : Container) → container_numbered n s ≡ Some c → (and_then (tell_of (kill_event number) n) (cancel_restart n) s).events ≡ kill_event number c s.clock ∷ []
kill_restarting_told number n s c e = ap (λ l. l ++ []) (told_at (kill_event number) n s c e)

-- ---- removals

quiet_without : (o : Option Container) (s : State) → (with_found o (λ (c : Container). change (without c)) s).events ≡ []
quiet_without None s = refl
quiet_without (Some c) s = refl

pub destroy_told : (n : ℕ) (s : State) (c : Container) → container_numbered n s ≡ Some c → (destroy n s).events ≡ plain_event Action.Destroy c s.clock ∷ []
destroy_told n s c e =
    let z : State = (tell_of (plain_event Action.Destroy) n s).state in
    ap (λ l. l ++ (with_found (container_numbered n z) (λ (d : Container). change (without d)) z).events) (told_at (plain_event Action.Destroy) n s c e)
    ∙ ap (λ l. plain_event Action.Destroy c s.clock ∷ l) (quiet_without (container_numbered n z) z)

-- of one whose restart is pending
pub remove_restarting_told : (n : ℕ) (s : State) (c : Container) → container_numbered n s ≡ Some c → (and_then (cancel_restart n) (destroy n) s).events ≡ plain_event Action.Destroy c s.clock ∷ []
remove_restarting_told n s c e =
    let y : State = clear_timer Rank.RestartTimer n s in
    destroy_told n (change_life n cancelled y) (renewed cancelled c) (found_renewed n cancelled y c e)

quiet_late : (o : Option Container) (s : State) → (with_found o (λ (c : Container). change (time_out c)) s).events ≡ []
quiet_late None s = refl
quiet_late (Some c) s = refl

pub removal_deadline_told : (n : ℕ) (s : State) → (removal_deadline n s).events ≡ []
removal_deadline_told n s =
    let z : State = change_life n died (clear_timer Rank.RemovalDeadline n s) in
    quiet_late (container_numbered n z) z
