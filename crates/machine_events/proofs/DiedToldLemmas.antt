-- Whose main process a step ends, and with which code, is what was told before it.
use Rattle.std.specs.Option.{unwrap_or}
use Rattle.std.proofs.Common.{◌≡◌, ℕ, ℤ, pos, negsuc, Bool, true, false, List, [], ◌++◌, Option, Some, None, refl, ap, sym, ◌∙◌}
use Rattle.engine_text.specs.declared.container.Container.{Container}
use Rattle.engine_text.specs.declared.container.Life.{Life}
use Rattle.engine_text.specs.declared.event.Action.{Action}
use Rattle.engine_text.specs.declared.event.Event.{Event}
use Rattle.engine_text.specs.declared.owner.Owner.{Owner}
use Rattle.engine_text.specs.declared.script.Effect.{Effect as ProcessEffect}
use Rattle.engine_text.specs.declared.script.Effect.TheVariants.{Lives, Wrote, Ended}
use Rattle.engine_text.specs.declared.signal.Signal.{Signal}
use Rattle.engine_text.specs.declared.status.Status.{Status}
use Rattle.proc_kernel.specs.Foretelling.{code_at, code_in}
use Rattle.proc_kernel.specs.Processes.{Process, ProcessStep, signal, thaw}
use Rattle.proc_kernel.specs.Tables.{effect_of, process_of}
use Rattle.machine_model.specs.State.{State, container_numbered, running_execs, change_life, clear_timer, is_live}
use Rattle.machine_model.specs.EventTexts.{kill_event, plain_event}
use Rattle.machine_model.specs.Chain.{Died, and_then, tell_of, with_found}
use Rattle.machine_model.specs.Calls.Kill.{by_hand, deliver}
use Rattle.machine_model.specs.Calls.Remove.{to_remove, if_it_lives, kill_to_remove}
use Rattle.machine_model.specs.Due.{stop_deadline}
use Rattle.machine_model.specs.Effects.Halt.{halt, set_deadline}
use Rattle.machine_model.specs.Effects.Meet.{by_effect, meet_signal, running, send, step_process, stepped, thaw_container, thaw_execs, woken}
use Rattle.machine_events.specs.Fit.{died_of}
use Rattle.machine_events.specs.ChangedLives.{renewed}
use Rattle.machine_events.proofs.DiedLemmas.{died_end_main, none_end_exec, none_found, none_woken}
use Rattle.machine_events.proofs.SettleLemmas.{tell_still}
use Rattle.machine_events.proofs.ToldLemmas.{AreAlike, found_renewed}
use Rattle.machine_events.proofs.MeetToldLemmas.{main_thaws}
use Rattle.machine_events.proofs.WakeLemmas.{thaws_alike}
use Rattle.container_table.specs.declared.rank.Rank.{Rank}

-- ---- a step of one process

by_code : (e : ProcessEffect) (n : ℕ) (s : State) → (by_effect e (Owner.Container n) s).died ≡ died_of n (code_in e)
by_code Lives n s = refl
by_code (Wrote stream payload) n s = refl
by_code (Ended code) n s = sym (died_end_main code n s)

-- of a main process
pub main_died : (f : ℕ → Process → ProcessStep) (n : ℕ) (s : State) (code : Option ℕ) → code ≡ code_at (f s.clock) (process_of (Owner.Container n) s.processes) → (step_process f (Owner.Container n) s).died ≡ died_of n code
main_died f n s code is =
    by_code (effect_of (f s.clock) (process_of (Owner.Container n) s.processes)) n (stepped f (Owner.Container n) s) ∙ ap (died_of n) (sym is)

none_of : (e : ProcessEffect) (k : ℕ) (s : State) → (by_effect e (Owner.Exec k) s).died ≡ []
none_of Lives k s = refl
none_of (Wrote stream payload) k s = refl
none_of (Ended code) k s = none_end_exec code k s

-- of an exec's
pub exec_died : (f : ℕ → Process → ProcessStep) (k : ℕ) (s : State) → (step_process f (Owner.Exec k) s).died ≡ []
exec_died f k s = none_of (effect_of (f s.clock) (process_of (Owner.Exec k) s.processes)) k (stepped f (Owner.Exec k) s)

pub send_died : (thaws : Bool) (number n : ℕ) (s : State) (code : Option ℕ) → code ≡ code_at (signal number thaws s.clock) (process_of (Owner.Container n) s.processes) → (send thaws number n s).died ≡ died_of n code
send_died thaws number n s code is = main_died (signal number thaws) n s code is

-- ---- behind a wake

-- the main process and the clock are as they were
record IsMainAs (n : ℕ) (s z : State) : Type 0 where
  main : process_of (Owner.Container n) z.processes ≡ process_of (Owner.Container n) s.processes
  clock : z.clock ≡ s.clock

wake_main : (n : ℕ) (s y : State) → y ≡ s → IsMainAs n s (thaw_execs n (change_life n running y)).state
wake_main n s y e =
    let y1 : State = change_life n running y in
    let a : AreAlike y1 (thaw_execs n y1).state = thaws_alike (running_execs n y1) y1 y1 (record { containers = refl; clock = refl; execs = λ k. refl }) in
    record {
      main = main_thaws (running_execs n y1) n y1 ∙ ap (λ (z : State). process_of (Owner.Container n) z.processes) e;
      clock = a.clock ∙ ap (λ (z : State). z.clock) e;
    }

woken_main : (u : Status) (n : ℕ) (s : State) → IsMainAs n s (woken u n s).state
woken_main Status.Paused n s = wake_main n s (tell_of (plain_event Action.Unpause) n s).state (tell_still (plain_event Action.Unpause) n s)
woken_main Status.Created n s = record { main = refl; clock = refl }
woken_main Status.Running n s = record { main = refl; clock = refl }
woken_main Status.Restarting n s = record { main = refl; clock = refl }
woken_main Status.Removing n s = record { main = refl; clock = refl }
woken_main Status.Exited n s = record { main = refl; clock = refl }
woken_main Status.Dead n s = record { main = refl; clock = refl }

woken_died : (f : ℕ → Process → ProcessStep) (u : Status) (n : ℕ) (s : State) (code : Option ℕ) → code ≡ code_at (f s.clock) (process_of (Owner.Container n) s.processes) → (and_then (woken u n) (step_process f (Owner.Container n)) s).died ≡ died_of n code
woken_died f u n s code is =
    let z : State = (woken u n s).state in
    let m : IsMainAs n s z = woken_main u n s in
    let k : code ≡ code_at (f z.clock) (process_of (Owner.Container n) z.processes) =
    is ∙ (sym (ap (λ t. code_at (f t) (process_of (Owner.Container n) s.processes)) m.clock) ∙ sym (ap (λ q. code_at (f z.clock) q) m.main)) in
    ap (λ l. l ++ (step_process f (Owner.Container n) z).died) (none_woken u n s) ∙ main_died f n z code k

-- a signal that is met
pub meet_died : (number n : ℕ) (s : State) (c : Container) (code : Option ℕ) → container_numbered n s ≡ Some c → code ≡ code_at (signal number true s.clock) (process_of (Owner.Container n) s.processes) → (meet_signal number n s).died ≡ died_of n code
meet_died number n s c code found is =
    ap (λ q. (with_found q (λ (d : Container). and_then (woken d.life.status n) (send true number n)) s).died) found
    ∙ woken_died (signal number true) c.life.status n s code is

-- an unpause
pub unpause_died : (n : ℕ) (s : State) (code : Option ℕ) → code ≡ code_at (thaw s.clock) (process_of (Owner.Container n) s.processes) → (thaw_container n s).died ≡ died_of n code
unpause_died n s code is = woken_died thaw Status.Paused n s code is

-- ---- with what comes before it

pub none_told : (event : Container → ℕ → Event) (n : ℕ) (s : State) → (tell_of event n s).died ≡ []
none_told event n s = none_found (container_numbered n s) _ (λ c z. refl) s

pub behind_event : (event : Container → ℕ → Event) (n : ℕ) (s : State) (died : State → List Died) → (tell_of event n s).died ++ died (tell_of event n s).state ≡ died s
behind_event event n s died = ap (λ l. l ++ died (tell_of event n s).state) (none_told event n s) ∙ ap died (tell_still event n s)

pub deliver_died : (last : Bool) (number n : ℕ) (s : State) (c : Container) (code : Option ℕ) → container_numbered n s ≡ Some c → code ≡ code_at (signal number last s.clock) (process_of (Owner.Container n) s.processes) → (deliver last number n s).died ≡ died_of n code
deliver_died true number n s c code found is = meet_died number n (change_life n by_hand s) (renewed by_hand c) code (found_renewed n by_hand s c found) is
deliver_died false number n s c code found is = send_died false number n s code is

pub stop_deadline_died : (n : ℕ) (s : State) (c : Container) (code : Option ℕ) → container_numbered n s ≡ Some c → code ≡ code_at (signal 9 true s.clock) (process_of (Owner.Container n) s.processes) → (stop_deadline n s).died ≡ died_of n code
stop_deadline_died n s c code found is =
    let y : State = clear_timer Rank.StopDeadline n s in
    behind_event (kill_event 9) n y (λ z. (meet_signal 9 n z).died) ∙ meet_died 9 n y c code found is

behind_deadline : (z : ℤ) (number n : ℕ) (s : State) (c : Container) (code : Option ℕ) → container_numbered n s ≡ Some c → code ≡ code_at (signal number true s.clock) (process_of (Owner.Container n) s.processes) → (meet_signal number n (set_deadline z n s)).died ≡ died_of n code
behind_deadline (pos seconds) number n s c code found is = meet_died number n (set_deadline (pos seconds) n s) c code found is
behind_deadline (negsuc k) number n s c code found is = meet_died number n s c code found is

pub halt_died : (life_change : Life → Life) (seconds : Option ℤ) (sent : Option Signal) (s : State) (c : Container) (code : Option ℕ) → container_numbered c.number s ≡ Some c
    → code ≡ code_at (signal ((unwrap_or sent c.life.stop_signal).number) true s.clock) (process_of (Owner.Container c.number) s.processes) → (halt life_change seconds sent c s).died ≡ died_of c.number code
halt_died life_change seconds sent s c code found is =
    let n : ℕ = c.number in
    let number : ℕ = (unwrap_or sent c.life.stop_signal).number in
    behind_event (kill_event number) n s (λ z. (meet_signal number n (set_deadline (unwrap_or seconds c.life.stop_after) n (change_life n life_change z))).died)
    ∙ behind_deadline (unwrap_or seconds c.life.stop_after) number n (change_life n life_change s) (renewed life_change c) code (found_renewed n life_change s c found) is

none_if : (b : Bool) (n : ℕ) (s : State) → (if_it_lives b n s).died ≡ []
none_if false n s = refl
none_if true n s = refl

nil_last : (a b : List Died) (died : List Died) → a ≡ died → b ≡ [] → a ++ b ≡ died ++ []
nil_last a b died e h = ap (λ l. l ++ b) e ∙ ap (λ l. died ++ l) h

end_nil : (n : ℕ) (code : Option ℕ) → died_of n code ++ [] ≡ died_of n code
end_nil n None = refl
end_nil n (Some code) = refl

pub kill_to_remove_died : (n : ℕ) (s : State) (c : Container) (code : Option ℕ) → container_numbered n s ≡ Some c → code ≡ code_at (signal 9 true s.clock) (process_of (Owner.Container n) s.processes) → (kill_to_remove n s).died ≡ died_of n code
kill_to_remove_died n s c code found is =
    let s1 : State = change_life n to_remove s in
    let z : State = (meet_signal 9 n s1).state in
    behind_event (kill_event 9) n s (λ y. (meet_signal 9 n (change_life n to_remove y)).died ++ (if_it_lives (is_live (Owner.Container n) (meet_signal 9 n (change_life n to_remove y)).state) n (meet_signal 9 n (change_life n to_remove y)).state).died)
    ∙ (nil_last (meet_signal 9 n s1).died (if_it_lives (is_live (Owner.Container n) z) n z).died (died_of n code) (meet_died 9 n s1 (renewed to_remove c) code (found_renewed n to_remove s c found) is) (none_if (is_live (Owner.Container n) z) n z)
    ∙ end_nil n code)
