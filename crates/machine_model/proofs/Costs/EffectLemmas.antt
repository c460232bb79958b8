-- What every effect costs.
use Rattle.std.proofs.Common.{◌≡◌, ℕ, ◌+◌, ◌*◌, ◌≤◌, ◌==◌, Bool, true, false, List, [], ◌∷◌, Option, Some, None, find, ℤ, pos, negsuc, refl, ap, ◌∙◌, subst, arith}
use Rattle.std.specs.Prelude.{option_map, unwrap_or}
use Rattle.engine_text.specs.Scripts.{Program}
use Rattle.container_table.specs.Timers.{is_timer, cleared, with_timer, is_listed_before}
use Rattle.container_table.proofs.PlacedLemmas.{all_placed}
use Rattle.container_table.specs.Ranks.{rank_numbered}
use Rattle.container_table.specs.declared.rank.Rank.{Rank}
use Rattle.proc_kernel.specs.Catalogue.{program_of}
use Rattle.proc_kernel.specs.Processes.{Process, ProcessStep, run_due, signal, thaw}
use Rattle.proc_kernel.specs.Tables.{Entry, process_of, effect_of}
use Rattle.proc_kernel.specs.Times.{IsShortProgram}
use Rattle.proc_kernel.proofs.ProgramTimes.{program_short}
use Rattle.machine_model.specs.State.{State, container_numbered, owner_number, timer_of, running_execs, drop_process}
use Rattle.machine_model.specs.Chain.{Effect, still, change, after, in_order, each, with_found, with_container, renew}
use Rattle.machine_model.specs.EventTexts.{plain_event, die_event, kill_event}
use Rattle.machine_model.specs.Effects.Launch.{launch_program, launch, launch_by_call, afresh}
use Rattle.machine_model.specs.Effects.Destroy.{destroy}
use Rattle.machine_model.specs.Effects.EndMain.{end_execs, ended, die, exited, no_goal, restarting, removed_if, follow, decision_at, by_goal, by_status, end_main}
use Rattle.machine_model.specs.Effects.Cancel.{cancelled, cancel_restart}
use Rattle.machine_model.specs.Effects.Halt.{lesser, set_deadline, halt}
use Rattle.machine_model.specs.Effects.Meet.{end_of, by_effect, stepped, step_process, running, thaw_execs, wake_parts, thaw_container, send, woken, meet_signal}
use Rattle.machine_model.specs.Due.{by_rank, stop_deadline, died, removal_deadline, restarted, restart_timer, due_effect}
use Rattle.machine_model.proofs.ChangeLemmas.{all_removed}
use Rattle.machine_model.proofs.ObeyLemmas.{found_all}
use Rattle.machine_model.proofs.Tables.ProcessLemmas.{changed_stands}
use Rattle.machine_model.proofs.Processes.LimitLemmas.{IsStep, due_fits, thaw_fits, signal_fits}
use Rattle.machine_model.proofs.Costs.CostLemmas.{Cost, none, tells, plus, IsMost, IsQuiet, write_part, AreFrom, IsPriced, Costs, costs_still, costs_then, costs_most, costs_at, costs_nothing, costs_with, costs_tell, costs_mounts, costs_renew, costs_timers, costs_each}
use Rattle.restart_policy.specs.declared.decision.Decision.{Decision}
use Rattle.restart_policy.specs.declared.decision.Decision.TheVariants.{Stay, Again}
use Rattle.engine_text.specs.declared.container.Container.{Container}
use Rattle.engine_text.specs.declared.container.Goal.{Goal}
use Rattle.engine_text.specs.declared.container.Life.{Life}
use Rattle.engine_text.specs.declared.exec.Exec.{Exec}
use Rattle.engine_text.specs.declared.owner.Owner.{Owner}
use Rattle.engine_text.specs.declared.owner.Owner.TheVariants.{Container as OfContainer, Exec as OfExec}
use Rattle.engine_text.specs.declared.script.Effect.{Effect as ProcessEffect}
use Rattle.engine_text.specs.declared.script.Effect.TheVariants.{Lives, Wrote, Ended}
use Rattle.engine_text.specs.declared.signal.Signal.{Signal}
use Rattle.engine_text.specs.declared.status.Status.{Status}
use Rattle.engine_text.specs.declared.step.DueAction.{DueAction}
use Rattle.engine_text.specs.declared.event.Action.TheVariants.{Start, Mount, Unmount, Stop, Restart, Destroy, Unpause}

-- ---- timers

pub cleared_from : (r n t : ℕ) (ds : List DueAction) → AreFrom t ds → AreFrom t (cleared r n ds)
cleared_from r n t ds h = all_removed (λ d. t ≤ d.moment) (is_timer r n) ds h

pub set_from : (moment r n t : ℕ) (ds : List DueAction) → t ≤ moment → AreFrom t ds → AreFrom t (with_timer moment r n ds)
set_from moment r n t ds low h = all_placed is_listed_before (λ d. t ≤ d.moment) (record { moment = moment; rank = r; number = n }) (cleared r n ds) low (cleared_from r n t ds h)

-- ---- a launch

abbrev pub launch_cost : Cost
launch_cost = record { told = 17; spawns = 1; makes = 0; asks = 0; retries = 0 }

program_costs : {P : Type 0} {E : ℕ → Type 0} (R : Cost → State → Effect → Type 0) → IsPriced P E R → (o : Option Program) (c : Container) (s : State) → container_numbered c.number s ≡ Some c → IsShortProgram o → R launch_cost s (launch_program o c s)
program_costs R k None c s found short = costs_nothing launch_cost k s
program_costs R k (Some program) c s found short =
    let rest = costs_then k (costs_mounts k Mount c.number) (costs_tell k (plain_event Start) c.number (λ c t. refl)) in
    k.on_after (record { told = 0; spawns = 1; makes = 0; asks = 0; retries = 0 }) (tells 17) s _ _ (k.on_launch s c program found short) (rest.holds _)

pub costs_launch : {P : Type 0} {E : ℕ → Type 0} {R : Cost → State → Effect → Type 0} → IsPriced P E R → (n : ℕ) → Costs R launch_cost (launch n)
costs_launch {R} k n = costs_with k n (λ s c found. program_costs R k (program_of c.life.words (c.life.starts + 1)) c s found (program_short c.life.words (c.life.starts + 1)))

pub costs_launch_by_call : {P : Type 0} {E : ℕ → Type 0} {R : Cost → State → Effect → Type 0} → IsPriced P E R → (n : ℕ) → Costs R launch_cost (launch_by_call n)
costs_launch_by_call k n =
    costs_then k (costs_renew k n afresh (λ t. record { mounts = λ l. refl; log = λ l. refl; starts = λ l. refl; restarts = λ l. omega arith; moments = λ l h. h })) (costs_launch k n)

-- ---- a removal

pub costs_destroy : {P : Type 0} {E : ℕ → Type 0} {R : Cost → State → Effect → Type 0} → IsPriced P E R → (n : ℕ) → Costs R (tells 1) (destroy n)
costs_destroy k n = costs_then k (costs_tell k (plain_event Destroy) n (λ c t. refl)) (costs_with {x = none} k n (λ s c found. k.on_destroyed s c found))

-- ---- the end of a main process

abbrev pub end_cost : Cost
end_cost = record { told = 36; spawns = 1; makes = 0; asks = 0; retries = 0 }

abbrev goal_cost : Cost
goal_cost = record { told = 19; spawns = 1; makes = 0; asks = 0; retries = 0 }

costs_die : {P : Type 0} {E : ℕ → Type 0} {R : Cost → State → Effect → Type 0} → IsPriced P E R → (code n : ℕ) → Costs R none (die code n)
costs_die {R} k code n =
    let gone : Costs R none (change (drop_process (OfContainer n))) = record { holds = λ s. k.on_drop s n } in
    let ends : Costs R none (λ s. renew n (ended code s.clock) s) =
    record { holds = λ s. k.on_renew s n (ended code s.clock) (record { mounts = λ l. refl; log = λ l. refl; starts = λ l. refl; restarts = λ l. omega arith; moments = λ l h. (h.0, h.1, omega arith) }) } in
    let told : Costs R none (λ t. record { state = t; events = []; died = record { number = n; code = code } ∷ [] }) = record { holds = λ s. k.on_ended s (record { number = n; code = code }) } in
    let all = costs_then k gone (costs_then k ends told) in
    record { holds = λ s. all.holds s }

costs_removed_if : {P : Type 0} {E : ℕ → Type 0} {R : Cost → State → Effect → Type 0} → IsPriced P E R → (auto : Bool) (n : ℕ) → Costs R (tells 1) (removed_if auto n)
costs_removed_if k true n = costs_destroy k n
costs_removed_if k false n = record { holds = λ s. costs_nothing (tells 1) k s }

costs_follow : {P : Type 0} {E : ℕ → Type 0} {R : Cost → State → Effect → Type 0} → IsPriced P E R → (d : Decision) (auto : Bool) (n : ℕ) → Costs R (tells 1) (follow d auto n)
costs_follow k Stay auto n = costs_then k (costs_renew k n exited (λ t. record { mounts = λ l. refl; log = λ l. refl; starts = λ l. refl; restarts = λ l. omega arith; moments = λ l h. h })) (costs_removed_if k auto n)
costs_follow k (Again delay) auto n =
    costs_most k
    (costs_then k (costs_renew k n (restarting delay) (λ t. record { mounts = λ l. refl; log = λ l. refl; starts = λ l. refl; restarts = λ l. omega arith; moments = λ l h. h }))
    (costs_timers k (λ s. with_timer (s.clock + delay) 3 n s.timers) (λ s h. set_from (s.clock + delay) 3 n s.clock s.timers (omega arith) h))) refl

costs_by_goal : {P : Type 0} {E : ℕ → Type 0} {R : Cost → State → Effect → Type 0} → IsPriced P E R → (g : Goal) (c : Container) → Costs R goal_cost (by_goal g c)
costs_by_goal k Goal.Remove c = costs_most k (costs_destroy k c.number) refl
costs_by_goal k Goal.Stop c =
    costs_most k
    (costs_then k (costs_renew k c.number exited (λ t. record { mounts = λ l. refl; log = λ l. refl; starts = λ l. refl; restarts = λ l. omega arith; moments = λ l h. h })) (costs_then k (costs_tell k (plain_event Stop) c.number (λ c t. refl)) (costs_removed_if k c.life.auto_remove c.number))) refl
costs_by_goal k Goal.Restart c =
    costs_then k (costs_tell k (plain_event Stop) c.number (λ c t. refl)) (costs_then k (costs_launch_by_call k c.number) (costs_tell k (plain_event Restart) c.number (λ c t. refl)))
costs_by_goal k Goal.None c =
    costs_most k
    (costs_at (λ s. follow (decision_at s.clock c.life) c.life.auto_remove c.number)
    (λ s. (costs_follow k (decision_at s.clock c.life) c.life.auto_remove c.number).holds s)) refl

costs_by_status : {P : Type 0} {E : ℕ → Type 0} {R : Cost → State → Effect → Type 0} → IsPriced P E R → (u : Status) (c : Container) → Costs R goal_cost (by_status u c)
costs_by_status k Status.Dead c = record { holds = λ s. costs_nothing goal_cost k s }
costs_by_status k Status.Created c = costs_by_goal k c.life.goal c
costs_by_status k Status.Running c = costs_by_goal k c.life.goal c
costs_by_status k Status.Paused c = costs_by_goal k c.life.goal c
costs_by_status k Status.Restarting c = costs_by_goal k c.life.goal c
costs_by_status k Status.Removing c = costs_by_goal k c.life.goal c
costs_by_status k Status.Exited c = costs_by_goal k c.life.goal c

costs_decided : {P : Type 0} {E : ℕ → Type 0} {R : Cost → State → Effect → Type 0} → IsPriced P E R → (n : ℕ) → Costs R goal_cost (with_container n (λ c. by_status c.life.status c))
costs_decided k n = costs_with k n (λ s c found. (costs_by_status k c.life.status c).holds s)

costs_end_execs : {P : Type 0} {E : ℕ → Type 0} {R : Cost → State → Effect → Type 0} → IsPriced P E R → (n : ℕ) → Costs R none (end_execs n)
costs_end_execs k n = record { holds = λ s. k.on_end_execs s n }

pub costs_end_main : {P : Type 0} {E : ℕ → Type 0} {R : Cost → State → Effect → Type 0} → IsPriced P E R → (code n : ℕ) → Costs R end_cost (end_main code n)
costs_end_main k code n =
    costs_then k (costs_end_execs k n)
    (costs_then k (costs_tell k (die_event code) n (λ c t. refl))
    (costs_then k (costs_die k code n)
    (costs_then k (costs_timers k (λ s. cleared 2 n (cleared 1 n s.timers)) (λ s h. cleared_from 2 n s.clock (cleared 1 n s.timers) (cleared_from 1 n s.clock s.timers h)))
    (costs_then k (costs_mounts k Unmount n)
    (costs_then k (costs_decided k n)
    (costs_then k (costs_renew k n no_goal (λ t. record { mounts = λ l. refl; log = λ l. refl; starts = λ l. refl; restarts = λ l. omega arith; moments = λ l h. h })) (costs_still k)))))))

-- ---- steps of processes

from_none : (x : Cost) → IsMost none x
from_none x = record { told = omega arith; spawns = omega arith; makes = omega arith; asks = omega arith; retries = omega arith }

none_plus : (x : Cost) → IsMost (plus none x) x
none_plus x = record { told = omega arith; spawns = omega arith; makes = omega arith; asks = omega arith; retries = omega arith }

step_at : {P : Type 0} {E : ℕ → Type 0} (R : Cost → State → Effect → Type 0) (x : Cost) → IsPriced P E R → (step : ℕ → Process → ProcessStep) (owner : Owner) → IsStep step → (s : State) (e : ProcessEffect)
    → effect_of (step s.clock) (process_of owner s.processes) ≡ e → ((code : ℕ) → e ≡ Ended code → R x (stepped step owner s) (end_of owner code (stepped step owner s)))
    → R x s (after (still (stepped step owner s)) (by_effect e owner (stepped step owner s)))
step_at R x k step owner is s Lives e ending =
    let t : State = stepped step owner s in
    k.on_more none x s _ (λ p. from_none x) (subst (λ (e : ProcessEffect). R none s (after (still t) (write_part e owner t))) e (k.on_step s owner step is))
step_at R x k step owner is s (Wrote stream payload) e ending =
    let t : State = stepped step owner s in
    k.on_more none x s _ (λ p. from_none x) (subst (λ (e : ProcessEffect). R none s (after (still t) (write_part e owner t))) e (k.on_step s owner step is))
step_at R x k step owner is s (Ended code) e ending =
    let t : State = stepped step owner s in
    let first : R none s (after (still t) (still t)) = subst (λ (e : ProcessEffect). R none s (after (still t) (write_part e owner t))) e (k.on_step s owner step is) in
    k.on_more (plus none x) x s _ (λ p. none_plus x) (k.on_after none x s (after (still t) (still t)) (end_of owner code t) first (ending code refl))

ended_some : (f : Process → ProcessStep) (o : Option Process) (code : ℕ) → effect_of f o ≡ Ended code → (p : Process) × (o ≡ Some p)
ended_some f None code e = absurd (cc)
ended_some f (Some p) code e = (p, refl)

pub costs_exec_step : {P : Type 0} {E : ℕ → Type 0} {R : Cost → State → Effect → Type 0} → IsPriced P E R → (step : ℕ → Process → ProcessStep) → IsStep step → (n : ℕ) → Costs R none (step_process step (OfExec n))
costs_exec_step {R} k step is n = record {
  holds = λ s. step_at R none k step (OfExec n) is s (effect_of (step s.clock) (process_of (OfExec n) s.processes)) refl
      (λ code e.
      let f : Process → Process = λ p. (step s.clock p).process in
      let there = ended_some (step s.clock) (process_of (OfExec n) s.processes) code e in
      k.on_end_exec (stepped step (OfExec n) s) code n (f there.0) (changed_stands (OfExec n) f s.processes ∙ ap (option_map f) there.1));
}

pub costs_main_step : {P : Type 0} {E : ℕ → Type 0} {R : Cost → State → Effect → Type 0} → IsPriced P E R → (step : ℕ → Process → ProcessStep) → IsStep step → (n : ℕ) → Costs R end_cost (step_process step (OfContainer n))
costs_main_step {R} k step is n = record {
  holds = λ s. step_at R end_cost k step (OfContainer n) is s (effect_of (step s.clock) (process_of (OfContainer n) s.processes)) refl
      (λ code e. (costs_end_main k code n).holds (stepped step (OfContainer n) s));
}

pub costs_step : {P : Type 0} {E : ℕ → Type 0} {R : Cost → State → Effect → Type 0} → IsPriced P E R → (step : ℕ → Process → ProcessStep) → IsStep step → (owner : Owner) → Costs R end_cost (step_process step owner)
costs_step k step is (OfContainer n) = costs_main_step k step is n
costs_step k step is (OfExec n) = costs_most k (costs_exec_step k step is n) refl

-- ---- thaws and signals

costs_thaw_execs : {P : Type 0} {E : ℕ → Type 0} {R : Cost → State → Effect → Type 0} → IsPriced P E R → (n : ℕ) → Costs R none (thaw_execs n)
costs_thaw_execs k n =
    costs_at (λ s. each (λ (x : Exec). step_process thaw (OfExec x.number)) (running_execs n s)) (λ s. (costs_each k (λ (x : Exec). costs_exec_step k thaw thaw_fits x.number) (running_execs n s)).holds s)

costs_wake : {P : Type 0} {E : ℕ → Type 0} {R : Cost → State → Effect → Type 0} → IsPriced P E R → (n : ℕ) → Costs R (tells 1) (in_order (wake_parts n))
costs_wake k n =
    costs_then k (costs_tell k (plain_event Unpause) n (λ c t. refl))
    (costs_then k (costs_renew k n running (λ t. record { mounts = λ l. refl; log = λ l. refl; starts = λ l. refl; restarts = λ l. omega arith; moments = λ l h. h })) (costs_then k (costs_thaw_execs k n) (costs_still k)))

abbrev pub meet_cost : Cost
meet_cost = record { told = 37; spawns = 1; makes = 0; asks = 0; retries = 0 }

pub costs_thaw : {P : Type 0} {E : ℕ → Type 0} {R : Cost → State → Effect → Type 0} → IsPriced P E R → (n : ℕ) → Costs R meet_cost (thaw_container n)
costs_thaw k n = costs_then k (costs_wake k n) (costs_main_step k thaw thaw_fits n)

pub costs_send : {P : Type 0} {E : ℕ → Type 0} {R : Cost → State → Effect → Type 0} → IsPriced P E R → (thaws : Bool) (number n : ℕ) → Costs R end_cost (send thaws number n)
costs_send k thaws number n = costs_main_step k (signal number thaws) (signal_fits number thaws) n

costs_woken : {P : Type 0} {E : ℕ → Type 0} {R : Cost → State → Effect → Type 0} → IsPriced P E R → (u : Status) (n : ℕ) → Costs R (tells 1) (woken u n)
costs_woken k Status.Paused n = costs_wake k n
costs_woken k Status.Created n = costs_most k (costs_still k) refl
costs_woken k Status.Running n = costs_most k (costs_still k) refl
costs_woken k Status.Restarting n = costs_most k (costs_still k) refl
costs_woken k Status.Removing n = costs_most k (costs_still k) refl
costs_woken k Status.Exited n = costs_most k (costs_still k) refl
costs_woken k Status.Dead n = costs_most k (costs_still k) refl

pub costs_meet : {P : Type 0} {E : ℕ → Type 0} {R : Cost → State → Effect → Type 0} → IsPriced P E R → (number n : ℕ) → Costs R meet_cost (meet_signal number n)
costs_meet k number n = costs_with k n (λ s c found. (costs_then k (costs_woken k c.life.status n) (costs_send k true number n)).holds s)

-- ---- a halt

least_from : (t moment : ℕ) (o : Option DueAction) → t ≤ moment → ((d : DueAction) → o ≡ Some d → t ≤ d.moment) → t ≤ lesser o moment
least_from t moment None low h = low
least_from t moment (Some d) low h = let other : t ≤ d.moment = h d refl in grind (arith, low, other)

costs_deadline : {P : Type 0} {E : ℕ → Type 0} {R : Cost → State → Effect → Type 0} → IsPriced P E R → (z : ℤ) (n : ℕ) → Costs R none (change (set_deadline z n))
costs_deadline k (pos seconds) n =
    costs_timers k (λ s. with_timer (lesser (timer_of Rank.StopDeadline n s) (s.clock + 1000 * seconds)) 1 n s.timers)
    (λ s h. set_from (lesser (timer_of Rank.StopDeadline n s) (s.clock + 1000 * seconds)) 1 n s.clock s.timers
    (least_from s.clock (s.clock + 1000 * seconds) (timer_of Rank.StopDeadline n s) (omega arith) (λ d e. found_all (λ d. s.clock ≤ d.moment) (is_timer 1 n) d s.timers e h)) h)
costs_deadline k (negsuc m) n = record { holds = k.on_still }

abbrev pub halt_cost : Cost
halt_cost = record { told = 38; spawns = 1; makes = 0; asks = 0; retries = 0 }

pub costs_halt : {P : Type 0} {E : ℕ → Type 0} {R : Cost → State → Effect → Type 0} → IsPriced P E R → (mark : Life → Life) (seconds : Option ℤ) (signal : Option Signal) (c : Container) → ((t : ℕ) → IsQuiet t mark) → Costs R halt_cost (halt mark seconds signal c)
costs_halt k mark seconds signal c is =
    costs_then k (costs_tell k (kill_event ((unwrap_or signal c.life.stop_signal).number)) c.number (λ c t. refl))
    (costs_then k (costs_renew k c.number mark is)
    (costs_then k (costs_deadline k (unwrap_or seconds c.life.stop_after) c.number) (costs_meet k ((unwrap_or signal c.life.stop_signal).number) c.number)))

pub costs_cancel : {P : Type 0} {E : ℕ → Type 0} {R : Cost → State → Effect → Type 0} → IsPriced P E R → (n : ℕ) → Costs R none (cancel_restart n)
costs_cancel k n =
    costs_then k (costs_timers k (λ s. cleared 3 n s.timers) (λ s h. cleared_from 3 n s.clock s.timers h))
    (costs_renew k n cancelled (λ t. record { mounts = λ l. refl; log = λ l. refl; starts = λ l. refl; restarts = λ l. omega arith; moments = λ l h. h }))

-- ---- due steps

abbrev pub due_cost : Cost
due_cost = record { told = 38; spawns = 1; makes = 0; asks = 0; retries = 1 }

op_costs : {P : Type 0} {E : ℕ → Type 0} (R : Cost → State → Effect → Type 0) → IsPriced P E R → (s : State) (o : Option Entry) → R due_cost s (with_found o (λ (e : Entry). step_process run_due e.owner) s)
op_costs R k s None = costs_nothing due_cost k s
op_costs R k s (Some e) = (costs_most {y = due_cost} k (costs_step k run_due due_fits e.owner) refl).holds s

costs_stop_deadline : {P : Type 0} {E : ℕ → Type 0} {R : Cost → State → Effect → Type 0} → IsPriced P E R → (n : ℕ) → Costs R halt_cost (stop_deadline n)
costs_stop_deadline k n =
    costs_then k (costs_timers k (λ s. cleared 1 n s.timers) (λ s h. cleared_from 1 n s.clock s.timers h)) (costs_then k (costs_tell k (kill_event 9) n (λ c t. refl)) (costs_meet k 9 n))

costs_removal_deadline : {P : Type 0} {E : ℕ → Type 0} {R : Cost → State → Effect → Type 0} → IsPriced P E R → (n : ℕ) → Costs R none (removal_deadline n)
costs_removal_deadline k n =
    costs_then k (costs_timers k (λ s. cleared 2 n s.timers) (λ s h. cleared_from 2 n s.clock s.timers h))
    (costs_then k (costs_renew k n died (λ t. record { mounts = λ l. refl; log = λ l. refl; starts = λ l. refl; restarts = λ l. omega arith; moments = λ l h. h }))
    (costs_with {x = none} k n (λ s c found. k.on_time_out s c)))

costs_restart_timer : {P : Type 0} {E : ℕ → Type 0} {R : Cost → State → Effect → Type 0} → IsPriced P E R → (n : ℕ) → Costs R (record { told = 17; spawns = 1; makes = 0; asks = 0; retries = 1 }) (restart_timer n)
costs_restart_timer {R} k n =
    let again : Costs R (record { told = 0; spawns = 0; makes = 0; asks = 0; retries = 1 }) (renew n restarted) = record { holds = λ s. k.on_retry s n } in
    costs_then k (costs_timers k (λ s. cleared 3 n s.timers) (λ s h. cleared_from 3 n s.clock s.timers h)) (costs_then k again (costs_launch k n))

costs_rank : {P : Type 0} {E : ℕ → Type 0} {R : Cost → State → Effect → Type 0} → IsPriced P E R → (r : Rank) (n : ℕ) → Costs R due_cost (by_rank r n)
costs_rank {R} k Rank.Op n =
    costs_at (λ s. with_found (find (λ e. owner_number e.owner == n) s.processes) (λ (e : Entry). step_process run_due e.owner))
    (λ s. op_costs R k s (find (λ e. owner_number e.owner == n) s.processes))
costs_rank k Rank.StopDeadline n = costs_most k (costs_stop_deadline k n) refl
costs_rank k Rank.RemovalDeadline n = costs_most k (costs_removal_deadline k n) refl
costs_rank k Rank.RestartTimer n = costs_most k (costs_restart_timer k n) refl

pub costs_due : {P : Type 0} {E : ℕ → Type 0} {R : Cost → State → Effect → Type 0} → IsPriced P E R → (d : DueAction) → Costs R due_cost (due_effect d)
costs_due k d = costs_rank k (rank_numbered d.rank) d.number
