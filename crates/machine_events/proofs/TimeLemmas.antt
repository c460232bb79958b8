-- Effects keep the times of processes near.
use Rattle.std.proofs.Common.{◌≡◌, ℕ, ◌≤◌, Bool, true, false, List, [], ◌∷◌, Option, Some, None, sym, subst, if◌then◌else◌}
use Rattle.std.specs.List.{AllByRecursion}
use Rattle.engine_text.specs.Owner.{same_owner}
use Rattle.engine_text.specs.declared.owner.Owner.{Owner}
use Rattle.engine_text.specs.declared.exec.Exec.{Exec}
use Rattle.engine_text.specs.declared.script.Effect.{Effect as ProcessEffect}
use Rattle.engine_text.specs.declared.script.Effect.TheVariants.{Lives, Wrote, Ended}
use Rattle.proc_kernel.specs.Processes.{Process, ProcessStep, CanThaw}
use Rattle.proc_kernel.specs.Tables.{Entry, process_of, change as changed_of, without, OfProcess, effect_of}
use Rattle.proc_kernel.specs.Times.{IsTimely}
use Rattle.proc_kernel.proofs.TimeLemmas.{timely_thaws}
use Rattle.machine_model.specs.State.{State, exec_numbered, container_numbered, drop_process, change_exec}
use Rattle.machine_model.specs.EventTexts.{exec_die_event}
use Rattle.machine_model.specs.Chain.{and_then, change, tell_of, with_found}
use Rattle.machine_model.specs.Effects.EndMain.{end_exec, exec_ended}
use Rattle.machine_model.specs.Effects.Meet.{step_process, stepped, by_effect}
use Rattle.machine_model.proofs.ChainLemmas.{Keeps, keeps_found}
use Rattle.machine_events.specs.Fit.{AreTimely}

of_either : (t : ℕ) (b : Bool) (p : Process) (o : Option Process) → CanThaw t p → OfProcess (CanThaw t) o → OfProcess (CanThaw t) (if b then Some p else o)
of_either t true p o h k = h
of_either t false p o h k = k

thaws : (t : ℕ) (o : Owner) (es : List Entry) → t ≤ 9000000000000 → AllByRecursion (λ e. IsTimely t e.process) es → OfProcess (CanThaw t) (process_of o es)
thaws t o [] low all = tt
thaws t o (e ∷ es) low all = of_either t (same_owner e.owner o) e.process (process_of o es) (timely_thaws t t e.process low all.0) (thaws t o es low all.1)

-- each process can be thawed
pub can_thaw : (s : State) (o : Owner) → AreTimely s → OfProcess (CanThaw s.clock) (process_of o s.processes)
can_thaw s o a = thaws s.clock o s.processes a.clock a.processes

all_either : (t : ℕ) (b : Bool) (x y : Entry) (xs ys : List Entry) → IsTimely t x.process → IsTimely t y.process → AllByRecursion (λ e. IsTimely t e.process) xs → AllByRecursion (λ e. IsTimely t e.process) ys
    → AllByRecursion (λ e. IsTimely t e.process) (if b then x ∷ xs else y ∷ ys)
all_either t true x y xs ys px py all more = (px, all)
all_either t false x y xs ys px py all more = (py, more)

pub all_changed : (t : ℕ) (o : Owner) (f : Process → Process) → ((p : Process) → IsTimely t p → IsTimely t (f p)) → (es : List Entry) → AllByRecursion (λ e. IsTimely t e.process) es → AllByRecursion (λ e. IsTimely t e.process) (changed_of o f es)
all_changed t o f keeps [] all = tt
all_changed t o f keeps (e ∷ es) all = all_either t (same_owner e.owner o) (record e { process = f e.process }) e es (changed_of o f es) (keeps e.process all.0) all.0 all.1 (all_changed t o f keeps es all.1)

without_either : (t : ℕ) (b : Bool) (x : Entry) (xs ys : List Entry) → IsTimely t x.process → AllByRecursion (λ e. IsTimely t e.process) xs → AllByRecursion (λ e. IsTimely t e.process) ys
    → AllByRecursion (λ e. IsTimely t e.process) (if b then xs else x ∷ ys)
without_either t true x xs ys p all more = all
without_either t false x xs ys p all more = (p, more)

pub all_without : (t : ℕ) (o : Owner) (es : List Entry) → AllByRecursion (λ e. IsTimely t e.process) es → AllByRecursion (λ e. IsTimely t e.process) (without o es)
all_without t o [] all = tt
all_without t o (e ∷ es) all = without_either t (same_owner e.owner o) e es (without o es) all.0 all.1 (all_without t o es all.1)

found_either : (o : Option Exec) (code n : ℕ) (s : State) → AreTimely s → AreTimely (with_found o (λ (x : Exec). and_then (tell_of (exec_die_event x.id code) x.container) (and_then (change (drop_process (Owner.Exec n))) (change (change_exec n (exec_ended code))))) s).state
found_either None code n s a = a
found_either (Some x) code n s a =
    let b : AreTimely (tell_of (exec_die_event x.id code) x.container s).state = keeps_found AreTimely (container_numbered x.container s) _ (λ c z h. h) s a in
    record { clock = b.clock; processes = all_without _ (Owner.Exec n) _ b.processes }

pub timely_end_exec : (code n : ℕ) → Keeps AreTimely (end_exec code n)
timely_end_exec code n s a = found_either (exec_numbered n s) code n s a

timely_exec_effect : (e : ProcessEffect) (n : ℕ) → Keeps AreTimely (by_effect e (Owner.Exec n))
timely_exec_effect Lives n s a = a
timely_exec_effect (Wrote stream payload) n s a = record { clock = a.clock; processes = a.processes }
timely_exec_effect (Ended code) n s a = timely_end_exec code n s a

-- a step that keeps a process's times near keeps all
pub timely_exec : (step : ℕ → Process → ProcessStep) (n : ℕ) → ((t : ℕ) (p : Process) → IsTimely t p → IsTimely t (step t p).process) → Keeps AreTimely (step_process step (Owner.Exec n))
timely_exec step n keeps s a =
    timely_exec_effect (effect_of (step s.clock) (process_of (Owner.Exec n) s.processes)) n _
    (record { clock = a.clock; processes = all_changed s.clock (Owner.Exec n) (λ p. (step s.clock p).process) (λ p. keeps s.clock p) s.processes a.processes })

-- the same in parts
pub timely_parts : (step : ℕ → Process → ProcessStep) (n : ℕ) (e : ProcessEffect) (s a b : State) → ((t : ℕ) (p : Process) → IsTimely t p → IsTimely t (step t p).process)
    → AreTimely s → a ≡ stepped step (Owner.Exec n) s → b ≡ (by_effect e (Owner.Exec n) a).state → AreTimely b
timely_parts step n e s a b keeps h first second =
    let one : AreTimely (stepped step (Owner.Exec n) s) = record { clock = h.clock; processes = all_changed s.clock (Owner.Exec n) (λ p. (step s.clock p).process) (λ p. keeps s.clock p) s.processes h.processes } in
    subst (λ (z : State). AreTimely z) (sym second) (timely_exec_effect e n a (subst (λ (z : State). AreTimely z) (sym first) one))
