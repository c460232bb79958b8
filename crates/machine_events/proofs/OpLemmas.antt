-- What an op leaves for what follows it.
use Rattle.std.proofs.Common.{◌≡◌, ℕ, ◌<◌, List, refl, sym, ap, subst}
use Rattle.engine_text.specs.declared.container.Container.{Container}
use Rattle.engine_text.specs.declared.log.OwnedLog.{OwnedLog}
use Rattle.engine_text.specs.declared.owner.Owner.{Owner}
use Rattle.engine_text.specs.declared.script.Effect.{Effect}
use Rattle.proc_kernel.specs.Processes.{run_due}
use Rattle.proc_kernel.specs.Tables.{effect_of, process_of}
use Rattle.machine_model.specs.State.{State}
use Rattle.machine_model.specs.Effects.Meet.{by_effect, step_process, stepped}
use Rattle.machine_events.specs.Fit.{CanSettle}
use Rattle.machine_events.specs.Memory.{Memory}
use Rattle.machine_events.specs.Ops.{HasRecordRoom, CanEnd}
use Rattle.machine_events.specs.Rooms.{FitsLog, FitsOutput}
use Rattle.machine_events.specs.declared.end_memory.EndMemory.{EndMemory}
use Rattle.machine_events.proofs.DiedLemmas.{end_stepped, main_ended}

pub record_stepped : (o p : Owner) (m k : Memory) → k.state ≡ stepped run_due p m.state → k.logs ≡ m.logs → k.outputs ≡ m.outputs → HasRecordRoom o m → HasRecordRoom o k
record_stepped (Owner.Container n) p m k state logs outputs h =
    subst (λ (l : List ℕ). FitsLog n k.state.containers l) (sym logs)
    (subst (λ (cs : List Container). FitsLog n cs m.logs) (sym (ap (λ (s : State). s.containers) state)) h)
record_stepped (Owner.Exec n) p m k state logs outputs h =
    subst (λ (l : List ℕ). FitsOutput n k.state.outputs l) (sym outputs)
    (subst (λ (os : List OwnedLog). FitsOutput n os m.outputs) (sym (ap (λ (s : State). s.outputs) state)) h)

pub end_run : (o : Owner) (brought : EndMemory) (e : Effect) (m k : Memory) → k.state ≡ stepped run_due o m.state → e ≡ effect_of (run_due m.state.clock) (process_of o m.state.processes) → k.room ≡ m.room → 0 < k.spare
    → CanEnd (step_process run_due) o brought m → CanEnd (by_effect e) o brought k
end_run (Owner.Container n) brought e m k state effect room spare h = (end_stepped run_due n brought m.room k.room m.state k.state e state effect room h.0, spare)
end_run (Owner.Exec n) brought e m k state effect room spare h = tt

-- where it has ended, its end is ready
pub end_known : (o : Owner) (brought : EndMemory) (code : ℕ) (e : Effect) (m : Memory) → e ≡ Effect.Ended code → CanEnd (by_effect e) o brought m → CanEnd (by_effect (Effect.Ended code)) o brought m
end_known o brought code e m is h = subst (λ (x : Effect). CanEnd (by_effect x) o brought m) is h

pub end_main_known : (o : Owner) (n : ℕ) (brought : EndMemory) (code : ℕ) (m : Memory) → o ≡ Owner.Container n → CanEnd (by_effect (Effect.Ended code)) o brought m → CanSettle n brought m.room m.state × (0 < m.spare)
end_main_known o n brought code m is h =
    let at : CanEnd (by_effect (Effect.Ended code)) (Owner.Container n) brought m = subst (λ (x : Owner). CanEnd (by_effect (Effect.Ended code)) x brought m) is h in
    (at.0 (main_ended (Effect.Ended code) code n m.state refl), at.1)
