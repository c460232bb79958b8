-- What fits still fits behind an update.
use Rattle.std.proofs.Common.{◌≡◌, ℕ, Bool, true, false, List, Option, Some, refl}
use Rattle.proc_kernel.specs.Processes.{Process}
use Rattle.machine_model.specs.State.{State, container_numbered}
use Rattle.machine_model.specs.Outcome.{at_reference}
use Rattle.machine_model.specs.EventTexts.{plain_event}
use Rattle.machine_model.specs.Calls.Update as update
use Rattle.machine_model.specs.Calls.Update.{governed}
use Rattle.machine_model.proofs.Fits.PartLemmas.{leads_then, leads_from, leads_tell}
use Rattle.machine_model.proofs.Fits.LaunchLemmas.{Fine, on_here, on_renew}
use Rattle.machine_model.proofs.Fits.CallLemmas.{PartsFit, mains_found, mains_at, fine_of}
use Rattle.engine_text.specs.declared.container.Container.{Container}
use Rattle.engine_text.specs.declared.container.Life.{Life}
use Rattle.engine_text.specs.declared.event.Action.TheVariants.{Update}
use Rattle.engine_text.specs.declared.policy.Policy.{Policy}
use Rattle.engine_text.specs.declared.status.Status.{Status}

fine_governed : (policy : Option Policy) (l : Life) (p : Option Process) (a b c : Bool) → Fine l p a b c → Fine (governed policy l) p a b c
fine_governed policy l p a b c h = (
  record {
    status = h.0.status;
    frozen = h.0.frozen;
    pid = h.0.pid;
    stop = h.0.stop;
    removal = h.0.removal;
    restart = h.0.restart;
    program = h.0.program;
    again = h.0.again;
    started = h.0.started;
  },
  h.1,
)

excluded_fits : (s : State) (policy : Option Policy) (c : Container) (b : Bool) → container_numbered c.number s ≡ Some c → PartsFit s → PartsFit (update.by_excluded b policy c s).effect.state
excluded_fits s policy c true found h = h
excluded_fits s policy c false found h =
    mains_found s c (update.update policy c) found
    (leads_from (λ v k. on_here Fine v (c.life, k.0, fine_of c v k))
    (leads_then (on_renew (governed policy) (λ l p x y z k. fine_governed policy l p x y z k) (λ l p x y z k. refl) (λ l. refl))
    (leads_tell c.number (plain_event Update)))) h

stands_fit : (s : State) (policy : Option Policy) (c : Container) → container_numbered c.number s ≡ Some c → PartsFit s → PartsFit (update.update_standing policy c s).effect.state
stands_fit s policy c found h = excluded_fits s policy c (update.is_excluded c.life.auto_remove policy) found h

update_by : (s : State) (policy : Option Policy) (c : Container) (u : Status) → container_numbered c.number s ≡ Some c → PartsFit s → PartsFit (update.by_status u policy c s).effect.state
update_by s policy c Status.Created found h = stands_fit s policy c found h
update_by s policy c Status.Running found h = stands_fit s policy c found h
update_by s policy c Status.Paused found h = stands_fit s policy c found h
update_by s policy c Status.Restarting found h = stands_fit s policy c found h
update_by s policy c Status.Removing found h = h
update_by s policy c Status.Exited found h = stands_fit s policy c found h
update_by s policy c Status.Dead found h = h

pub update_mains : (target : List ℕ) (policy : Option Policy) (s : State) → PartsFit s → PartsFit (at_reference target (update.update_outcome policy) s).effect.state
update_mains target policy s h = mains_at s target (λ c. update.by_status c.life.status policy c) (λ c found. update_by s policy c c.life.status found h) h
