-- What fits still fits behind a stop.
use Rattle.std.specs.Option.{is_some}
use Rattle.std.proofs.Common.{◌≡◌, ℕ, Bool, true, List, Option, Some, refl, ℤ}
use Rattle.machine_model.specs.State.{State, container_numbered}
use Rattle.machine_model.specs.Outcome.{at_reference}
use Rattle.machine_model.specs.Chain.{and_then, tell_of}
use Rattle.machine_model.specs.EventTexts.{plain_event}
use Rattle.machine_model.specs.Tickets.{begins, begun}
use Rattle.machine_model.specs.Consistency.{FitsStatus}
use Rattle.machine_model.specs.Effects.Cancel.{cancel_restart}
use Rattle.machine_model.specs.Effects.Halt.{halt}
use Rattle.machine_model.specs.Calls.Stop as stop
use Rattle.machine_model.specs.Calls.Stop.{stopping}
use Rattle.machine_model.proofs.Fits.PartLemmas.{leads_then, leads_from, leads_to, leads_tell}
use Rattle.machine_model.proofs.Fits.MeetLemmas.{leads_halt, leads_cancel}
use Rattle.machine_model.proofs.Fits.CallLemmas.{PartsFit, mains_found, mains_at, to_alive, to_resting, up_fine, cancelled_up}
use Rattle.engine_text.specs.declared.container.Container.{Container}
use Rattle.engine_text.specs.declared.signal.Signal.{Signal}
use Rattle.engine_text.specs.declared.status.Status.{Status}
use Rattle.engine_text.specs.declared.ticket.Asked.{Asked}
use Rattle.engine_text.specs.declared.event.Action.TheVariants as Action

stop_halts : (s : State) (connection : ℕ) (seconds : Option ℤ) (signal : Option Signal) (c : Container) (u : Status) → container_numbered c.number s ≡ Some c → c.life.status ≡ u
    → ((live : Bool) → FitsStatus u live → live ≡ true) → PartsFit s → PartsFit (begins connection c Asked.Stop (halt stopping seconds signal c) s).effect.state
stop_halts s connection seconds signal c u found is lives h =
    let t : State = begun connection c.number Asked.Stop s in
    mains_found t c (halt stopping seconds signal c) found
    (leads_from (λ v k. to_alive c u v is (λ fits. lives (is_some v.main) fits) k)
    (leads_to up_fine (leads_halt stopping seconds signal c (record { status = λ l. refl; pid = λ l. refl; words = λ l. refl; log = λ l. refl; starts = λ l. refl })))) h

stop_by : (s : State) (connection : ℕ) (seconds : Option ℤ) (signal : Option Signal) (c : Container) (u : Status) → container_numbered c.number s ≡ Some c → c.life.status ≡ u → PartsFit s
    → PartsFit (stop.by_status u connection seconds signal c s).effect.state
stop_by s connection seconds signal c Status.Created found is h = h
stop_by s connection seconds signal c Status.Running found is h = stop_halts s connection seconds signal c Status.Running found is (λ live fits. fits) h
stop_by s connection seconds signal c Status.Paused found is h = stop_halts s connection seconds signal c Status.Paused found is (λ live fits. fits) h
stop_by s connection seconds signal c Status.Restarting found is h =
    mains_found s c (and_then (cancel_restart c.number) (tell_of (plain_event Action.Stop) c.number)) found
    (leads_from (λ v k. to_resting c v is k) (leads_to cancelled_up (leads_then (leads_cancel c.number) (leads_tell c.number (plain_event Action.Stop))))) h
stop_by s connection seconds signal c Status.Removing found is h = h
stop_by s connection seconds signal c Status.Exited found is h = h
stop_by s connection seconds signal c Status.Dead found is h = h

pub stop_mains : (connection : ℕ) (target : List ℕ) (seconds : Option ℤ) (signal : Option Signal) (s : State) → PartsFit s → PartsFit (at_reference target (stop.stop_outcome connection seconds signal) s).effect.state
stop_mains connection target seconds signal s h =
    mains_at s target (λ c. stop.by_status c.life.status connection seconds signal c) (λ c found. stop_by s connection seconds signal c c.life.status found refl h) h
