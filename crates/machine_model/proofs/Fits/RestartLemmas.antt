-- What fits still fits behind a restart.
use Rattle.std.specs.Option.{is_some}
use Rattle.std.proofs.Common.{◌≡◌, ℕ, Bool, true, false, List, Option, Some, None, refl, ap, ℤ}
use Rattle.api_json.specs.Status.{is_paused, is_restarting}
use Rattle.proc_kernel.specs.Catalogue.{program_of}
use Rattle.engine_text.specs.Scripts.{Program}
use Rattle.machine_model.specs.State.{State, container_numbered}
use Rattle.machine_model.specs.Chain.{and_then}
use Rattle.machine_model.specs.EventTexts.{plain_event}
use Rattle.machine_model.specs.Outcome.{at_reference, done}
use Rattle.machine_model.specs.Tickets.{begins, begun}
use Rattle.machine_model.specs.Consistency.{is_there, FitsStatus}
use Rattle.machine_model.specs.Effects.Cancel.{cancel_restart}
use Rattle.machine_model.specs.Effects.Halt.{halt}
use Rattle.machine_model.specs.Calls.Start.{if_program}
use Rattle.machine_model.specs.Calls.Restart as restart
use Rattle.machine_model.specs.Calls.Restart.{to_restart, launch_again}
use Rattle.machine_model.proofs.Fits.PartLemmas.{Leads, leads_then, leads_from, leads_to, leads_tell}
use Rattle.machine_model.proofs.Fits.LaunchLemmas.{Fine, Fallen, On, Local, on_here, leads_launch_by_call}
use Rattle.machine_model.proofs.Fits.MeetLemmas.{leads_halt, leads_cancel}
use Rattle.machine_model.proofs.Fits.CallLemmas.{PartsFit, mains_found, mains_at, names_of, to_fallen, to_alive, to_resting, up_fine}
use Rattle.engine_text.specs.declared.container.Container.{Container}
use Rattle.engine_text.specs.declared.signal.Signal.{Signal}
use Rattle.engine_text.specs.declared.status.Status.{Status}
use Rattle.engine_text.specs.declared.ticket.Asked.{Asked}
use Rattle.engine_text.specs.declared.event.Action.TheVariants as Action

again_up : (n : ℕ) → Leads Local n (On Fallen) (launch_again n) (On Fine)
again_up n = leads_to up_fine (leads_then (leads_launch_by_call n) (leads_tell n (plain_event Action.Restart)))

restart_ran : (s : State) (c : Container) (u : Status) (o : Option Program) → program_of c.life.words 1 ≡ o → container_numbered c.number s ≡ Some c → c.life.status ≡ u
    → ((live : Bool) → FitsStatus u live → live ≡ false) → is_restarting u ≡ false → is_paused u ≡ false → PartsFit s → PartsFit (if_program o c.life.words (done (launch_again c.number)) s).effect.state
restart_ran s c u None e found is dead calm up h = h
restart_ran s c u (Some program) e found is dead calm up h =
    mains_found s c (launch_again c.number) found
    (leads_from (λ v k. to_fallen c u v is (λ fits. dead (is_some v.main) fits) calm up (names_of c.life.words 1 (ap is_there e)) k) (again_up c.number)) h

restart_halts : (s : State) (connection : ℕ) (seconds : Option ℤ) (signal : Option Signal) (c : Container) (u : Status) → container_numbered c.number s ≡ Some c → c.life.status ≡ u
    → ((live : Bool) → FitsStatus u live → live ≡ true) → PartsFit s → PartsFit (begins connection c Asked.Restart (halt to_restart seconds signal c) s).effect.state
restart_halts s connection seconds signal c u found is lives h =
    let t : State = begun connection c.number Asked.Restart s in
    mains_found t c (halt to_restart seconds signal c) found
    (leads_from (λ v k. to_alive c u v is (λ fits. lives (is_some v.main) fits) k)
    (leads_to up_fine (leads_halt to_restart seconds signal c (record { status = λ l. refl; pid = λ l. refl; words = λ l. refl; log = λ l. refl; starts = λ l. refl })))) h

restart_by : (s : State) (connection : ℕ) (seconds : Option ℤ) (signal : Option Signal) (c : Container) (u : Status) → container_numbered c.number s ≡ Some c → c.life.status ≡ u → PartsFit s
    → PartsFit (restart.by_status u connection seconds signal c s).effect.state
restart_by s connection seconds signal c Status.Created found is h = restart_ran s c Status.Created (program_of c.life.words 1) refl found is (λ live fits. fits) refl refl h
restart_by s connection seconds signal c Status.Exited found is h = restart_ran s c Status.Exited (program_of c.life.words 1) refl found is (λ live fits. fits) refl refl h
restart_by s connection seconds signal c Status.Running found is h = restart_halts s connection seconds signal c Status.Running found is (λ live fits. fits) h
restart_by s connection seconds signal c Status.Paused found is h = restart_halts s connection seconds signal c Status.Paused found is (λ live fits. fits) h
restart_by s connection seconds signal c Status.Restarting found is h =
    mains_found s c (and_then (cancel_restart c.number) (launch_again c.number)) found
    (leads_from (λ v k. to_resting c v is k) (leads_then (leads_to (λ v k. on_here Fallen v (k.0, k.1, k.2.0)) (leads_cancel c.number)) (again_up c.number))) h
restart_by s connection seconds signal c Status.Removing found is h = h
restart_by s connection seconds signal c Status.Dead found is h = h

pub restart_mains : (connection : ℕ) (target : List ℕ) (seconds : Option ℤ) (signal : Option Signal) (s : State) → PartsFit s → PartsFit (at_reference target (restart.restart_outcome connection seconds signal) s).effect.state
restart_mains connection target seconds signal s h =
    mains_at s target (λ c. restart.by_status c.life.status connection seconds signal c) (λ c found. restart_by s connection seconds signal c c.life.status found refl h) h
