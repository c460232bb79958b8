-- What fits still fits behind a start.
use Rattle.std.specs.Option.{is_some}
use Rattle.std.proofs.Common.{◌≡◌, ℕ, Bool, false, List, Option, Some, None, refl, ap}
use Rattle.api_json.specs.Status.{is_paused, is_restarting}
use Rattle.proc_kernel.specs.Catalogue.{program_of}
use Rattle.engine_text.specs.Scripts.{Program}
use Rattle.machine_model.specs.State.{State, container_numbered}
use Rattle.machine_model.specs.Outcome.{at_reference, done}
use Rattle.machine_model.specs.Consistency.{is_there, FitsStatus}
use Rattle.machine_model.specs.Effects.Launch.{launch_by_call}
use Rattle.machine_model.specs.Calls.Start as start
use Rattle.machine_model.specs.Calls.Start.{if_program}
use Rattle.machine_model.proofs.Fits.PartLemmas.{leads_from, leads_to}
use Rattle.machine_model.proofs.Fits.LaunchLemmas.{leads_launch_by_call}
use Rattle.machine_model.proofs.Fits.CallLemmas.{PartsFit, mains_found, mains_at, names_of, to_fallen, up_fine}
use Rattle.engine_text.specs.declared.container.Container.{Container}
use Rattle.engine_text.specs.declared.status.Status.{Status}

start_ran : (s : State) (c : Container) (u : Status) (o : Option Program) → program_of c.life.words 1 ≡ o → container_numbered c.number s ≡ Some c → c.life.status ≡ u
    → ((live : Bool) → FitsStatus u live → live ≡ false) → is_restarting u ≡ false → is_paused u ≡ false → PartsFit s → PartsFit (if_program o c.life.words (done (launch_by_call c.number)) s).effect.state
start_ran s c u None e found is dead calm up h = h
start_ran s c u (Some program) e found is dead calm up h =
    mains_found s c (launch_by_call c.number) found
    (leads_from (λ v k. to_fallen c u v is (λ fits. dead (is_some v.main) fits) calm up (names_of c.life.words 1 (ap is_there e)) k) (leads_to up_fine (leads_launch_by_call c.number))) h

start_by : (s : State) (c : Container) (u : Status) → container_numbered c.number s ≡ Some c → c.life.status ≡ u → PartsFit s → PartsFit (start.by_status u c s).effect.state
start_by s c Status.Created found is h = start_ran s c Status.Created (program_of c.life.words 1) refl found is (λ live fits. fits) refl refl h
start_by s c Status.Exited found is h = start_ran s c Status.Exited (program_of c.life.words 1) refl found is (λ live fits. fits) refl refl h
start_by s c Status.Running found is h = h
start_by s c Status.Paused found is h = h
start_by s c Status.Restarting found is h = h
start_by s c Status.Removing found is h = h
start_by s c Status.Dead found is h = h

pub start_mains : (target : List ℕ) (s : State) → PartsFit s → PartsFit (at_reference target start.start_outcome s).effect.state
start_mains target s h = mains_at s target (λ c. start.by_status c.life.status c) (λ c found. start_by s c c.life.status found refl h) h
