use Rattle.std.proofs.Common.{ℕ, Option, Some, None, refl}
use Rattle.engine_text.specs.Scripts.{Program}
use Rattle.proc_kernel.specs.Catalogue.{program_of}
use Rattle.proc_kernel.specs.Times.{IsShortProgram}
use Rattle.proc_kernel.proofs.ProgramTimes.{program_short}
use Rattle.health_watch.specs.Probes.{IsOutcomeOf, outcome_of, probe_of}
use Rattle.health_watch.proofs.BoundLemmas.{outcome_right}
use Rattle.health_watch.proofs.ProgramBounds.{IsSlowIfAny, program_slow}
use Rattle.health_watch.proofs.laws.law_probes.Goals as goal

by : (timeout : ℕ) (program : Option Program) → IsShortProgram program → IsSlowIfAny program → IsOutcomeOf program timeout (outcome_of program timeout)
unfolding outcome_of
by timeout None short slow = refl
by timeout (Some program) short slow = outcome_right program slow short timeout

pub returns : goal.returns
unfolding probe_of
returns c spec k = by spec.timeout (program_of spec.words k) (program_short spec.words k) (program_slow spec.words k)
