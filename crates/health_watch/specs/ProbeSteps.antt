-- own: one op of a probe, and what is known of its outcome then.
use Rattle.std.specs.Prelude.{ℕ, suc, ◌≡◌, List, [], ◌∷◌, Option, Some, None}
use Rattle.engine_text.specs.declared.owner.Owner.TheVariants.{Exec}
use Rattle.engine_text.specs.declared.script.Effect.{Effect}
use Rattle.engine_text.specs.declared.script.Effect.TheVariants.{Lives, Wrote, Ended}
use Rattle.proc_kernel.specs.Processes.{Process}
use Rattle.proc_kernel.specs.Tables.{Entry, begun}
use Rattle.proc_kernel.specs.Times.{IsTimely}
use Rattle.health_watch.specs.declared.outcome.Outcome.{Outcome}
use Rattle.health_watch.specs.Probes.{Goes, onwards, onward, outcome_by}

-- the kernel of a probe has its one process
abbrev pub alone : Process → List Entry
alone p = begun (Exec 0) p ∷ []

-- the code with which an effect ends a process
abbrev pub ended_by : Effect → Option ℕ
ended_by Lives = None
ended_by (Wrote stream bytes) = None
ended_by (Ended code) = Some code

-- the outcome is known, whatever the number of ops that follow
abbrev pub IsKnown : ℕ → ℕ → Process → Outcome → Type 0
IsKnown timeout t p o = (n : ℕ) → outcome_by timeout (onwards (suc n) (Goes t p)) ≡ o

-- one op more: the outcome is known, or the process lives on
abbrev pub StepSays : ℕ → ℕ → Process → Option Outcome → List Entry → Type 0
StepSays timeout t p (Some o) after = IsKnown timeout t p o
StepSays timeout t p None after =
    (m : ℕ) × (q : Process) × (onward (Goes t p) ≡ Goes m q) × IsTimely m q × (after ≡ alone q)
