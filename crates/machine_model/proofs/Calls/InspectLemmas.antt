-- What an inspect obeys.
use Rattle.std.proofs.Common.{ℕ, List, refl}
use Rattle.machine_model.specs.State.{State}
use Rattle.machine_model.specs.Call.{outcome_of}
use Rattle.machine_model.specs.Outcome.{answers}
use Rattle.machine_model.specs.Views.{container_body}
use Rattle.machine_model.proofs.ObeyLemmas.{Obeys, obeys_answer, obeys_at}
use Rattle.engine_text.specs.declared.call.Call.{Call}

pub inspect_obeys : (target : List ℕ) (connection : ℕ) (s : State) → Obeys (Call.Inspect target) s (outcome_of (Call.Inspect target) connection s)
inspect_obeys target connection s =
    obeys_at (Call.Inspect target) s target (λ c. answers 200 (container_body c)) refl refl (λ c found. obeys_answer (Call.Inspect target) s 200 _ refl)
