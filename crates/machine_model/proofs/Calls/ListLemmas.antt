-- What a list obeys.
use Rattle.std.proofs.Common.{ℕ, Bool, List, Option, refl}
use Rattle.machine_model.specs.State.{State}
use Rattle.machine_model.specs.Call.{outcome_of}
use Rattle.machine_model.proofs.ObeyLemmas.{Obeys, obeys_answer}
use Rattle.engine_text.specs.declared.call.Call.{Call}
use Rattle.engine_text.specs.declared.filter.FilterRow.{FilterRow}

pub list_obeys : (all : Bool) (limit : Option ℕ) (filters : List FilterRow) (connection : ℕ) (s : State) → Obeys (Call.List all limit filters) s (outcome_of (Call.List all limit filters) connection s)
list_obeys all limit filters connection s = obeys_answer (Call.List all limit filters) s 200 _ refl
