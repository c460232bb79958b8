use Rattle.std.proofs.Common.{◌≡◌, ◌++◌, List, option_map}
use Rattle.serde_json.specs.View.{members_view}
use Rattle.engine_text.specs.declared.filter.FilterRow.{FilterRow}
use Rattle.api_json.specs.Filters as spec
use Rattle.api_json.proofs.filters.rows_in.Given as goal

abbrev pub invariant-members : goal.invariant-members
invariant-members l =
    (goal.iterator-members).can_next l.name-iterator ×
    (goal.iterator-members).is_finite l.name-iterator ×
    (option_map (λ (rest : List FilterRow). l.rows ++ rest) (spec.rows_in l.keys (members_view l.name-iterator)) ≡ spec.rows_in l.fn.keys (members_view l.fn.map.entries))
