use Rattle.std.proofs.Common.{◌≡◌, ◌++◌, ℕ, List, option_map}
use Rattle.serde_json.specs.View.{members_view}
use Rattle.api_json.specs.Filters as spec
use Rattle.api_json.proofs.filters.true_keys.Given as goal

abbrev pub invariant-members : goal.invariant-members
invariant-members l =
    (goal.iterator-members).can_next l.key-iterator ×
    (goal.iterator-members).is_finite l.key-iterator ×
    (option_map (λ (rest : List (List ℕ)). l.words ++ rest) (spec.true_keys (members_view l.key-iterator)) ≡ spec.true_keys (members_view l.fn.map.entries))
