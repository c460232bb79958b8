use Rattle.std.proofs.Common.{◌≡◌, ◌++◌, List, option_map}
use Rattle.serde_json.specs.View.{members_view}
use Rattle.engine_text.specs.declared.pairs.Pair.{Pair}
use Rattle.api_json.specs.Lists.{pairs_of_members}
use Rattle.api_json.proofs.lists.read_pairs.Given as goal

abbrev pub invariant-members : goal.invariant-members
invariant-members l =
    (goal.iterator-members).can_next l.key-iterator ×
    (goal.iterator-members).is_finite l.key-iterator ×
    (option_map (λ (rest : List Pair). l.pairs ++ rest) (pairs_of_members (members_view l.key-iterator)) ≡ pairs_of_members (members_view l.fn.map.entries))
