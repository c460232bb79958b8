use Rattle.std.proofs.Common.{◌≡◌}
use Rattle.serde_json.specs.View.{members_view}
use Rattle.api_json.specs.Lists.{pairs_of_members}
use Rattle.journal_lines.proofs.ListLemmas.{behind}
use Rattle.journal_lines.proofs.reading.lists.pairs_of.Given as goal

abbrev pub invariant-members : goal.invariant-members
invariant-members l =
    (goal.iterator-members).can_next l.key-iterator ×
    (goal.iterator-members).is_finite l.key-iterator ×
    (behind l.pairs (pairs_of_members (members_view l.key-iterator)) ≡ pairs_of_members (members_view l.fn.map.entries))
