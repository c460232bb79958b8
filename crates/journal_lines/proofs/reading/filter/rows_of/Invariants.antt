use Rattle.std.proofs.Common.{◌≡◌}
use Rattle.serde_json.specs.View.{members_view}
use Rattle.journal_lines.specs.Reading.Lists.{rows_of}
use Rattle.journal_lines.proofs.ListLemmas.{behind}
use Rattle.journal_lines.proofs.reading.filter.rows_of.Given as goal

abbrev pub invariant-members : goal.invariant-members
invariant-members l =
    (goal.iterator-members).can_next l.name-iterator ×
    (goal.iterator-members).is_finite l.name-iterator ×
    (behind l.rows (rows_of (members_view l.name-iterator)) ≡ rows_of (members_view l.fn.map.entries))
