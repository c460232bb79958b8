use Rattle.std.proofs.Common.{◌≡◌, string_bytes, sym, ap, ◌∙◌, List, Some}
use Rattle.serde_json.specs.View.{view, members_view}
use Rattle.engine_text.specs.declared.filter.FilterRow.{FilterRow}
use Rattle.journal_lines.specs.Reading.Lists.{row_of, rows_of}
use Rattle.journal_lines.proofs.ListLemmas.{behind, rows_more}
use Rattle.journal_lines.proofs.reading.filter.rows_of.Goals as goal

pub members-preserved : goal.members-preserved
members-preserved c =
    let name = string_bytes c.in-Some.name.now in
    let d = view c.in-Some.value.now in
    let read : row_of name d ≡ Some c.in_ok-row.row = ap (λ n. row_of n d) (sym c.as_str.ensures.value) ∙ c.in_ok-row.ensures in
    let step = rows_more c.members.rows c.in_ok-row.row name d (members_view c.next.new.self) read in
    let grown = ap (λ (rs : List FilterRow). behind rs (rows_of (members_view c.next.new.self))) c.in_ok-push.ensures.ok in
    let began = ap (λ es. behind c.members.rows (rows_of (members_view es))) c.in-Some.ensures.steps in
    (tt, tt, grown ∙ step ∙ sym began ∙ c.members.invariant.2)
