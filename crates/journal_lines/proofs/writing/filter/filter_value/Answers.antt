use Rattle.std.proofs.Common.{◌+◌, ℕ, List, drop, sym, ap, ap₂, ◌∙◌}
use Rattle.std.proofs.lemmas.List.{at_drop_more, at_drop_all}
use Rattle.serde_json.specs.Data.{Data, put, object}
use Rattle.api_json.specs.Values.{text, list_of}
use Rattle.engine_text.specs.Filter.{filter_word}
use Rattle.journal_lines.specs.Fields.{put_rows}
use Rattle.engine_text.specs.declared.filter.FilterRow.{FilterRow}
use Rattle.json_objects.specs.Object.{members_in}
use Rattle.journal_lines.proofs.writing.filter.filter_value.Goals as goal

pub rows-preserved : goal.rows-preserved
rows-preserved c =
    let before = members_in c.rows.object in
    let rest = drop (c.rows.row-index + 1) c.args.rows.now in
    let item = c.row-item.result in
    let step = at_drop_more (λ rs. put_rows rs before) c.args.rows.now c.rows.row-index item c.rows-test.true in
    let placed =
    c.in_ok-object.ensures ∙ ap₂ (λ (k : List ℕ) (d : Data). put k d before) c.filter_word.ensures (c.in_ok-values.ensures ∙ ap (list_of text) c.as_slice.ensures) in
    let at_item = ap (λ (r : FilterRow). put_rows rest (put (filter_word r.key) (list_of text r.values) before)) c.row-item.is in
    ap (put_rows rest) placed ∙ at_item ∙ sym step ∙ c.rows.invariant

pub returns : goal.returns
returns c =
    let all = at_drop_all (λ rs. put_rows rs (members_in c.rows.object)) c.args.rows.now c.rows.row-index c.rows-test.false in
    c.value.ensures ∙ ap object (sym all ∙ c.rows.invariant)
