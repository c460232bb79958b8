use Rattle.std.proofs.Common.{◌+◌, ℕ, List, drop, sym, ap, ◌∙◌}
use denote.Ref.{Bor}
use Rattle.std.proofs.lemmas.List.{at_drop_more, at_drop_all}
use Rattle.serde_json.specs.Data.{object}
use Rattle.json_objects.specs.Object.{members_in}
use Rattle.journal_lines.specs.Fields.{put_field, put_fields}
use Rattle.journal_lines.specs.LentFields.{told_field, told_list}
use Rattle.journal_lines.specs.declared.fields.kinds.Field.{Field}
use Rattle.journal_lines.proofs.writing.fields.fields_value.Goals as goal

pub fields-preserved : goal.fields-preserved
fields-preserved c =
    let before = members_in c.fields.object in
    let rest = told_list (drop (c.fields.keyed-index + 1) c.args.fields.now) in
    let item = c.keyed-item.result in
    let step = at_drop_more (λ fs. put_fields c.args.format (told_list fs) before) c.args.fields.now c.fields.keyed-index item c.fields-test.true in
    let at_item = ap (λ (f : Bor (List ℕ) × Field). put_fields c.args.format rest (put_field c.args.format (f.0.now, told_field f.1) before)) c.keyed-item.is in
    ap (put_fields c.args.format rest) c.in_ok-object.ensures ∙ at_item ∙ sym step ∙ c.fields.invariant

pub returns : goal.returns
returns c =
    let all = at_drop_all (λ fs. put_fields c.args.format (told_list fs) (members_in c.fields.object)) c.args.fields.now c.fields.keyed-index c.fields-test.false in
    c.value.ensures ∙ ap object (sym all ∙ c.fields.invariant)
