use Rattle.std.proofs.Common.{ℕ, arith, List, subst}
use Rattle.std.specs.Prelude.{All}
use denote.Ref.{Bor}
use Rattle.std.proofs.lemmas.List.{take_all}
use Rattle.std.proofs.lemmas.List.Elements.{All-more}
use Rattle.journal_lines.specs.Fields.{FieldFitsType}
use Rattle.journal_lines.specs.LentFields.{told_field}
use Rattle.journal_lines.specs.declared.fields.kinds.Field.{Field}
use Rattle.journal_lines.proofs.reading.carried.each_fits.Goals as goal

abbrev Fits : Bor (List ℕ) × Field → Type 0
Fits f = FieldFitsType (told_field f.1)

pub loop-keyed-preserved : goal.loop-keyed-preserved
loop-keyed-preserved c =
    let keyed = c.keyed-item.result in
    All-more Fits c.args.fields.now c.loop-keyed.keyed-index keyed c.loop-keyed-test.true c.loop-keyed.invariant
    (subst Fits c.keyed-item.is c.field_texts.ensures)

pub returns : goal.returns
returns c =
    let all : List (Bor (List ℕ) × Field) = c.args.fields.now in
    subst (λ (fs : List (Bor (List ℕ) × Field)). All Fits fs) (take_all c.loop-keyed.keyed-index all (omega arith)) c.loop-keyed.invariant
