use Rattle.std.proofs.Common.{take}
use Rattle.std.specs.Prelude.{All}
use Rattle.journal_lines.specs.Fields.{FieldFitsType}
use Rattle.journal_lines.specs.LentFields.{told_field}
use Rattle.journal_lines.proofs.reading.carried.each_fits.Given as goal

abbrev pub invariant-loop-keyed : goal.invariant-loop-keyed
invariant-loop-keyed l = All (λ f. FieldFitsType (told_field f.1)) (take l.keyed-index l.fields)
