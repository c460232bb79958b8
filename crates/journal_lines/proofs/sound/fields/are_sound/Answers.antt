use Rattle.std.proofs.Common.{ℕ, List, sym, ◌∙◌}
use denote.Ref.{Bor}
use Rattle.std.proofs.lemmas.List.Folds.{list_all-map}
use Rattle.journal_lines.specs.Fields.{KeyedField, is_field_sound}
use Rattle.journal_lines.specs.LentFields.{told_field}
use Rattle.journal_lines.specs.declared.fields.kinds.Field.{Field}
use Rattle.journal_lines.proofs.sound.fields.are_sound.Goals as goal

abbrev told : Bor (List ℕ) × Field → KeyedField
told f = (f.0.now, told_field f.1)

pub returns : goal.returns
returns c = c.are_all_sound.ensures ∙ sym (list_all-map (λ (f : KeyedField). is_field_sound f.1) told c.args.fields.now)
