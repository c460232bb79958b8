use Rattle.std.proofs.Common.{◌≡◌, ◌∙◌, ◌++◌, ◌∷◌, [], Some, None, List, ap, sym, eqb}
use Rattle.std.proofs.lemmas.Option.{same_Some}
use Rattle.engine_text.specs.declared.log.LogRecord.{LogRecord}
use Rattle.engine_text.proofs.PlaceLemmas.{remove_at, remove_nowhere, find_at, find_nowhere}
use Rattle.exec_table.specs.ExecsInside.{output_in}
use Rattle.exec_table.specs.declared.row.Row.{Row}
use Rattle.exec_table.proofs.rows.move_out.Goals as goal

pub returns-in-Some-clause-rows : goal.returns-in-Some-clause-rows
returns-in-Some-clause-rows c = c.remove-exec.ensures.items ∙ remove_at (λ (r : Row). eqb r.exec.number c.args.number) c.args.rows.now.items c.in-Some.i c.remove-exec.result (sym c.place_of.ensures ∙ c.in-Some.is)

pub returns-in-Some-clause-into : goal.returns-in-Some-clause-into
returns-in-Some-clause-into c r found =
    let here = find_at (λ (r : Row). eqb r.exec.number c.args.number) c.args.rows.now.items c.in-Some.i c.remove-exec.result (sym c.place_of.ensures ∙ c.in-Some.is) in
    let is : c.remove-exec.result ≡ r = c.remove-exec.ensures.value ∙ same_Some _ _ (sym here ∙ found) in
    c.push_reserved.ensures.items
    ∙ ap (λ (l : List LogRecord). c.args.into.now.items ++ (record (output_in c.remove-exec.result) { log = l }) ∷ []) c.close.ensures
    ∙ ap (λ (s : Row). c.args.into.now.items ++ output_in s ∷ []) is

pub returns-in_default-clause-rows : goal.returns-in_default-clause-rows
returns-in_default-clause-rows c = sym (remove_nowhere (λ (r : Row). eqb r.exec.number c.args.number) c.args.rows.now.items (sym c.place_of.ensures ∙ c.in_default.is))

pub returns-in_default-clause-into : goal.returns-in_default-clause-into
returns-in_default-clause-into c r found =
    let none : None ≡ Some r = sym (find_nowhere (λ (r : Row). eqb r.exec.number c.args.number) c.args.rows.now.items (sym c.place_of.ensures ∙ c.in_default.is)) ∙ found in
    absurd (cc)
