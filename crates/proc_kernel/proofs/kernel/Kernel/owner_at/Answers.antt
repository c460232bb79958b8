use Rattle.std.proofs.Common.{◌∙◌, ap, arith, sym, option_map, Some}
use Rattle.std.proofs.lemmas.Bool.Decides.{nat_tests}
use Rattle.proc_kernel.specs.Tables.{Table, Entry}
use Rattle.proc_kernel.proofs.Boxes.{entry_at}
use Rattle.proc_kernel.proofs.kernel.Kernel.owner_at.Goals as goal

pub returns-in-Some : goal.returns-in-Some
returns-in-Some c =
    ap (λ s. Some s.owner) c.deref.ensures
    ∙ sym (ap (option_map (λ (e : Entry). e.owner)) (entry_at c.in-Some.slot.now c.as_slice.result.now c.self.inside.slots.items c.args.place _ (ap (λ (t : Table). t.processes) c.self.view_is) c.as_slice.ensures.value (grind (arith, nat_tests, c.in-Some.ensures.lookup)) c.in-Some.ensures.lookup.1))
