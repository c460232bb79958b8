use Rattle.std.proofs.Common.{◌∙◌, ap, arith, sym}
use Rattle.proc_kernel.specs.Processes.{next_due}
use Rattle.proc_kernel.specs.Slots.{process_in}
use Rattle.std.proofs.lemmas.Bool.Decides.{nat_tests}
use Rattle.proc_kernel.specs.Tables.{Table, due_in}
use Rattle.proc_kernel.proofs.Boxes.{entry_at}
use Rattle.proc_kernel.proofs.kernel.Kernel.due_of.Goals as goal

pub returns-in-Some : goal.returns-in-Some
returns-in-Some c =
    c.next_due.ensures
    ∙ ap (λ s. next_due (process_in s)) c.deref.ensures
    ∙ sym (ap due_in (entry_at c.in-Some.slot.now c.as_slice.result.now c.self.inside.slots.items c.args.place _ (ap (λ (t : Table). t.processes) c.self.view_is) c.as_slice.ensures.value (grind (arith, nat_tests, c.in-Some.ensures.lookup)) c.in-Some.ensures.lookup.1))
