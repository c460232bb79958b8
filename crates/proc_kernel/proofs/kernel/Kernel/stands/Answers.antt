use Rattle.std.proofs.Common.{refl, sym, ap}
use Rattle.proc_kernel.specs.Tables.{Table, is_there}
use Rattle.proc_kernel.proofs.OwnerLemmas.{found_in}
use Rattle.proc_kernel.proofs.Places.{stands, missing}
use Rattle.proc_kernel.specs.Slots.{slots_in}
use Rattle.proc_kernel.proofs.Boxes.{lent}
use Rattle.proc_kernel.proofs.kernel.Kernel.stands.Goals as goal

pub returns-in-Some : goal.returns-in-Some
returns-in-Some c = sym (ap is_there (stands c.args.owner c.index-slot.result.now.value (slots_in c.self.inside.slots.items) c.in-Some.i _ (ap (λ (t : Table). t.processes) c.self.view_is) (lent _ _ c.self.inside.slots.items c.in-Some.i refl c.index-slot.ensures) (found_in _ _ _ _ _ c.place_of.ensures c.self.invariant.owners c.in-Some.is)))

pub returns-in-None : goal.returns-in-None
returns-in-None c = sym (ap is_there (missing c.args.owner (slots_in c.self.inside.slots.items) _ (ap (λ (t : Table). t.processes) c.self.view_is) (found_in _ _ _ _ _ c.place_of.ensures c.self.invariant.owners c.in-None.is)))
