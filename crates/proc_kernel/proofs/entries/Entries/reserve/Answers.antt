use Rattle.std.proofs.Common.{refl}
use Rattle.proc_kernel.proofs.EntryLemmas.{still}
use Rattle.proc_kernel.proofs.entries.Entries.reserve.Goals as goal

pub invariant_of-self : goal.invariant_of-self
invariant_of-self c = still _ _ _ _ _ c.reserve.ensures.items refl c.self.invariant

pub invariant_of-self-in_err-reserve-2 : goal.invariant_of-self-in_err-reserve-2
invariant_of-self-in_err-reserve-2 c = still _ _ _ _ _ c.reserve.ensures.items c.reserve-2.ensures.items c.self.invariant

pub invariant_of-self-2 : goal.invariant_of-self-2
invariant_of-self-2 c = still _ _ _ _ _ c.reserve.ensures.items c.reserve-2.ensures.items c.self.invariant
