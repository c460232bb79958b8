-- own: a kernel is sound after a step of one slot.
use Rattle.std.proofs.Common.{◌≡◌, ℕ, ◌+◌, ◌-◌, ◌<◌, ◌≤◌, List, Some, arith, length, get_or, position, vec_len}
use Rattle.std.specs.Vec.{with_item}
use Rattle.std.specs.Box.{with_value}
use Rattle.std.specs.declared.boxed.Box.{Box}
use Rattle.std.specs.declared.alloc.Global.{Global}
use Rattle.std.specs.declared.vec.Vec.{Vec}
use Rattle.std.proofs.lemmas.List.Quantifiers.{position-Some}
use Rattle.std.proofs.lemmas.List.Elements.{All-set}
use Rattle.engine_text.specs.declared.owner.Owner.{Owner}
use Rattle.proc_kernel.specs.declared.slot.Slot.{Slot}
use Rattle.proc_kernel.specs.declared.input.Place.{Place}
use Rattle.proc_kernel.specs.declared.kernel.Kernel.TheInside.{Inside}
use Rattle.proc_kernel.specs.KernelInside.{IsSoundKernel}
use Rattle.proc_kernel.specs.Slots.{IsSoundSlot, IsPlaced, Keeps, slots_in}
use Rattle.proc_kernel.proofs.Boxes.{lent, slots_set}
use Rattle.proc_kernel.proofs.Places.{is_of}
use Rattle.proc_kernel.proofs.OwnerLemmas.{owners_set}
use Rattle.proc_kernel.proofs.Spares.{sound_at, sound_kept, deeper_slots}

-- The slot where the owner stands takes a step.
pub stepped : (k : Inside) (o : Owner) (s new : Slot) (b : Box Slot Global) (i : ℕ) → position (is_of o) (slots_in k.slots.items) ≡ Some i → s ≡ b.value → b ≡ get_or k.slots.items i b → IsPlaced new → Keeps s new
    → IsSoundKernel k → IsSoundKernel (record k { slots = with_item k.slots i (with_value b new) })
stepped k o s new b i p e at placed keeps h =
    let slots : List Slot = slots_in k.slots.items in
    let low : i < length slots = (position-Some (is_of o) slots i s p).0 in
    let here : s ≡ get_or slots i s = lent s b k.slots.items i e at in
    record {
      owners = rw (slots_set k.slots.items i b new) (owners_set k.entries.owners s new slots i h.owners low here keeps.owner);
      entries = h.entries;
      places = h.places;
      slots = rw (slots_set k.slots.items i b new) (All-set (IsSoundSlot k.fed) slots i new (sound_kept k.fed s new (sound_at k.fed s slots i low here h.slots) placed keeps) h.slots);
      fed = h.fed;
      boxes = h.boxes;
      pieces = h.pieces;
      buffers = h.buffers;
      long = h.long;
    }

-- The slot where the owner stands is sound.
pub sound_in : (k : Inside) (o : Owner) (s : Slot) (b : Box Slot Global) (i : ℕ) → position (is_of o) (slots_in k.slots.items) ≡ Some i → s ≡ b.value → b ≡ get_or k.slots.items i b → IsSoundKernel k → IsSoundSlot k.fed s
sound_in k o s b i p e at h = sound_at k.fed s (slots_in k.slots.items) i (position-Some (is_of o) (slots_in k.slots.items) i s p).0 (lent s b k.slots.items i e at) h.slots

-- It takes a piece of input, which uses up a record.
pub fed : (k : Inside) (o : Owner) (s new : Slot) (b : Box Slot Global) (i : ℕ) (pieces : Vec Place Global) → position (is_of o) (slots_in k.slots.items) ≡ Some i → s ≡ b.value → b ≡ get_or k.slots.items i b
    → IsPlaced new → new.owner ≡ s.owner → length new.input ≡ length s.input + 1 → k.spare ≤ vec_len pieces + 1 → 0 < k.spare → IsSoundKernel k
    → IsSoundKernel (record k { slots = with_item k.slots i (with_value b new); fed = k.fed + 1; pieces = pieces; spare = k.spare - 1 })
fed k o s new b i pieces p e at placed owner len more some h =
    let slots : List Slot = slots_in k.slots.items in
    let low : i < length slots = (position-Some (is_of o) slots i s p).0 in
    let here : s ≡ get_or slots i s = lent s b k.slots.items i e at in
    let old : IsSoundSlot k.fed s = sound_at k.fed s slots i low here h.slots in
    record {
      owners = rw (slots_set k.slots.items i b new) (owners_set k.entries.owners s new slots i h.owners low here owner);
      entries = omega (arith, h.entries);
      places = omega (arith, h.places);
      slots = rw (slots_set k.slots.items i b new) (All-set (IsSoundSlot (k.fed + 1)) slots i new (record { place = placed; input = omega (arith, old.input, len) }) (deeper_slots k.fed (k.fed + 1) slots (omega arith) h.slots));
      fed = omega (arith, h.fed, some);
      boxes = omega (arith, h.boxes);
      pieces = omega (arith, more, some);
      buffers = omega (arith, h.buffers);
      long = h.long;
    }
