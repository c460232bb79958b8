-- own: a step of the slot in a box is a step of that slot among all of them.
use Rattle.std.proofs.Common.{◌≡◌, ℕ, ◌<◌, List, [], ◌∷◌, ◌++◌, Some, ap, ◌∙◌, refl, sym, length, map, get_or, slice_set, slice_get, option_map, position}
use Rattle.std.specs.List.{remove}
use Rattle.std.specs.Box.{with_value}
use Rattle.std.specs.declared.boxed.Box.{Box}
use Rattle.std.proofs.Math.ListN.{get_or-map}
use Rattle.std.proofs.lemmas.List.{map-set, map-append}
use Rattle.std.proofs.lemmas.Option.{slice_get-map, slice_get_read}
use Rattle.engine_text.specs.declared.owner.Owner.{Owner}
use Rattle.proc_kernel.specs.declared.slot.Slot.{Slot}
use Rattle.proc_kernel.specs.Processes.{Process}
use Rattle.proc_kernel.specs.Slots.{process_in, entry_in, slots_in}
use Rattle.proc_kernel.specs.Tables.{Entry, change}
use Rattle.proc_kernel.proofs.OwnerLemmas.{map_remove}
use Rattle.proc_kernel.proofs.Places.{is_of, changed}

-- The slot that a box lends.
pub lent : {Z : Type 0} (s : Slot) (b : Box Slot Z) (boxes : List (Box Slot Z)) (i : ℕ) → s ≡ b.value → b ≡ get_or boxes i b → s ≡ get_or (slots_in boxes) i s
lent s b boxes i e at = rw e (ap (λ x. x.value) at ∙ sym (get_or-map (λ x. x.value) boxes i b))

pub slots_set : {Z : Type 0} (boxes : List (Box Slot Z)) (i : ℕ) (b : Box Slot Z) (new : Slot) → slots_in (slice_set boxes i (with_value b new)) ≡ slice_set (slots_in boxes) i new
slots_set boxes i b new = map-set (λ x. x.value) boxes i (with_value b new)

-- The slot in the box at an owner's position makes a step.
pub changed_boxed : {Z : Type 0} (o : Owner) (f : Process → Process) (s new : Slot) (b : Box Slot Z) (boxes : List (Box Slot Z)) (i : ℕ) (es : List Entry) → map entry_in (slots_in boxes) ≡ es
    → s ≡ b.value → b ≡ get_or boxes i b → position (is_of o) (slots_in boxes) ≡ Some i → new.owner ≡ s.owner → process_in new ≡ f (process_in s)
    → map entry_in (slots_in (slice_set boxes i (with_value b new))) ≡ change o f es
changed_boxed o f s new b boxes i es v e at p owner step =
    ap (map entry_in) (slots_set boxes i b new) ∙ changed o f s new (slots_in boxes) i es v (lent s b boxes i e at) p owner step

-- One box less.
pub slots_removed : {Z : Type 0} (boxes new : List (Box Slot Z)) (i : ℕ) → new ≡ remove boxes i → slots_in new ≡ remove (slots_in boxes) i
slots_removed boxes new i e = ap slots_in e ∙ map_remove (λ x. x.value) boxes i

-- One box more.
pub slots_pushed : {Z : Type 0} (boxes new : List (Box Slot Z)) (b : Box Slot Z) (s : Slot) → new ≡ boxes ++ b ∷ [] → b.value ≡ s → slots_in new ≡ slots_in boxes ++ s ∷ []
slots_pushed boxes new b s e is = ap slots_in e ∙ map-append (λ x. x.value) boxes (b ∷ []) ∙ ap (λ x. slots_in boxes ++ x ∷ []) is

-- The entry of the box at a place, of what a slice lends.
pub entry_at : {Z : Type 0} (b : Box Slot Z) (lent boxes : List (Box Slot Z)) (k : ℕ) (es : List Entry) → map entry_in (slots_in boxes) ≡ es → lent ≡ boxes → k < length lent → b ≡ get_or lent k b → slice_get es k ≡ Some (entry_in b.value)
entry_at b lent boxes k es v same low e =
    ap (λ l. slice_get l k) (sym v) ∙ slice_get-map entry_in (slots_in boxes) k
    ∙ ap (option_map entry_in) (slice_get-map (λ x. x.value) boxes k ∙ ap (λ l. option_map (λ x. x.value) (slice_get l k)) (sym same) ∙ ap (option_map (λ x. x.value)) (slice_get_read lent (length lent) k b refl low e))
