-- own: the owners of entries stay in order, and tell where a slot stands.
use Rattle.std.proofs.Common.{◌≡◌, ℕ, zero, suc, ◌<◌, ◌+◌, not, List, [], ◌∷◌, ◌++◌, Option, Some, None, refl, sym, ap, ◌∙◌, arith, map, length, get_or, take, drop, remove, position, nat_lt, if◌then◌else◌}
use Rattle.std.specs.List.{position_or_len}
use Rattle.std.proofs.Math.ListN.{set}
use Rattle.std.proofs.lemmas.List.{take-map, drop-map, map-append}
use Rattle.engine_text.specs.declared.owner.Owner.{Owner}
use Rattle.engine_text.specs.Owner.{same_owner}
use Rattle.proc_kernel.specs.declared.slot.Slot.{Slot}
use Rattle.proc_kernel.specs.Entries.{place_in}
use Rattle.proc_kernel.specs.Slots.{entry_in}
use Rattle.proc_kernel.specs.Tables.{Entry, owners_of}
use Rattle.proc_kernel.proofs.Places.{is_of}

position_or_len_of : (o : Owner) (slots : List Slot) → position_or_len (λ x. same_owner x o) (owners_of (map entry_in slots)) ≡ position_or_len (is_of o) slots
position_or_len_of o [] = refl
position_or_len_of o (s ∷ slots) = ap (λ n. if not (same_owner s.owner o) then 1 + n else 0) (position_or_len_of o slots)

length_of : (slots : List Slot) → length (owners_of (map entry_in slots)) ≡ length slots
length_of [] = refl
length_of (s ∷ slots) = ap suc (length_of slots)

place_of_slot : (o : Owner) (slots : List Slot) → place_in o (owners_of (map entry_in slots)) ≡ position (is_of o) slots
place_of_slot o slots =
    ap (λ n. if nat_lt n (length (owners_of (map entry_in slots))) then Some n else None) (position_or_len_of o slots)
    ∙ ap (λ m. if nat_lt (position_or_len (is_of o) slots) m then Some (position_or_len (is_of o) slots) else None) (length_of slots)

-- Where the entries tell that it stands.
pub found_in : (o : Owner) (owners : List Owner) (slots : List Slot) (place r : Option ℕ) → place ≡ place_in o owners → owners ≡ owners_of (map entry_in slots) → place ≡ r → position (is_of o) slots ≡ r
found_in o owners slots place r e f g = sym (place_of_slot o slots) ∙ ap (place_in o) (sym f) ∙ sym e ∙ g

owners_at : (d new : Slot) (slots : List Slot) (i : ℕ) → i < length slots → new.owner ≡ (get_or slots i d).owner → owners_of (map entry_in (set slots i new)) ≡ owners_of (map entry_in slots)
owners_at d new [] i low e = absurd (omega (arith, low))
owners_at d new (s ∷ slots) zero low e = ap (λ o. o ∷ owners_of (map entry_in slots)) e
owners_at d new (s ∷ slots) (suc i) low e = ap (λ os. s.owner ∷ os) (owners_at d new slots i (omega (arith, low)) e)

-- A slot that keeps its owner keeps the owners.
pub owners_set : (owners : List Owner) (s new : Slot) (slots : List Slot) (i : ℕ) → owners ≡ owners_of (map entry_in slots) → i < length slots → s ≡ get_or slots i s → new.owner ≡ s.owner → owners ≡ owners_of (map entry_in (set slots i new))
owners_set owners s new slots i e low at same = e ∙ sym (owners_at s new slots i low (same ∙ ap (λ (x : Slot). x.owner) at))

-- One more slot, and one more owner.
pub owners_push : (owners : List Owner) (slots : List Slot) (s : Slot) (owners' : List Owner) (slots' : List Slot) → owners ≡ owners_of (map entry_in slots) → owners' ≡ owners ++ s.owner ∷ [] → slots' ≡ slots ++ s ∷ [] → owners' ≡ owners_of (map entry_in slots')
owners_push owners slots s owners' slots' e f g =
    f ∙ ap (λ l. l ++ s.owner ∷ []) e
    ∙ sym (ap (λ l. owners_of (map entry_in l)) g ∙ ap owners_of (map-append entry_in slots (s ∷ [])) ∙ map-append (λ (x : Entry). x.owner) (map entry_in slots) (entry_in s ∷ []))

pub map_remove : {A B : Type 0} (f : A → B) (xs : List A) (n : ℕ) → map f (remove xs n) ≡ remove (map f xs) n
map_remove f xs n =
    map-append f (take n xs) (drop (suc n) xs)
    ∙ ap (λ l. l ++ map f (drop (suc n) xs)) (sym (take-map f n xs))
    ∙ ap (λ l. take n (map f xs) ++ l) (sym (drop-map f (suc n) xs))

-- One slot less, and its owner.
pub owners_remove : (owners : List Owner) (slots : List Slot) (n : ℕ) (owners' : List Owner) (slots' : List Slot) → owners ≡ owners_of (map entry_in slots) → owners' ≡ remove owners n → slots' ≡ remove slots n → owners' ≡ owners_of (map entry_in slots')
owners_remove owners slots n owners' slots' e f g =
    f ∙ ap (λ l. remove l n) e
    ∙ sym (ap (λ l. owners_of (map entry_in l)) g ∙ ap owners_of (map_remove entry_in slots n) ∙ map_remove (λ (x : Entry). x.owner) (map entry_in slots) n)
