-- Texts that are put together.
use Rattle.std.proofs.Common.{◌≡◌, ℕ, Bool, true, false, ◌&&◌, List, [], ◌∷◌, ◌++◌, refl, ap, sym, ◌∙◌, take, drop, length, nat_eq}
use Rattle.engine_text.specs.Texts.{same_bytes}

also : (a b : Bool) (c d : Bool) → c ≡ a && d → (b && c) ≡ (b && a) && d
also a true c d e = e
also a false c d e = refl

-- a text is two others, one behind the other
apart : (t k w : List ℕ) → same_bytes t (k ++ w) ≡ same_bytes (take (length k) t) k && same_bytes (drop (length k) t) w
apart t [] w = refl
apart [] (x ∷ k) w = refl
apart (y ∷ t) (x ∷ k) w = also (same_bytes (take (length k) t) k) (nat_eq y x) (same_bytes t (k ++ w)) (same_bytes (drop (length k) t) w) (apart t k w)

-- it begins as the first, so the rest decides
pub joined : (t k w rest : List ℕ) → same_bytes (take (length k) t) k ≡ true → rest ≡ drop (length k) t → same_bytes rest w ≡ same_bytes t (k ++ w)
joined t k w rest begins is = ap (λ r. same_bytes r w) is ∙ (sym (ap (λ b. b && same_bytes (drop (length k) t) w) begins) ∙ sym (apart t k w))

-- it begins otherwise
pub unjoined : (t k w : List ℕ) → same_bytes (take (length k) t) k ≡ false → false ≡ same_bytes t (k ++ w)
unjoined t k w begins = sym (ap (λ b. b && same_bytes (drop (length k) t) w) begins) ∙ sym (apart t k w)
