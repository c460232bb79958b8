-- Where a part stands, if somewhere.
use Rattle.std.proofs.Common.{◌≡◌, ℕ, zero, suc, ◌≤◌, Bool, true, false, ◌||◌, List, [], ◌∷◌, Option, Some, None, length, take, drop, refl, sym, ap, ◌∙◌, arith, min, length-take, length-drop, is_some}
use Rattle.std.proofs.lemmas.Slice.Eq.{bytes_eq-Decides}
use Rattle.memchr.specs.Find.{FindsNeedle, OccursAt}
use Rattle.memchr.proofs.lemmas.MatchLemmas.{OccursAt-part, OccursAt-from_part}
use Rattle.engine_text.specs.Texts.{begins_with, has_part}

begins : (t p : List ℕ) → take (length p) t ≡ p → begins_with t p ≡ true
begins t p e = (bytes_eq-Decides p (take (length p) t)).1 (sym e)

begun : (t p : List ℕ) → begins_with t p ≡ true → take (length p) t ≡ p
begun t p e = sym ((bytes_eq-Decides p (take (length p) t)).0 e)

either : (a b : Bool) → b ≡ true → (a || b) ≡ true
either true b e = refl
either false b e = e

has_at : (k : ℕ) (t p : List ℕ) → take (length p) (drop k t) ≡ p → has_part t p ≡ true
has_at zero [] p e = begins [] p e
has_at zero (c ∷ cs) p e = ap (λ b. b || has_part cs p) (begins (c ∷ cs) p e)
has_at (suc k) [] p e = begins [] p e
has_at (suc k) (c ∷ cs) p e = either (begins_with (c ∷ cs) p) (has_part cs p) (has_at k cs p e)

-- a place at which the part stands
abbrev Place : List ℕ → List ℕ → Type 0
Place t p = (k : ℕ) × (k ≤ length t) × (take (length p) (drop k t) ≡ p)

further : (c : ℕ) (cs p : List ℕ) → Place cs p → Place (c ∷ cs) p
further c cs p (k, within, is) = (suc k, omega (arith, within), is)

place_in : (t p : List ℕ) → has_part t p ≡ true → Place t p
place_in [] p e = (zero, omega arith, begun [] p e)
place_in (c ∷ cs) p e =
    let go : (b : Bool) → begins_with (c ∷ cs) p ≡ b → (b || has_part cs p) ≡ true → Place (c ∷ cs) p =
    λ b. elim b as (λ b. begins_with (c ∷ cs) p ≡ b → (b || has_part cs p) ≡ true → Place (c ∷ cs) p) [
      | true ↦ λ here _. (zero, omega arith, begun (c ∷ cs) p here)
      | false ↦ λ _ there. further c cs p (place_in cs p there)
    ] in
    go (begins_with (c ∷ cs) p) refl e

stands_at : (t p : List ℕ) → Place t p → (k : ℕ) × (k ≤ length t) × OccursAt t p k
stands_at t p (k, within, is) =
    let long : min (length p) (length (drop k t)) ≡ length p = sym (length-take (length p) (drop k t)) ∙ ap length is in
    (k, within, OccursAt-from_part t p k (omega (arith, within, long, length-drop k t)) is)

-- a search tells whether the part stands somewhere
pub found_is : (t p : List ℕ) (r : Option ℕ) → FindsNeedle t p 0 r → is_some r ≡ has_part t p
found_is t p (Some k) h = sym (has_at k t p (OccursAt-part t p k h.1))
found_is t p None h =
    let go : (b : Bool) → has_part t p ≡ b → false ≡ b =
    λ b. elim b as (λ b. has_part t p ≡ b → false ≡ b) [
      | true ↦ λ e. let (k, within, stands) = stands_at t p (place_in t p e) in absurd (h k (omega arith) (omega (arith, within)) stands)
      | false ↦ λ _. refl
    ] in
    go (has_part t p) refl
