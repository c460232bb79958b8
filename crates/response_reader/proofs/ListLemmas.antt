-- Lists that are cut at two places.
use Rattle.std.proofs.Common.{arith, ◌≡◌, ◌≤◌, ℕ, List, [], ◌∷◌, length, ◌++◌, drop, get_or, sym, ap, refl, ◌∙◌}

-- of two ways to cut one list the longer front begins with the shorter
pub cut_twice : (a x b y : List ℕ) → a ++ x ≡ b ++ y → length a ≤ length b → (r : List ℕ) × (b ≡ a ++ r) × (x ≡ r ++ y)
cut_twice [] x b y e le = (b, refl, e)
cut_twice (p ∷ a) x [] y e le = absurd (omega (arith, le))
cut_twice (p ∷ a) x (q ∷ b) y e le =
    let rest = cut_twice a x b y (ap (drop 1) e) (omega (arith, le)) in
    let first : p ≡ q = ap (λ l. get_or l 0 0) e in
    (rest.0, ap (λ l. q ∷ l) rest.1 ∙ ap (λ c. c ∷ (a ++ rest.0)) (sym first), rest.2)
