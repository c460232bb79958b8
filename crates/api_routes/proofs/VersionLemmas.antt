-- The version of a segment.
use Rattle.std.proofs.Common.{◌≡◌, ◌≢◌, ℕ, List, [], ◌∷◌, Bool, true, false, cond, None, refl, ap, ◌==◌, arith}
use Rattle.std.specs.List.{before_first, after_first}
use Rattle.std.proofs.lemmas.Bool.Decides.{nat_tests}
use Rattle.api_routes.specs.Version.{version_of, version_in, letter_v, dot}

pub no-letter : (s : List ℕ) → ((rest : List ℕ) → s ≢ letter_v ∷ rest) → version_of s ≡ None
no-letter [] h = refl
no-letter (c ∷ rest) h = by (c == letter_v) refl
  where
    by : (v : Bool) → (c == letter_v) ≡ v → cond v (version_in rest (before_first (λ b. b == dot) rest) (after_first (λ b. b == dot) rest)) None ≡ None
    by true e = let q : c ≡ letter_v = grind (arith, nat_tests) in absurd (h rest (ap (λ x. x ∷ rest) q))
    by false e = refl
