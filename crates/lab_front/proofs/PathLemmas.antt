-- A path without its first slash.
use Rattle.std.proofs.Common.{◌≡◌, ◌≢◌, ℕ, List, [], ◌∷◌, Bool, true, false, Option, Some, None, MatchOption, ◌==◌, if◌then◌else◌, refl, sym, ap, arith}
use Rattle.std.specs.Borrow.{Bor}
use Rattle.std.specs.Option.{option_map}
use Rattle.std.proofs.lemmas.Bool.Decides.{nat_tests}
use Rattle.lab_front.specs.Rows.{after_slash}

is_slash : (c : ℕ) → (c == 47) ≡ true → c ≡ 47
is_slash c e = grind (arith, nat_tests)

pub stripped : (path : List ℕ) (r : Option (Bor (List ℕ)))
    → MatchOption r ((rest : List ℕ) → path ≢ 47 ∷ rest) (λ rest. path ≡ 47 ∷ rest.now)
    → option_map (λ p. p.now) r ≡ after_slash path
stripped path (Some rest) e = sym (ap after_slash e)
stripped [] None other = refl
stripped (c ∷ cs) None other = by (c == 47) refl
  where
    by : (t : Bool) → (c == 47) ≡ t → None ≡ (if t then Some cs else None)
    by true e = absurd (other cs (ap (λ b. b ∷ cs) (is_slash c e)))
    by false e = refl
