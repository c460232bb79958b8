-- A word without a colon.
use Rattle.std.proofs.Common.{◌≡◌, refl, ℕ, suc, ◌+◌, length, List, [], ◌∷◌, Bool, true, false, cond, not, ◌||◌, arith}
use Rattle.std.specs.List.{list_any, position_or_len}

step : (b : Bool) (n m : ℕ) (r : Bool) → cond (not b) (1 + n) 0 ≡ suc m → (n ≡ m → r ≡ false) → (b || r) ≡ false
step true n m r e next = absurd (omega arith)
step false n m r e next = next (omega arith)

-- where no byte was found, none passes
pub none_passes : (p : ℕ → Bool) (bytes : List ℕ) → position_or_len p bytes ≡ length bytes → list_any p bytes ≡ false
none_passes p [] e = refl
none_passes p (b ∷ bytes) e = step (p b) (position_or_len p bytes) (length bytes) (list_any p bytes) e (none_passes p bytes)
