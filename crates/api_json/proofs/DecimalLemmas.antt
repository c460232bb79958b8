-- The test for a decimal below a limit.
use Rattle.std.proofs.Common.{◌≡◌, ◌≢◌, ◌<◌, ◌+◌, ℕ, zero, suc, List, Bool, true, false, decimal, get_or, refl, sym, ap, ◌∙◌, arith}
use Rattle.std.specs.List.{list_any, range_with_len}
use Rattle.std.proofs.lemmas.List.Folds.{list_any_at}
use Rattle.std.proofs.lemmas.List.FromFn.{length-range_with_len, get_or-range_with_len}
use Rattle.std.proofs.lemmas.Slice.Eq.{bytes_eq-Decides}
use Rattle.engine_text.specs.Texts.{same_bytes}
use Rattle.api_json.specs.EventRules.{is_decimal_below}

pub same_is : (v w : List ℕ) → same_bytes v w ≡ true → v ≡ w
same_is v w e = (bytes_eq-Decides v w).0 e

pub is_same : (v w : List ℕ) → v ≡ w → same_bytes v w ≡ true
is_same v w e = (bytes_eq-Decides v w).1 e

pub not_same : (v w : List ℕ) → v ≢ w → same_bytes v w ≡ false
not_same v w h = go (same_bytes v w) refl
  where
    go : (b : Bool) → same_bytes v w ≡ b → b ≡ false
    go true e = absurd (h (same_is v w e))
    go false e = refl

none_of_range : (a k : ℕ) (v : List ℕ) → ((n : ℕ) → n < a + k → v ≢ decimal n) → list_any (λ n. same_bytes v (decimal n)) (range_with_len a k) ≡ false
none_of_range a zero v h = refl
none_of_range a (suc k) v h = rw (not_same v (decimal a) (h a (omega arith)), none_of_range (a + 1) k v (λ n lt. h n (omega arith))) refl

pub decimal_below-false : (k : ℕ) (v : List ℕ) → ((n : ℕ) → n < k → v ≢ decimal n) → is_decimal_below k v ≡ false
unfolding is_decimal_below
decimal_below-false k v h = none_of_range 0 k v (λ n lt. h n (omega arith))

pub decimal_below-true : (k n : ℕ) (v : List ℕ) → n < k → v ≡ decimal n → is_decimal_below k v ≡ true
unfolding is_decimal_below
decimal_below-true k n v lt e =
    let at : get_or (range_with_len 0 k) n 0 ≡ n = omega (arith, get_or-range_with_len 0 k n 0 lt) in
    list_any_at (λ (m : ℕ). same_bytes v (decimal m)) (range_with_len 0 k) n 0 (omega (arith, length-range_with_len 0 k))
    (ap (λ (m : ℕ). same_bytes v (decimal m)) at ∙ is_same v (decimal n) e)

-- where n is the only number that v can write
pub decimal_below-only : (k n : ℕ) (v : List ℕ) → n < k → ((m : ℕ) → m < k → v ≡ decimal m → m ≡ n) → same_bytes (decimal n) v ≡ is_decimal_below k v
decimal_below-only k n v lt only = go (same_bytes (decimal n) v) refl
  where
    go : (b : Bool) → same_bytes (decimal n) v ≡ b → b ≡ is_decimal_below k v
    go true e = sym (decimal_below-true k n v lt (sym (same_is (decimal n) v e)))
    go false e = sym (decimal_below-false k v (λ m below is. cc (sym e ∙ is_same (decimal n) v (sym (is ∙ ap decimal (only m below is))))))
