-- Weights over the views, and claims of a number.
use Rattle.std.proofs.Common.{◌≡◌, ◌≢◌, ◌⊎◌, ℕ, zero, suc, ◌+◌, ◌<◌, ◌≤◌, List, [], ◌∷◌, ◌++◌, set, Bool, true, false, refl, sym, ap, arith, eq-eqb, ne_eqb, inl, inr, ⊎_elim}
use Rattle.std.proofs.lemmas.Bool.Decides.{nat_tests}
use Rattle.std.specs.Prelude.{◌==◌}
use mathlib.Core.Option.{some, some-ne-none, some-injective}
use mathlib.Core.Logic.{dite}
use native.Mathlib.Decide.{ℕ_discrete, dec_le}
use lib.ListN.{get_elem?}
use Rattle.turnstile.specs.declared.view.View.{View}
use Rattle.turnstile.specs.Claims.{bit, Claim, times, Each, passed, Fresh}
use Rattle.turnstile.specs.Views.{total}

no_bit : (b : Bool) (k : ℕ) → bit b + k ≡ 0 → b ≡ false
no_bit true k e = absurd (omega arith)
no_bit false k e = refl

bit_on : (x m : ℕ) → x ≡ m → bit (x == m) ≡ 1
bit_on x m e = ap bit (eq-eqb x m e)

pub bit_off : (x m : ℕ) → x ≢ m → bit (x == m) ≡ 0
bit_off x m e = ap bit (ne_eqb x m e)

-- where a number stands in a row of numbers that were passed over
pub record Row (a c m t : ℕ) : Type 0 where
  pub few : t ≤ 1
  pub above : a + c ≤ m → m < a + 2147483648 → t ≡ 0
  pub beyond : a + c + 2147483648 ≤ m → t ≡ 0

module _ {S C : Type 0} (f : View S C → ℕ) where
  pub total_set : (vs : List (View S C)) (i : ℕ) (v w : View S C) → get_elem? vs i ≡ some v → total f (set vs i w) + f v ≡ total f vs + f w
  total_set [] i v w at = absurd (some-ne-none v (sym at))
  total_set (x ∷ xs) zero v w at = let e : f x ≡ f v = ap f (some-injective x v at) in omega arith
  total_set (x ∷ xs) (suc i) v w at = let e = total_set xs i v w at in omega arith

  pub total_snoc : (vs : List (View S C)) (w : View S C) → total f (vs ++ w ∷ []) ≡ total f vs + f w
  total_snoc [] w = omega arith
  total_snoc (x ∷ xs) w = let e = total_snoc xs w in omega arith

  pub total_one : (vs : List (View S C)) (i : ℕ) (v : View S C) → get_elem? vs i ≡ some v → f v ≤ total f vs
  total_one [] i v at = absurd (some-ne-none v (sym at))
  total_one (x ∷ xs) zero v at = let e : f x ≡ f v = ap f (some-injective x v at) in omega arith
  total_one (x ∷ xs) (suc i) v at = let e = total_one xs i v at in omega arith

  pub total_two : (vs : List (View S C)) (i j : ℕ) (v u : View S C) → j ≢ i → get_elem? vs i ≡ some v → get_elem? vs j ≡ some u → f v + f u ≤ total f vs
  total_two [] i j v u other at on = absurd (some-ne-none v (sym at))
  total_two (x ∷ xs) zero zero v u other at on = absurd (other refl)
  total_two (x ∷ xs) zero (suc j) v u other at on = let e : f x ≡ f v = ap f (some-injective x v at) in let o = total_one xs j u on in omega arith
  total_two (x ∷ xs) (suc i) zero v u other at on = let e : f x ≡ f u = ap f (some-injective x u on) in let o = total_one xs i v at in omega arith
  total_two (x ∷ xs) (suc i) (suc j) v u other at on = let o = total_two xs i j v u (λ e. other (ap suc e)) at on in omega arith

module _ {S : Type 0} where
  pub times-append : (n : ℕ) (cs ds : List (Claim S)) → times n (cs ++ ds) ≡ times n cs + times n ds
  times-append n [] ds = omega arith
  times-append n (c ∷ cs) ds = let e = times-append n cs ds in omega arith

  pub none_claim : (n : ℕ) (cs : List (Claim S)) → times n cs ≡ 0 → Each (λ c. c.0 ≢ n) cs
  none_claim n [] e = tt
  none_claim n (c ∷ cs) e = let is = no_bit (c.0 == n) (times n cs) e in ((grind (arith, nat_tests)), none_claim n cs (omega arith))

  pub each_to : (P Q : Claim S → Type 0) → ((c : Claim S) → P c → Q c) → (cs : List (Claim S)) → Each P cs → Each Q cs
  each_to P Q go [] e = tt
  each_to P Q go (c ∷ cs) e = (go c e.0, each_to P Q go cs e.1)

  pub each_both : (P Q R : Claim S → Type 0) → ((c : Claim S) → P c → Q c → R c) → (cs : List (Claim S)) → Each P cs → Each Q cs → Each R cs
  each_both P Q R go [] e d = tt
  each_both P Q R go (c ∷ cs) e d = (go c e.0 d.0, each_both P Q R go cs e.1 d.1)

  pub each_append : (P : Claim S → Type 0) (cs ds : List (Claim S)) → Each P cs → Each P ds → Each P (cs ++ ds)
  each_append P [] ds e d = d
  each_append P (c ∷ cs) ds e d = (e.0, each_append P cs ds e.1 d)

  pub each_first : (P : Claim S → Type 0) (cs ds : List (Claim S)) → Each P (cs ++ ds) → Each P cs
  each_first P [] ds e = tt
  each_first P (c ∷ cs) ds e = (e.0, each_first P cs ds e.1)

  pub each_last : (P : Claim S → Type 0) (cs ds : List (Claim S)) → Each P (cs ++ ds) → Each P ds
  each_last P [] ds e = e
  each_last P (c ∷ cs) ds e = each_last P cs ds e.1

  pub each_passed : (P : Claim S → Type 0) (a c : ℕ) → a + c ≤ 2147483646 → ((m : ℕ) → Fresh a m → P (m, [])) → Each P (passed a c)
  each_passed P a zero le go = tt
  each_passed P a (suc c) le go = (
    go (a + c) record { not_root = λ h. omega arith; not_below = omega arith; no_pair = λ h. omega arith },
    (go (a + c + 2147483648) record { not_root = λ h. omega arith; not_below = omega arith; no_pair = λ h. omega arith }, each_passed P a c (omega arith) go),
  )

pub row : (S : Type 0) (a c m : ℕ) → a + c ≤ 2147483646 → Row a c m (times {S = S} m (passed a c))
row S a zero m le = record { few = omega arith; above = λ _ _. refl; beyond = λ _. refl }
row S a (suc c) m le = let r = row S a c m (omega arith) in let few = r.few in let ab = r.above in let be = r.beyond in
    dite (ℕ_discrete (a + c) m)
    (λ e. let p = bit_on (a + c) m e in let q = bit_off (a + c + 2147483648) m (λ h. omega arith) in let z : times {S = S} m (passed a c) ≡ 0 = ab (omega arith) (omega arith) in record { few = omega arith; above = λ h _. absurd (omega arith); beyond = λ h. absurd (omega arith) })
    (λ ne. let p = bit_off (a + c) m ne in dite (ℕ_discrete (a + c + 2147483648) m)
    (λ e. let q = bit_on (a + c + 2147483648) m e in let z : times {S = S} m (passed a c) ≡ 0 = be (omega arith) in record { few = omega arith; above = λ h l. absurd (omega arith); beyond = λ h. absurd (omega arith) })
    (λ ne'. let q = bit_off (a + c + 2147483648) m ne' in record { few = omega arith; above = λ h l. (let z = ab (omega arith) l in omega arith); beyond = λ h. (let z = be (omega arith) in omega arith) }))

pub row_fresh : (S : Type 0) (a c m : ℕ) → a + c ≤ 2147483646 → (times {S = S} m (passed a c) ≡ 0) ⊎ Fresh a m
row_fresh S a zero m le = inl refl
row_fresh S a (suc c) m le = dite (ℕ_discrete (a + c) m)
    (λ e. inr record { not_root = λ h. omega arith; not_below = omega arith; no_pair = λ h. omega arith })
    (λ ne. dite (ℕ_discrete (a + c + 2147483648) m)
    (λ e. inr record { not_root = λ h. omega arith; not_below = omega arith; no_pair = λ h. omega arith })
    (λ ne'. ⊎_elim (λ z. inl (let p = bit_off (a + c) m ne in let q = bit_off (a + c + 2147483648) m ne' in omega arith)) inr (row_fresh S a c m (omega arith))))

pub below : (m n : ℕ) → Dec (m < n)
below m n = dec_le (suc m) n
