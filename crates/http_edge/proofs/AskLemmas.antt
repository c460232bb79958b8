-- The parts of a field's value.
use Rattle.std.proofs.Common.{arith, ◌≡◌, ◌<◌, ◌≤◌, ◌⊎◌, inl, inr, ℕ, zero, suc, List, [], ◌∷◌, length, ◌-◌, take, drop, get_or, map, sym, ap, refl, ◌∙◌, Bool, true, false, add-one}
use Rattle.std.specs.Prelude.{◌==◌, ◌&&◌, ◌||◌}
use Rattle.std.specs.List.{list_any}
use Rattle.std.proofs.Math.Nat.{eq-or-lt_of_le}
use Rattle.std.proofs.lemmas.Bool.Decides.{nat_tests}
use Rattle.std.proofs.lemmas.List.{take_all, take_rest, drop-drop}
use Rattle.httparse.specs.Grammar.{trim_ows}
use Rattle.http_edge.specs.Message.{is_same_text}
use Rattle.http_edge.specs.Asks.{parts_of, has_token}

no_comma : (b : ℕ) → (b ≡ 44 → ⊥) → (b == 44) ≡ false
no_comma b ne = grind (arith, nat_tests, ne)

a_comma : (b : ℕ) → b ≡ 44 → (b == 44) ≡ true
a_comma b e = grind (arith, nat_tests, e)

-- without a comma there is one part
parts_last : (bytes : List ℕ) → ((k : ℕ) → k < length bytes → get_or bytes k 0 ≡ 44 → ⊥) → parts_of bytes ≡ bytes ∷ []
parts_last [] none = refl
parts_last (b ∷ bytes) none =
    let here = no_comma b (none 0 (omega arith)) in
    let later = parts_last bytes (λ k lt. none (suc k) (omega (arith, lt))) in
    rw (here, later) refl

-- before the first comma stands the first part
parts_first : (bytes : List ℕ) (n : ℕ) → n < length bytes → ((k : ℕ) → k < n → get_or bytes k 0 ≡ 44 → ⊥) → get_or bytes n 0 ≡ 44
    → parts_of bytes ≡ take n bytes ∷ parts_of (drop (suc n) bytes)
parts_first [] n lt none found = absurd (omega (arith, lt))
parts_first (b ∷ bytes) zero lt none found = rw (a_comma b found) refl
parts_first (b ∷ bytes) (suc n) lt none found =
    let here = no_comma b (none 0 (omega arith)) in
    let later = parts_first bytes n (omega (arith, lt)) (λ k le. none (suc k) (omega (arith, le))) found in
    rw (here, later) refl

-- what a place tells: before it is no comma, and there is one, or the end
pub record IsCut (bytes : List ℕ) (n : ℕ) : Type 0 where
  pub within : n ≤ length bytes
  pub before : (k : ℕ) → k < n → get_or bytes k 0 ≡ 44 → ⊥
  pub found : n < length bytes → get_or bytes n 0 ≡ 44

token_here : (token bytes : List ℕ) (n : ℕ) → IsCut bytes n → (n ≡ length bytes) ⊎ (n < length bytes) → is_same_text (trim_ows (take n bytes)) token ≡ true → has_token token bytes ≡ true
token_here token bytes n cut (inl all) same =
    let whole : take n bytes ≡ bytes = take_all n bytes (omega arith) in
    let none : (k : ℕ) → k < length bytes → get_or bytes k 0 ≡ 44 → ⊥ = λ k lt. cut.before k (omega (arith, lt, all)) in
    rw (parts_last bytes none, ← whole, same) refl
token_here token bytes n cut (inr lt) same = rw (parts_first bytes n lt cut.before (cut.found lt), same) refl

-- the first part is the token
pub token_found : (token bytes : List ℕ) (n : ℕ) → IsCut bytes n → is_same_text (trim_ows (take n bytes)) token ≡ true → has_token token bytes ≡ true
token_found token bytes n cut same = token_here token bytes n cut (eq-or-lt_of_le cut.within) same

-- the only part is not the token
pub token_missed : (token bytes : List ℕ) (n : ℕ) → IsCut bytes n → n ≡ length bytes → is_same_text (trim_ows (take n bytes)) token ≡ false → has_token token bytes ≡ false
token_missed token bytes n cut all other =
    let whole : take n bytes ≡ bytes = take_all n bytes (omega arith) in
    let none : (k : ℕ) → k < length bytes → get_or bytes k 0 ≡ 44 → ⊥ = λ k lt. cut.before k (omega (arith, lt, all)) in
    let same : is_same_text (trim_ows bytes) token ≡ false = ap (λ p. is_same_text (trim_ows p) token) (sym whole) ∙ other in
    rw (parts_last bytes none, same) refl

-- the first part is not the token
pub token_later : (token bytes : List ℕ) (n : ℕ) → IsCut bytes n → n < length bytes → is_same_text (trim_ows (take n bytes)) token ≡ false
    → has_token token bytes ≡ has_token token (drop (suc n) bytes)
token_later token bytes n cut lt other = rw (parts_first bytes n lt cut.before (cut.found lt), other) refl

-- both tests pass
pub both_true : (a b : Bool) → a ≡ true → b ≡ true → (a && b) ≡ true
both_true a b e f = rw (e, f) refl

-- a slice that was cut twice
pub cut_twice : (bytes : List ℕ) (n : ℕ) → take (length (take (length bytes - n) (drop n bytes)) - 1) (drop 1 (take (length bytes - n) (drop n bytes))) ≡ drop (suc n) bytes
cut_twice bytes n =
    rw (take_rest bytes n, take_rest (drop n bytes) 1, drop-drop 1 n bytes) (ap (λ k. drop k bytes) (add-one n))

module _ {A B : Type 0} where
  -- one of the items passes
  pub any_at : (test : B → Bool) (f : A → B) (xs : List A) (i : ℕ) (d : A) → i < length xs → test (f (get_or xs i d)) ≡ true → list_any test (map f xs) ≡ true
  any_at test f [] i d lt is = absurd (omega (arith, lt))
  any_at test f (x ∷ xs) zero d lt is = rw is refl
  any_at test f (x ∷ xs) (suc i) d lt is =
      let later = any_at test f xs i d (omega (arith, lt)) is in
      rw later (or_true (test (f x)))
    where
      or_true : (b : Bool) → (b || true) ≡ true
      or_true true = refl
      or_true false = refl
