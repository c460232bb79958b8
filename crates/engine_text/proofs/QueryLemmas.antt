-- Blanks after a text are taken off from its end.
use Rattle.std.proofs.Common.{◌≡◌, ℕ, ◌+◌, ◌-◌, ◌≤◌, List, [], ◌∷◌, ◌++◌, Bool, true, false, ◌&&◌, length, take, get_or, refl, sym, ap, ◌∙◌, arith}
use Rattle.std.proofs.lemmas.List.{take_all, take_more}
use Rattle.std.specs.List.{list_all}
use Rattle.std.proofs.lemmas.List.Folds.{list_all-append}
use Rattle.engine_text.specs.Query.{is_blank, without_last_blanks}

all_and : (xs : List ℕ) (y : ℕ) (b : Bool) → is_blank y ≡ b → list_all is_blank (xs ++ y ∷ []) ≡ (list_all is_blank xs && (b && true))
all_and xs y b e = list_all-append is_blank xs (y ∷ []) ∙ ap (λ t. list_all is_blank xs && (t && true)) e

and_true : (a : Bool) → (a && true) ≡ a
and_true true = refl
and_true false = refl

and_false : (a : Bool) → (a && false) ≡ false
and_false true = refl
and_false false = refl

-- a last blank goes
pub without_last_blanks-blank : (xs : List ℕ) (y : ℕ) → is_blank y ≡ true → without_last_blanks (xs ++ y ∷ []) ≡ without_last_blanks xs
without_last_blanks-blank [] y e = rw e refl
without_last_blanks-blank (x ∷ xs) y e =
    rw (all_and xs y true e, and_true (list_all is_blank xs), without_last_blanks-blank xs y e) refl

-- a text whose last byte is no blank is the same
pub without_last_blanks-same : (xs : List ℕ) (y : ℕ) → is_blank y ≡ false → without_last_blanks (xs ++ y ∷ []) ≡ xs ++ y ∷ []
without_last_blanks-same [] y e = rw e refl
without_last_blanks-same (x ∷ xs) y e =
    rw (all_and xs y false e, and_false (list_all is_blank xs), and_false (is_blank x), without_last_blanks-same xs y e) refl

-- a text that isn't empty ends in its last byte
pub last_apart : (xs : List ℕ) → 1 ≤ length xs → xs ≡ take (length xs - 1) xs ++ get_or xs (length xs - 1) 0 ∷ []
last_apart xs h =
    let whole : length xs - 1 + 1 ≡ length xs = omega arith in
    sym (take_all (length xs) xs (omega arith)) ∙ sym (ap (λ n. take n xs) whole) ∙ take_more xs (length xs - 1) 0 (omega arith)
