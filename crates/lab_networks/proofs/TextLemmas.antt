-- Digits that are padded, and the pieces of texts.
use Rattle.std.proofs.Common.{arith, ◌≡◌, ◌<◌, ◌≤◌, ◌-◌, ◌+◌, ℕ, suc, List, [], ◌∷◌, ◌++◌, length, replicate, sym, ap, ◌∙◌, append_assoc, append-nil, length-append, flat_map, take, get_or}
use Rattle.std.proofs.Math.Seq.{take-suc}
use Rattle.std.proofs.lemmas.Grind.{flat_map-append}
use Rattle.lab_networks.specs.Known.{padded}

-- one zero more
pub padded_more : (digits : List ℕ) → length digits < 64 → padded (digits ++ 48 ∷ []) ≡ padded digits
padded_more digits less =
    let len : 64 - length digits ≡ suc (64 - length (digits ++ 48 ∷ [])) = omega (arith, less, length-append digits (48 ∷ [])) in
    append_assoc digits (48 ∷ []) (replicate (64 - length (digits ++ 48 ∷ [])) 48) ∙ ap (λ n. digits ++ replicate n 48) (sym len)

-- no more are wanted
pub padded_full : (digits : List ℕ) → 64 ≤ length digits → padded digits ≡ digits
padded_full digits le =
    let none : 64 - length digits ≡ 0 = omega (arith, le) in
    ap (λ n. digits ++ replicate n 48) none ∙ append-nil digits

pub text_joined : (a l b d c n e : List ℕ) → a ++ (l ++ (b ++ (d ++ (c ++ (n ++ e))))) ≡ a ++ l ++ b ++ d ++ c ++ n ++ e
text_joined a l b d c n e = simp append_assoc

-- one item more of a list
pub flat_more : {A B : Type 0} (f : A → List B) (xs : List A) (i : ℕ) (x : A) (start now new : List B) → i < length xs → x ≡ get_or xs i x
    → now ≡ start ++ flat_map f (take i xs) → new ≡ now ++ f x → new ≡ start ++ flat_map f (take (i + 1) xs)
flat_more f xs i x start now new less is so more =
    let one : suc i ≡ i + 1 = omega arith in
    more ∙ ap (λ l. l ++ f x) so ∙ append_assoc start (flat_map f (take i xs)) (f x)
    ∙ ap (λ l. start ++ l)
    (sym (ap (flat_map f) (take-suc xs i x less) ∙ flat_map-append f (take i xs) (get_or xs i x ∷ [])
    ∙ ap (λ l. flat_map f (take i xs) ++ l) (append-nil (f (get_or xs i x)) ∙ ap f (sym is))))
    ∙ ap (λ n. start ++ flat_map f (take n xs)) one
