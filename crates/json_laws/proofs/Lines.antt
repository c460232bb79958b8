-- A line: the compact text of data, and a line end.
use Rattle.std.proofs.Common.{◌≡◌, ◌<◌, ◌-◌, ℕ, List, [], ◌∷◌, ◌++◌, length, take, drop, get_or, Some, sym, ap, ◌∙◌, arith, length-append, refl}
use Rattle.std.proofs.lemmas.List.{take_at, drop_at}
use Rattle.serde_json.specs.Data.{Data}
use Rattle.serde_json.specs.Written.{compact_text}
use Rattle.json_laws.specs.Sound.{IsCarried, line_text}
use Rattle.json_laws.specs.Text.{data_of}
use Rattle.json_laws.proofs.RoundTrip.{some_same}
use Rattle.json_laws.proofs.Text.{data_of-compact_text}

cancel : (xs ys : List ℕ) (x : ℕ) → xs ++ x ∷ [] ≡ ys ++ x ∷ [] → xs ≡ ys
cancel xs ys x e =
    let cut = λ (l : List ℕ). take (length l - 1) l in
    sym (take_at xs (x ∷ []) (length (xs ++ x ∷ []) - 1) (omega (arith, length-append xs (x ∷ []))))
    ∙ ap cut e ∙ take_at ys (x ∷ []) (length (ys ++ x ∷ []) - 1) (omega (arith, length-append ys (x ∷ [])))

last_same : (xs ys : List ℕ) (x y : ℕ) → xs ++ x ∷ [] ≡ ys ++ y ∷ [] → x ≡ y
last_same xs ys x y e =
    let end = λ (l : List ℕ). get_or (drop (length l - 1) l) 0 0 in
    let at = λ (l : List ℕ) (z : ℕ). ap (λ (m : List ℕ). get_or m 0 0) (drop_at l (z ∷ []) (length (l ++ z ∷ []) - 1) (omega (arith, length-append l (z ∷ [])))) in
    sym (at xs x) ∙ ap end e ∙ at ys y

-- a line is not empty
pub line_some : (d : Data) → 0 < length (line_text d)
unfolding line_text
line_some d = omega (arith, length-append (compact_text d) (10 ∷ []))

-- it ends with a line end
pub line_end : (d : Data) (rest : List ℕ) (last : ℕ) → line_text d ≡ rest ++ last ∷ [] → last ≡ 10
unfolding line_text
line_end d rest last e = sym (last_same (compact_text d) rest 10 last e)

-- and what stands before is the text of the data
pub line_read : (d : Data) (rest : List ℕ) (last : ℕ) → IsCarried d → line_text d ≡ rest ++ last ∷ [] → data_of rest ≡ Some d
unfolding line_text
line_read d rest last h e =
    let ten = line_end d rest last e in
    let same = cancel (compact_text d) rest 10 (e ∙ ap (λ (x : ℕ). rest ++ x ∷ []) ten) in
    ap data_of (sym same) ∙ data_of-compact_text d h

-- two data with one line are the same
pub line_text-injective : (d e : Data) → IsCarried d → IsCarried e → line_text d ≡ line_text e → d ≡ e
unfolding line_text
line_text-injective d e h k same =
    some_same (sym (line_read d (compact_text d) 10 h refl) ∙ line_read e (compact_text d) 10 k (sym same))
