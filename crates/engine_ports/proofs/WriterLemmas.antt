-- A writer takes a piece part by part.
use Rattle.std.proofs.Common.{◌≡◌, ◌-◌, ℕ, List, ◌++◌, length, take, drop, Option, Some, None, sym, ◌∙◌, ap, append_assoc}
use Rattle.std.proofs.lemmas.List.{take-append-drop, length-drop}
use Rattle.std.proofs.Math.Seq.{take-length}
use Rattle.std.specs.Io.KnownBytes.{Appends}

-- behind a part more stands what is left of the piece
pub left_on : (part rest piece : List ℕ) (n : ℕ) → part ++ rest ≡ piece
    → (part ++ take n rest) ++ take (length rest - n) (drop n rest) ≡ piece
left_on part rest piece n is =
    let all = ap (λ (k : ℕ). take k (drop n rest)) (sym (length-drop n rest)) ∙ take-length (drop n rest) in
    ap (λ (v : List ℕ). (part ++ take n rest) ++ v) all ∙ append_assoc part (take n rest) (drop n rest)
    ∙ ap (λ (v : List ℕ). part ++ v) (take-append-drop n rest) ∙ is

-- what is known to be held grew by one part, and then by another
pub appends_on : (l m n : Option (List ℕ)) (x y : List ℕ) → Appends l m x → Appends m n y → Appends l n (x ++ y)
appends_on None m n x y f g = tt
appends_on (Some l) (Some m) (Some n) x y f g = g ∙ ap (λ v. v ++ y) f ∙ append_assoc l x y
appends_on (Some l) None n x y f g = absurd f
appends_on (Some l) (Some m) None x y f g = absurd g
