-- Lines that are added one behind the other.
use Rattle.std.proofs.Common.{arith, ◌≡◌, ◌≢◌, ◌<◌, ◌+◌, ℕ, zero, suc, List, [], ◌∷◌, ◌++◌, length, take, get_or, refl, sym, ap, ◌∙◌, append_assoc, append-nil}
use Rattle.drill_model.specs.Report.{answered_line, status_line, status_lines}

pub added_3 : (o a b c x y z : List ℕ) → x ≡ o ++ a → y ≡ x ++ b → z ≡ y ++ c → z ≡ o ++ ((a ++ b) ++ c)
added_3 o a b c x y z e f g =
    g ∙ ap (λ t. t ++ c) (f ∙ ap (λ t. t ++ b) e ∙ append_assoc o a b) ∙ append_assoc o (a ++ b) c

pub added_5 : (a b c d e o v w x y z : List ℕ) → o ≡ [] → v ≡ o ++ a → w ≡ v ++ b → x ≡ w ++ c → y ≡ x ++ d → z ≡ y ++ e
    → z ≡ (((a ++ b) ++ c) ++ d) ++ e
added_5 a b c d e o v w x y z none f g h i j =
    j ∙ ap (λ t. t ++ e) (i ∙ ap (λ t. t ++ d) (h ∙ ap (λ t. t ++ c) (g ∙ ap (λ t. t ++ b) (f ∙ ap (λ t. t ++ a) none))))

-- a status that was answered has its line
pub was_answered : (status count : ℕ) → count ≢ 0 → answered_line status count ≡ status_line status count
was_answered status zero some = absurd (some refl)
was_answered status (suc n) some = refl

-- one more status
pub one_status : (first : ℕ) (counts : List ℕ) (i : ℕ) → i < length counts
    → status_lines first (take (i + 1) counts) ≡ status_lines first (take i counts) ++ status_line (first + i) (get_or counts i 0)
one_status first [] i lt = absurd (omega (arith, lt))
one_status first (x ∷ xs) zero lt =
    let here : first ≡ first + 0 = omega arith in append-nil (status_line first x) ∙ ap (λ n. status_line n x) here
one_status first (x ∷ xs) (suc i) lt =
    let more : suc i + 1 ≡ suc (i + 1) = omega arith in
    let there : (first + 1) + i ≡ first + suc i = omega arith in
    ap (λ n. status_lines first (take n (x ∷ xs))) more
    ∙ ap (λ l. status_line first x ++ l) (one_status (first + 1) xs i (omega (arith, lt)))
    ∙ sym (append_assoc (status_line first x) (status_lines (first + 1) (take i xs)) (status_line ((first + 1) + i) (get_or xs i 0)))
    ∙ ap (λ n. (status_line first x ++ status_lines (first + 1) (take i xs)) ++ status_line n (get_or xs i 0)) there

pub status_added : (o x y counts : List ℕ) (i : ℕ) → i < length counts → x ≡ o ++ status_lines 0 (take i counts)
    → y ≡ x ++ status_line i (get_or counts i 0) → y ≡ o ++ status_lines 0 (take (i + 1) counts)
status_added o x y counts i lt is more =
    let at : i ≡ 0 + i = omega arith in
    more ∙ ap (λ l. l ++ status_line i (get_or counts i 0)) is
    ∙ append_assoc o (status_lines 0 (take i counts)) (status_line i (get_or counts i 0))
    ∙ ap (λ n. o ++ (status_lines 0 (take i counts) ++ status_line n (get_or counts i 0))) at
    ∙ ap (λ l. o ++ l) (sym (one_status 0 counts i lt))
