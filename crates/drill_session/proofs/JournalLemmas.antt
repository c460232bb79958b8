-- A journal's lines, one behind the other.
use Rattle.std.proofs.Common.{arith, ◌≡◌, ◌+◌, ◌≤◌, ℕ, List, ◌++◌, length, take, drop, sym, ap, ◌∙◌, take-append-drop}
use Rattle.std.proofs.lemmas.List.{take-take, take_all}
use Rattle.std.proofs.lemmas.Grind.{flat_map-append}
use Rattle.journal_lines.proofs.LineLemmas.{joined}

-- one more line
pub one_line : (ls : List (List ℕ)) (n : ℕ) (text new : List ℕ) → text ≡ joined (take n ls)
    → new ≡ text ++ joined (drop n (take (n + 1) ls)) → new ≡ joined (take (n + 1) ls)
one_line ls n text new is more =
    let front : take n (take (n + 1) ls) ≡ take n ls = take-take n (n + 1) ls (omega arith) in
    more ∙ ap (λ t. t ++ joined (drop n (take (n + 1) ls))) (is ∙ ap joined (sym front))
    ∙ sym (flat_map-append (λ (l : List ℕ). l) (take n (take (n + 1) ls)) (drop n (take (n + 1) ls)))
    ∙ ap joined (take-append-drop n (take (n + 1) ls))

-- behind the last, it is whole
pub all_lines : (ls : List (List ℕ)) (n : ℕ) (text : List ℕ) → text ≡ joined (take n ls) → length ls ≤ n → text ≡ joined ls
all_lines ls n text is behind = is ∙ ap joined (take_all n ls behind)
