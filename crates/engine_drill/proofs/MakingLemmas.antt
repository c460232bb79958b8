-- Requests are made one behind the other.
use Rattle.std.proofs.Common.{◌≡◌, ◌<◌, ◌+◌, ◌%◌, ◌^◌, ℕ, List, [], ◌∷◌, ◌++◌, ap, sym, ◌∙◌, append-nil, append_assoc, arith}
use Rattle.std.specs.List.{concat}
use Rattle.std.proofs.lemmas.List.FromFn.{map-range_with_len_more}
use Rattle.std.proofs.lemmas.List.Folds.{concat-append}
use Rattle.rand_chacha.specs.ChaCha.{ChaCha, key_of, next_word}
use Rattle.drill_model.specs.Requests.{drill_stream, drill_word, request_of, drill_requests}

-- one more request
pub next_request : (seed : List ℕ) (i : ℕ) (bytes : List ℕ) → bytes ≡ concat (drill_requests seed i)
    → bytes ++ request_of (drill_word seed i) ≡ concat (drill_requests seed (i + 1))
next_request seed i bytes is =
    let at : 0 + i ≡ i = omega arith in
    let last : List ℕ = request_of (drill_word seed i) in
    ap (λ b. b ++ last) is
    ∙ ap (λ b. concat (drill_requests seed i) ++ b) (sym (append-nil last))
    ∙ sym (concat-append (drill_requests seed i) (last ∷ []))
    ∙ sym (ap concat (map-range_with_len_more (λ j. request_of (drill_word seed j)) 0 i i at))

-- the generator that stands at a word of the drill
abbrev pub standing : List ℕ → ℕ → ChaCha
standing seed i = record { key = key_of seed; stream = drill_stream; word_pos = i }

-- it gives that word, and stands at the next
pub word_made : (seed : List ℕ) (i word : ℕ) (g new : ChaCha) → i < 2 ^ 32 → g ≡ standing seed i → (word, new) ≡ next_word 10 g
    → (word ≡ drill_word seed i) × (new ≡ standing seed (i + 1))
word_made seed i word g new small is made =
    let all : (word, new) ≡ next_word 10 (standing seed i) = made ∙ ap (next_word 10) is in
    let next : (i + 1) % 2 ^ 68 ≡ i + 1 = omega (arith, small) in
    (ap (λ (p : ℕ × ChaCha). p.0) all, ap (λ (p : ℕ × ChaCha). p.1) all ∙ ap (standing seed) next)

-- ---- texts of pieces

pub pieces_4 : (a b c d : List ℕ) → a ++ (b ++ (c ++ d)) ≡ ((a ++ b) ++ c) ++ d
pieces_4 a b c d = simp append_assoc

pub pieces_5 : (a b c d e : List ℕ) → a ++ (b ++ (c ++ (d ++ e))) ≡ ((a ++ b) ++ (c ++ d)) ++ e
pieces_5 a b c d e = simp append_assoc

pub pieces_6 : (a b c d e f : List ℕ) → a ++ (b ++ (c ++ (d ++ (e ++ f)))) ≡ (a ++ b) ++ (((c ++ d) ++ e) ++ f)
pieces_6 a b c d e f = simp append_assoc
