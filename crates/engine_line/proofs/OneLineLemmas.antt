-- The line of `engineone`, from what stands at each place of its words.
use Rattle.std.proofs.Common.{◌≡◌, ◌==◌, ◌<◌, ◌≤◌, ◌-◌, ℕ, Bool, true, false, List, [], ◌∷◌, length, take, drop, get_or, Option, Some, None, codes, refl, sym, ◌∙◌, ap, arith}
use Rattle.std.proofs.lemmas.Bool.Decides.{nat_tests}
use Rattle.std.proofs.lemmas.List.{take_all}
use Rattle.engine_line.specs.declared.line.OneLine.{OneLine}
use Rattle.engine_line.specs.OneLine.{flag_next, line_with, one_line_of, option_next}

-- ---- the line by what stands behind each option

abbrev by_reboot : List ℕ → Option (List ℕ) → Option (List ℕ) → Option (List ℕ) → Option (List ℕ) → Bool × List (List ℕ) → Option OneLine
by_reboot addr seed clock connections journal next = line_with addr seed clock connections journal next.0 next.1

abbrev by_journal : List ℕ → Option (List ℕ) → Option (List ℕ) → Option (List ℕ) → Option (List ℕ) × List (List ℕ) → Option OneLine
by_journal addr seed clock connections next = by_reboot addr seed clock connections next.0 (flag_next (codes "--reboot") next.1)

abbrev by_connections : List ℕ → Option (List ℕ) → Option (List ℕ) → Option (List ℕ) × List (List ℕ) → Option OneLine
by_connections addr seed clock next = by_journal addr seed clock next.0 (option_next (codes "--journal") next.1)

abbrev by_clock : List ℕ → Option (List ℕ) → Option (List ℕ) × List (List ℕ) → Option OneLine
by_clock addr seed next = by_connections addr seed next.0 (option_next (codes "--connections") next.1)

abbrev by_seed : List ℕ → Option (List ℕ) × List (List ℕ) → Option OneLine
by_seed addr next = by_clock addr next.0 (option_next (codes "--clock") next.1)

-- each option, and what stands behind it
line_by_parts : (addr : List ℕ) (words r1 r2 r3 r4 r5 : List (List ℕ)) (seed clock connections journal : Option (List ℕ)) (reboot : Bool)
    → seed ≡ (option_next (codes "--seed") words).0 → r1 ≡ (option_next (codes "--seed") words).1
    → clock ≡ (option_next (codes "--clock") r1).0 → r2 ≡ (option_next (codes "--clock") r1).1
    → connections ≡ (option_next (codes "--connections") r2).0 → r3 ≡ (option_next (codes "--connections") r2).1
    → journal ≡ (option_next (codes "--journal") r3).0 → r4 ≡ (option_next (codes "--journal") r3).1
    → reboot ≡ (flag_next (codes "--reboot") r4).0 → r5 ≡ (flag_next (codes "--reboot") r4).1
    → line_with addr seed clock connections journal reboot r5 ≡ one_line_of (addr ∷ words)
line_by_parts addr words r1 r2 r3 r4 r5 seed clock connections journal reboot a a' b b' c c' d d' e e' =
    ap (by_reboot addr seed clock connections journal) (λ i. (e i, e' i))
    ∙ ap (by_journal addr seed clock connections) (λ i. (d i, d' i))
    ∙ ap (by_connections addr seed clock) (λ i. (c i, c' i))
    ∙ ap (by_clock addr seed) (λ i. (b i, b' i))
    ∙ ap (by_seed addr) (λ i. (a i, a' i))

-- ---- the words

-- the first word, and those behind it
abbrev behind : List (List ℕ) → List (List ℕ)
behind words = take (length words - 1) (drop 1 words)

front_of : (words : List (List ℕ)) (addr : List ℕ) → 1 ≤ length words → addr ≡ get_or words 0 addr → addr ∷ behind words ≡ words
front_of [] addr some is = absurd (omega (arith, some))
front_of (word ∷ words) addr some is =
    ap (λ a. a ∷ behind (word ∷ words)) is ∙ ap (λ ws. word ∷ ws) (take_all (length (word ∷ words) - 1) words (omega arith))

some_by : (words : List (List ℕ)) → (length words == 0) ≡ false → 0 < length words
some_by words filled = grind (arith, nat_tests, filled)

none_by : (words : List (List ℕ)) → (length words == 0) ≡ true → words ≡ []
none_by [] empty = refl
none_by (word ∷ words) empty = absurd (let n : length (word ∷ words) ≡ 0 = grind (arith, nat_tests, empty) in omega (arith, n))

-- it is none where words stand behind all options
none_by_more : (addr : List ℕ) (seed clock connections journal : Option (List ℕ)) (reboot : Bool) (words : List (List ℕ)) → (length words == 0) ≡ false
    → None ≡ line_with addr seed clock connections journal reboot words
none_by_more addr seed clock connections journal reboot [] filled = absurd (let n = some_by [] filled in omega (arith, n))
none_by_more addr seed clock connections journal reboot (word ∷ words) filled = refl

-- where none does, it is what the values ask for
line_at_end : (addr : List ℕ) (seed clock connections journal : Option (List ℕ)) (reboot : Bool) (words : List (List ℕ)) → (length words == 0) ≡ true
    → line_with addr seed clock connections journal reboot [] ≡ line_with addr seed clock connections journal reboot words
line_at_end addr seed clock connections journal reboot words empty = ap (line_with addr seed clock connections journal reboot) (sym (none_by words empty))

-- ---- the whole

module _ (words : List (List ℕ)) (addr : List ℕ) (r1 r2 r3 r4 r5 : List (List ℕ)) (seed clock connections journal : Option (List ℕ)) (reboot : Bool)
    (some : 1 ≤ length words) (first : addr ≡ get_or words 0 addr)
    (a : seed ≡ (option_next (codes "--seed") (behind words)).0) (a' : r1 ≡ (option_next (codes "--seed") (behind words)).1)
    (b : clock ≡ (option_next (codes "--clock") r1).0) (b' : r2 ≡ (option_next (codes "--clock") r1).1)
    (c : connections ≡ (option_next (codes "--connections") r2).0) (c' : r3 ≡ (option_next (codes "--connections") r2).1)
    (d : journal ≡ (option_next (codes "--journal") r3).0) (d' : r4 ≡ (option_next (codes "--journal") r3).1)
    (e : reboot ≡ (flag_next (codes "--reboot") r4).0) (e' : r5 ≡ (flag_next (codes "--reboot") r4).1) where
  parts : line_with addr seed clock connections journal reboot r5 ≡ one_line_of words
  parts =
      line_by_parts addr (behind words) r1 r2 r3 r4 r5 seed clock connections journal reboot a a' b b' c c' d d' e e'
      ∙ ap one_line_of (front_of words addr some first)

  pub no_line : (length r5 == 0) ≡ false → None ≡ one_line_of words
  no_line more = none_by_more addr seed clock connections journal reboot r5 more ∙ parts

  pub is_line : (length r5 == 0) ≡ true → (text : List ℕ) → text ≡ addr → (line : Option OneLine) → line ≡ line_with text seed clock connections journal reboot []
      → line ≡ one_line_of words
  is_line none text same line is =
      is ∙ ap (λ a. line_with a seed clock connections journal reboot []) same ∙ line_at_end addr seed clock connections journal reboot r5 none ∙ parts
