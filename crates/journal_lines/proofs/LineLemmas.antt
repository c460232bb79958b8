-- The lines of a daemon's journal, one by one, are its text.
use Rattle.std.proofs.Common.{◌≡◌, ◌+◌, ℕ, zero, suc, List, [], ◌∷◌, ◌++◌, map, length, take, refl, ap, ◌∙◌, arith}
use Rattle.std.specs.List.{flat_map}
use Rattle.std.proofs.lemmas.List.Folds.{flat_map-map}
use Rattle.engine_text.specs.declared.entry.Entry.{Entry}
use Rattle.engine_text.specs.declared.step.Step.{Step}
use Rattle.machine_model.specs.History.{Charter}
use Rattle.journal_lines.specs.Entries.{history_entries}
use Rattle.journal_lines.specs.JournalLines.{header_line, journal_line, journal_lines, journal_text, lines_of}
use Rattle.journal_lines.specs.declared.format.Format.TheVariants.{Second}

-- lines, one behind the other
abbrev pub joined : List (List ℕ) → List ℕ
joined = flat_map (λ (l : List ℕ). l)

joined_lines : (es : List Entry) → joined (map (journal_line Second) es) ≡ flat_map (journal_line Second) es
joined_lines es = flat_map-map (λ (l : List ℕ). l) (journal_line Second) es

take_lines : (n : ℕ) (es : List Entry) → take n (map (journal_line Second) es) ≡ map (journal_line Second) (take n es)
take_lines zero es = refl
take_lines (suc n) [] = refl
take_lines (suc n) (e ∷ es) = ap (λ l. journal_line Second e ∷ l) (take_lines n es)

pub more_lines : (es fs : List Entry) → map (journal_line Second) (es ++ fs) ≡ map (journal_line Second) es ++ map (journal_line Second) fs
more_lines [] fs = refl
more_lines (e ∷ es) fs = ap (λ l. journal_line Second e ∷ l) (more_lines es fs)

count_lines : (es : List Entry) → length (map (journal_line Second) es) ≡ length es
count_lines [] = refl
count_lines (e ∷ es) = ap suc (count_lines es)

-- there is one more than there are entries
pub lines_count : (ch : Charter) (h : List Step) → length (lines_of ch h) ≡ length (history_entries ch h) + 1
lines_count ch h = let count = count_lines (history_entries ch h) in omega (arith, count)

-- all of them, and the first
pub all_lines : (ch : Charter) (h : List Step) → joined (lines_of ch h) ≡ journal_text Second ch (history_entries ch h)
all_lines ch h = ap (λ l. header_line ch.seed ch.opening ++ l) (joined_lines (history_entries ch h))

pub first_lines : (ch : Charter) (h : List Step) (n : ℕ) → joined (take (n + 1) (lines_of ch h)) ≡ journal_lines ch h n
first_lines ch h n =
    let es : List Entry = history_entries ch h in
    let next : n + 1 ≡ suc n = omega arith in
    ap (λ m. joined (take m (lines_of ch h))) next
    ∙ ap (λ l. header_line ch.seed ch.opening ++ joined l) (take_lines n es)
    ∙ ap (λ l. header_line ch.seed ch.opening ++ l) (joined_lines (take n es))
