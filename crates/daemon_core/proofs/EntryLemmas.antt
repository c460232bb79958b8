-- The lines of the journal, as they are told.
use Rattle.std.proofs.Common.{◌≡◌, ◌≤◌, ◌<◌, ◌+◌, ◌-◌, ℕ, zero, suc, map, List, [], ◌∷◌, ◌++◌, Some, None, Result, Ok, Err, refl, sym, ◌∙◌, ap, append-nil, arith, length, drop, take, subst}
use Rattle.std.specs.Prelude.{All, OnOk, slice_get}
use Rattle.std.specs.List.{filter}
use Rattle.std.proofs.lemmas.Bool.{false≢true}
use Rattle.engine_text.specs.declared.entry.Entry.{Entry}
use Rattle.engine_text.specs.declared.memory.NoMemory.{NoMemory}
use Rattle.engine_text.specs.declared.step.Step.{Step}
use Rattle.journal_lines.specs.KeptJournal.{KeptJournal}
use Rattle.journal_lines.specs.FitsTypes.{EntryFitsTypes}
use Rattle.machine_model.specs.History.{Charter, IsLegal}
use Rattle.journal_lines.specs.Entries.{history_entries}
use Rattle.journal_lines.specs.JournalLines.{header_line, journal_line, lines_of}
use Rattle.journal_lines.specs.declared.format.Format.TheVariants.{Second}
use Rattle.journal_lines.proofs.LineLemmas.{joined, lines_count}
use Rattle.session_model.specs.declared.turned.Part.{Part}
use Rattle.session_model.specs.declared.turned.Part.TheVariants as P
use Rattle.daemon_core.specs.JournalTurns.{JournalSays, JournalTurn, told_lines}
use Rattle.daemon_core.specs.Keeping.{history_of, told_entries}
use Rattle.daemon_core.specs.Storing.{is_call, pass_of}
use Rattle.daemon_core.proofs.KeepLemmas.{HasEntries}

-- ---- one line

one_at : {A : Type 0} (xs : List A) (n : ℕ) (x : A) → slice_get xs n ≡ Some x → drop n (take (suc n) xs) ≡ x ∷ []
one_at [] n x is = let never : ⊥ = cc in absurd never
one_at (y ∷ xs) zero x is = let same : y ≡ x = cc in ap (λ z. z ∷ []) same
one_at (y ∷ xs) (suc n) x is = one_at xs n x is

line_of : (es : List Entry) (n : ℕ) (e : Entry) → slice_get es n ≡ Some e → slice_get (map (journal_line Second) es) n ≡ Some (journal_line Second e)
line_of [] n e is = let never : ⊥ = cc in absurd never
line_of (x ∷ es) zero e is = let same : x ≡ e = cc in ap (λ y. Some (journal_line Second y)) same
line_of (x ∷ es) (suc n) e is = line_of es n e is

-- the header is line 0
told_header : (ch : Charter) (h : List Step) → header_line ch.seed ch.opening ≡ told_lines ch h 0 (0 + 1)
told_header ch h = sym (append-nil (header_line ch.seed ch.opening))

-- and the line behind a number that of the entry of that number
line_at : (ch : Charter) (h : List Step) (n : ℕ) (e : Entry) → slice_get (history_entries ch h) n ≡ Some e
    → journal_line Second e ≡ told_lines ch h (suc n) (suc (suc n))
line_at ch h n e is =
    sym (ap joined (one_at (map (journal_line Second) (history_entries ch h)) n (journal_line Second e) (line_of (history_entries ch h) n e is))
    ∙ append-nil (journal_line Second e))

told_line : (ch : Charter) (j : KeptJournal) (number : ℕ) (e : Entry) → HasEntries ch j → 0 < number → slice_get j.entries (number - 1) ≡ Some e
    → journal_line Second e ≡ told_lines ch (history_of j) number (number + 1)
unfolding told_entries
told_line ch j number e has some is =
    let at : slice_get (history_entries ch (history_of j)) (number - 1) ≡ Some e = ap (λ es. slice_get es (number - 1)) (sym has) ∙ is in
    let here : suc (number - 1) ≡ number = omega (arith, some) in
    let next : suc number ≡ number + 1 = omega arith in
    line_at ch (history_of j) (number - 1) e at ∙ ap (λ m. told_lines ch (history_of j) m (suc m)) here
    ∙ ap (λ m. told_lines ch (history_of j) number m) next

-- so it is appended
pub header_told : (ch : Charter) (h : List Step) (number : ℕ) (old new : List ℕ) (r : Result (Unit {0}) NoMemory) → number ≡ 0
    → OnOk r (new ≡ old ++ header_line ch.seed ch.opening) → OnOk r (new ≡ old ++ told_lines ch h number (number + 1))
header_told ch h number old new (Ok x) is grown =
    grown ∙ ap (λ y. old ++ y) (told_header ch h) ∙ ap (λ n. old ++ told_lines ch h n (n + 1)) (sym is)
header_told ch h number old new (Err e) is grown = tt

pub line_told : (ch : Charter) (j : KeptJournal) (number : ℕ) (e : Entry) (old new : List ℕ) (r : Result (Unit {0}) NoMemory) → HasEntries ch j
    → (number ≡ 0 → ⊥) → slice_get j.entries (number - 1) ≡ Some e → OnOk r (new ≡ old ++ journal_line Second e)
    → OnOk r (new ≡ old ++ told_lines ch (history_of j) number (number + 1))
line_told ch j number e old new (Ok x) has some is grown = grown ∙ ap (λ y. old ++ y) (told_line ch j number e has (omega (arith, some)) is)
line_told ch j number e old new (Err x) has some is grown = tt

-- there are as many, and the header
lines_kept : (ch : Charter) (j : KeptJournal) → HasEntries ch j → length (lines_of ch (history_of j)) ≡ length j.entries + 1
unfolding told_entries
lines_kept ch j has = lines_count ch (history_of j) ∙ ap (λ es. length es + 1) (sym has)

-- one was appended
pub told_more : (ch : Charter) (j : KeptJournal) (n : ℕ) (old new : List ℕ) → HasEntries ch j → n ≤ length j.entries
    → new ≡ old ++ told_lines ch (history_of j) n (n + 1) → JournalSays ch (history_of j) n (P.More (n + 1)) old new
told_more ch j n old new has le told = let count = lines_kept ch j has in (refl, omega (arith, count, le), told)

-- there is none of that number
pub told_last : (ch : Charter) (j : KeptJournal) (n : ℕ) (out : List ℕ) → HasEntries ch j → length j.entries < n
    → JournalSays ch (history_of j) n P.UpToDate out out
told_last ch j n out has below = let count = lines_kept ch j has in (omega (arith, count, below), refl)

-- there is one of each number below their count
found_by : (es : List Entry) (n : ℕ) → slice_get es n ≡ None → length es ≤ n
found_by [] n none = omega arith
found_by (x ∷ es) zero none = let never : ⊥ = cc in absurd never
found_by (x ∷ es) (suc n) none = let le = found_by es n none in omega (arith, le)

pub never_missing : (es : List Entry) (n : ℕ) → n < length es → slice_get es n ≡ None → ⊥
never_missing es n below none = let le = found_by es n none in omega (arith, below, le)

-- ---- all of them

-- a fact about each entry that is kept is one about the history's
pub texts_of : (ch : Charter) (j : KeptJournal) → HasEntries ch j → All EntryFitsTypes j.entries → All EntryFitsTypes (history_entries ch (history_of j))
unfolding told_entries
texts_of ch j has texts = subst (λ (es : List Entry). All EntryFitsTypes es) has texts

-- ---- behind no step

pub looked_at : (k number : ℕ) (part : Part) (old new : List ℕ) (ch : Charter) (h : List Step) → IsLegal ch h
    → JournalSays ch h number part old new → JournalTurn k number part old new (pass_of ch h) (pass_of ch h)
looked_at k number part old new ch h legal says = record {
  turns = record {
    others = [];
    own = [];
    seen = sym (append-nil h) ∙ ap (λ x. x ++ []) (sym (append-nil h));
    apart = refl;
    strangers = λ _. refl;
    alone = λ _. refl;
    legal = legal;
    own_calls = sym (append-nil (filter is_call h));
    looks = omega arith;
    looked = λ e. absurd (false≢true (sym e));
    stays = record { joined_calls = refl; number = refl; pair = refl; charter = refl; alone = refl; home = refl };
  };
  still = refl;
  says = says;
}
