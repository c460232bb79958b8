-- A legal text in format 2: its entries are the same, and so are their history and what is said of it.
use Rattle.std.proofs.Common.{◌≡◌, ℕ, List, [], ◌∷◌, ◌++◌, length, append-nil, append_assoc, Result, Ok, Err, refl, sym, ap, subst, ◌∙◌, arith}
use Rattle.std.specs.Prelude.{◌≢◌, IfOk, OnOk}
use Rattle.std.specs.List.{flat_map, AllByRecursion}
use Rattle.std.proofs.lemmas.List.{append_cancel_left}
use Rattle.hex.specs.Hex.{IsBytes}
use Rattle.engine_text.specs.declared.entry.Entry.{Entry}
use Rattle.engine_text.specs.declared.memory.NoMemory.{NoMemory}
use Rattle.machine_model.specs.History.{Charter, IsCharter, opening_state}
use Rattle.journal_lines.specs.JournalLines.{journal_line, header_line, IsHeader}
use Rattle.journal_lines.specs.Line.{HasLine, IsJournalLine, BeginsWithHeader}
use Rattle.journal_lines.specs.Verdict.{IsVerdict, IsVerdictFrom, Reading, IsReadAs, behind_header, without_header, BehindHeader, WithoutHeader}
use Rattle.journal_lines.specs.declared.format.Format.{Format}
use Rattle.journal_lines.specs.declared.format.Format.TheVariants.{First, Second}
use Rattle.journal_lines.specs.declared.verdict.Verdict.TheVariants.{Legal}
use Rattle.journal_lines.proofs.EntryLemmas.{one_line}
use Rattle.history_replay.specs.Cutting.{HasNoLineEnd, IsFirstLine}
use Rattle.history_replay.specs.Upgrading.{AreLines, AreRewritten, HasNoHeader, IsInSecond, UpgradeLaw}
use Rattle.history_replay.proofs.LegalLemmas.{Plays, plays_from}
use Rattle.history_replay.proofs.LineEndLemmas.{line_is_first, same_line, no_end_no_line}
use Rattle.history_replay.proofs.OneVerdictLemmas.{full, same_entry, one_verdict_law}
use Rattle.history_replay.proofs.VerdictLemmas.{some, first_some}

abbrev lines_in : Format → List Entry → List ℕ
lines_in format es = flat_map (journal_line format) es

-- the lines of a text are those of one list of entries
same_entries : (format : Format) (es fs : List Entry) → AllByRecursion HasLine es → AllByRecursion HasLine fs → lines_in format es ≡ lines_in format fs → es ≡ fs
same_entries format [] [] h k is = refl
same_entries format [] (f ∷ fs) h k is = absurd (full format f (lines_in format fs) k.0 (sym is))
same_entries format (e ∷ es) [] h k is = absurd (full format e (lines_in format es) h.0 is)
same_entries format (e ∷ es) (f ∷ fs) h k is =
    let (one, rest) = same_entry format e f (lines_in format es) (lines_in format fs) h.0 k.0 is in
    ap (λ l. e ∷ l) (same_entries format es fs h.1 k.1 rest) ∙ ap (λ x. x ∷ fs) one

-- a line in the other format is its entry's
pub rewrote : (line old new : List ℕ) (entry : Entry) (r : Result (Unit {0}) NoMemory) → HasLine entry → journal_line First entry ≡ line
    → OnOk r (new ≡ old ++ journal_line Second entry)
    → OnOk r ((e : Entry) → HasLine e → journal_line First e ≡ line → new ≡ old ++ journal_line Second e)
rewrote line old new entry (Ok x) has is grown = λ e also same.
    grown ∙ ap (λ (y : Entry). old ++ journal_line Second y) (one_line First entry e has also (is ∙ sym same))
rewrote line old new entry (Err e) has is grown = tt

-- ---- line by line

-- what is left of the text is lines, and with these behind it what was written is the text's lines
pub record IsRewriting (text rest old now : List ℕ) : Type 0 where
  pub left : List Entry
  pub have : AllByRecursion HasLine left
  pub lines : rest ≡ lines_in First left
  pub on : (es : List Entry) → AllByRecursion HasLine es → text ≡ lines_in First es → now ++ lines_in Second left ≡ old ++ lines_in Second es

pub begins : (text old : List ℕ) → AreLines text → IsRewriting text text old old
begins text old (left, have, lines) = record {
  left = left;
  have = have;
  lines = lines;
  on = λ es h is. ap (λ fs. old ++ lines_in Second fs) (same_entries First left es have h (sym lines ∙ is));
}

-- its first line is one
first_left : (left : List Entry) (line behind : List ℕ) → AllByRecursion HasLine left → IsFirstLine line → line ++ behind ≡ lines_in First left
    → (e : Entry) × (es : List Entry) × (left ≡ e ∷ es) × HasLine e × AllByRecursion HasLine es × (journal_line First e ≡ line) × (behind ≡ lines_in First es)
first_left [] line behind have first is = absurd (some line behind (first_some line first) is)
first_left (e ∷ es) line behind have first is =
    let same : journal_line First e ≡ line = same_line (journal_line First e) line (lines_in First es) behind (line_is_first First e have.0) first (sym is) in
    let rest : line ++ behind ≡ line ++ lines_in First es = is ∙ ap (λ l. l ++ lines_in First es) same in
    (e, es, refl, have.0, have.1, same, append_cancel_left line behind (lines_in First es) rest)

pub is_line : (text rest old now line behind : List ℕ) → IsRewriting text rest old now → IsFirstLine line → line ++ behind ≡ rest → IsJournalLine First line
is_line text rest old now line behind r first whole =
    let (e, es, at, has, have, is, behind_is) = first_left r.left line behind r.have first (whole ∙ r.lines) in
    (e, has, is)

pub goes_on : (text rest old now new line behind : List ℕ) → IsRewriting text rest old now → IsFirstLine line → line ++ behind ≡ rest
    → ((e : Entry) → HasLine e → journal_line First e ≡ line → new ≡ now ++ journal_line Second e) → IsRewriting text behind old new
goes_on text rest old now new line behind r first whole written =
    let (e, es, at, has, have, is, behind_is) = first_left r.left line behind r.have first (whole ∙ r.lines) in
    let grown : new ≡ now ++ journal_line Second e = written e has is in
    record {
      left = es;
      have = have;
      lines = behind_is;
      on = λ fs h same.
          let all : now ++ lines_in Second (e ∷ es) ≡ old ++ lines_in Second fs = ap (λ l. now ++ lines_in Second l) (sym at) ∙ r.on fs h same in
          ap (λ l. l ++ lines_in Second es) grown ∙ append_assoc now (journal_line Second e) (lines_in Second es) ∙ all;
    }

-- it ends with its last line
pub at_end : (text rest old now : List ℕ) → IsRewriting text rest old now → rest ≡ [] → AreRewritten text old now
at_end text rest old now r none = go r.left r.have r.lines r.on
  where
    go : (left : List Entry) → AllByRecursion HasLine left → rest ≡ lines_in First left
        → ((es : List Entry) → AllByRecursion HasLine es → text ≡ lines_in First es → now ++ lines_in Second left ≡ old ++ lines_in Second es)
        → AreRewritten text old now
    go [] have lines on = λ es h is. sym (append-nil now) ∙ on es h is
    go (e ∷ es) have lines on = absurd (full First e (lines_in First es) have.0 (sym lines ∙ none))

-- and each has its line end
pub never_cut : (text rest old now : List ℕ) → IsRewriting text rest old now → rest ≢ [] → HasNoLineEnd rest → ⊥
never_cut text rest old now r some none = go r.left r.have r.lines
  where
    go : (left : List Entry) → AllByRecursion HasLine left → rest ≡ lines_in First left → ⊥
    go [] have lines = some lines
    go (e ∷ es) have lines = no_end_no_line First rest none (journal_line First e, lines_in First es, (e, have.0, refl), sym lines)

-- ---- the whole text

-- how a legal text without a header plays
unheaded : (given : Charter) (text : List ℕ) (steps : ℕ) → IsCharter given → IsVerdict given text (Legal steps) → HasNoHeader text
    → Plays First (opening_state given) text steps
unheaded given text steps is (r, read, said) none = go text r read said none
  where
    go : (text : List ℕ) (r : Reading) → IsReadAs given text r → IsVerdictFrom r.format (opening_state r.charter) r.first r.lines (Legal steps) → HasNoHeader text
        → Plays First (opening_state given) text steps
    go _ _ (BehindHeader seed opening rest h) said none = absurd (none (seed, opening, rest, h, refl))
    go _ _ (WithoutHeader text never) said none = plays_from First given 1 text steps is said

pub are_lines : (given : Charter) (text : List ℕ) (steps : ℕ) → IsCharter given → IsVerdict given text (Legal steps) → HasNoHeader text → AreLines text
are_lines given text steps is said none =
    let p = unheaded given text steps is said none in
    (p.entries, p.have, p.lines)

-- of a text of format 1 it is the header, and the lines again
pub with_header : (given : Charter) (text new : List ℕ) (steps : ℕ) → IsCharter given → IsBytes given.seed → IsVerdict given text (Legal steps) → HasNoHeader text
    → AreRewritten text (header_line given.seed given.opening) new → IsInSecond given text new
with_header given text new steps is bytes said none rewritten =
    let p = unheaded given text steps is said none in
    let count : steps ≡ length p.history = omega (arith, p.counted) in
    let same : new ≡ header_line given.seed given.opening ++ lines_in Second p.entries = rewritten p.entries p.have p.lines in
    let h : IsHeader given.seed given.opening = record { bytes = bytes; long = is.0; low = is.1 } in
    record {
      how = without_header given text;
      history = p.history;
      verdict = subst (λ n. IsVerdict given text (Legal n)) count said;
      read = WithoutHeader text none;
      legal = (is, p.lawful);
      old = p.lines ∙ p.told First;
      told = same ∙ ap (λ l. header_line given.seed given.opening ++ l) (p.told Second);
      again = λ other.
          subst (λ l. IsVerdict other l (Legal (length p.history))) (sym same) (
            behind_header other given.seed given.opening (lines_in Second p.entries),
            BehindHeader given.seed given.opening (lines_in Second p.entries) h,
            subst (λ n. IsVerdictFrom Second (opening_state given) 2 (lines_in Second p.entries) (Legal n)) count (p.again Second 2),
          );
    }

-- a text of format 2 stays
pub as_it_is : (given : Charter) (text : List ℕ) (steps : ℕ) → IsVerdict given text (Legal steps) → BeginsWithHeader text → IsInSecond given text text
as_it_is given text steps (r, read, said) begins = go text r read said begins
  where
    go : (text : List ℕ) (r : Reading) → IsReadAs given text r → IsVerdictFrom r.format (opening_state r.charter) r.first r.lines (Legal steps)
        → BeginsWithHeader text → IsInSecond given text text
    go _ _ (BehindHeader seed opening rest h) said begins =
        let charter : Charter = record given { seed = seed; opening = opening } in
        let p : Plays Second (opening_state charter) rest steps = plays_from Second charter 2 rest steps (h.long, h.low) said in
        let count : steps ≡ length p.history = omega (arith, p.counted) in
        let same = ap (λ l. header_line seed opening ++ l) (p.lines ∙ p.told Second) in
        let counted = subst (λ n. IsVerdictFrom Second (opening_state charter) 2 rest (Legal n)) count said in
        record {
          how = behind_header given seed opening rest;
          history = p.history;
          verdict = (behind_header given seed opening rest, BehindHeader seed opening rest h, counted);
          read = BehindHeader seed opening rest h;
          legal = ((h.long, h.low), p.lawful);
          old = same;
          told = same;
          again = λ other. (behind_header other seed opening rest, BehindHeader seed opening rest h, counted);
        }
    go _ _ (WithoutHeader text never) said begins = absurd (never begins)

pub as_it_stands : (given : Charter) (text : List ℕ) (steps : ℕ) (r : Result (List ℕ) NoMemory) → IsVerdict given text (Legal steps) → BeginsWithHeader text
    → IfOk r (λ new. new ≡ text) → IfOk r (λ new. IsInSecond given text new)
as_it_stands given text steps (Ok new) said begins is = subst (IsInSecond given text) (sym is) (as_it_is given text steps said begins)
as_it_stands given text steps (Err e) said begins is = tt

-- ---- the law

-- each legal text has one
some_upgrade : (given : Charter) (text : List ℕ) (steps : ℕ) → IsCharter given → IsBytes given.seed → IsVerdict given text (Legal steps)
    → (new : List ℕ) × IsInSecond given text new
some_upgrade given text steps is bytes (r, read, said) = go text r read said
  where
    go : (text : List ℕ) (r : Reading) → IsReadAs given text r → IsVerdictFrom r.format (opening_state r.charter) r.first r.lines (Legal steps)
        → (new : List ℕ) × IsInSecond given text new
    go _ _ (BehindHeader seed opening rest h) said =
        let text : List ℕ = header_line seed opening ++ rest in
        (text, as_it_is given text steps (behind_header given seed opening rest, BehindHeader seed opening rest h, said) (seed, opening, rest, h, refl))
    go _ _ (WithoutHeader text never) said =
        let whole : IsVerdict given text (Legal steps) = (without_header given text, WithoutHeader text never, said) in
        let p : Plays First (opening_state given) text steps = unheaded given text steps is whole never in
        let new : List ℕ = header_line given.seed given.opening ++ lines_in Second p.entries in
        let rewritten : AreRewritten text (header_line given.seed given.opening) new =
        λ es h same. ap (λ l. header_line given.seed given.opening ++ lines_in Second l) (same_entries First p.entries es p.have h (sym p.lines ∙ same)) in
        (new, with_header given text new steps is bytes whole never rewritten)

same_steps : (n m : ℕ) → Legal n ≡ Legal m → n ≡ m
same_steps n m is = cc

pub upgrade_law : UpgradeLaw
upgrade_law given text steps is bytes said =
    let (new, up) = some_upgrade given text steps is bytes said in
    (new, up, same_steps (length up.history) steps (one_verdict_law given text (Legal (length up.history)) (Legal steps) up.verdict said))
