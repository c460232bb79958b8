-- What is said of a line is said of each text that begins with it.
use Rattle.std.proofs.Common.{◌≡◌, ◌<◌, ◌+◌, ◌==◌, ℕ, suc, true, false, List, [], ◌∷◌, ◌++◌, length, length-append, refl, sym, subst, ap, arith, Option, Some, None, Result, Ok, Err}
use Rattle.std.specs.Prelude.{◌≢◌, IfOk}
use Rattle.std.proofs.lemmas.Bool.Decides.{nat_tests}
use Rattle.engine_text.specs.declared.entry.Entry.{Entry}
use Rattle.engine_text.specs.declared.memory.NoMemory.{NoMemory}
use Rattle.machine_model.specs.State.{State, initial_state}
use Rattle.machine_model.specs.History.{Charter, opening_state}
use Rattle.journal_lines.specs.JournalLines.{journal_line, header_line, IsHeader}
use Rattle.journal_lines.specs.Entry.{IsWrong}
use Rattle.journal_lines.specs.Line.{HasLine, IsJournalLine, IsLineFault, BeginsWithHeader}
use Rattle.journal_lines.specs.Verdict.{IsVerdict, IsVerdictFrom, AtEnd, AtNoLine, AtWrongLine, AfterRightLine, behind_header, without_header, BehindHeader, WithoutHeader}
use Rattle.journal_lines.specs.declared.format.Format.TheVariants.{First, Second}
use Rattle.journal_lines.specs.declared.format.Format.{Format}
use Rattle.journal_lines.specs.declared.fault.LineFault.{LineFault}
use Rattle.journal_lines.specs.declared.fault.LineFault.TheVariants as line_fault
use Rattle.journal_lines.specs.declared.verdict.Verdict.{Verdict}
use Rattle.journal_lines.specs.declared.verdict.Verdict.TheVariants.{Legal, Illegal, BadLine}
use Rattle.history_replay.specs.Cutting.{HasNoLineEnd, IsFirstLine}
use Rattle.history_replay.specs.Checking.{IsLineSaid}
use Rattle.history_replay.specs.Standing.{Standing}
use Rattle.history_replay.proofs.LineEndLemmas.{no_first, no_end_no_line}

-- ---- a line that is right

pub said_on : (format : Format) (s after : Standing) (n : ℕ) (line rest : List ℕ) (v : Verdict) → IsLineSaid format s n line after None
    → IsVerdictFrom format after.state (n + 1) rest v → IsVerdictFrom format s.state n (line ++ rest) v
said_on format s after n line rest v (e, has, is, right, at) h =
    subst (λ l. IsVerdictFrom format s.state n (l ++ rest) v) is
    (AfterRightLine s.state n e rest v has right (subst (λ (y : Standing). IsVerdictFrom format y.state (n + 1) rest v) at h))

-- what is said of an entry's line is said of the bytes that are it
pub line_said : (format : Format) (s after : Standing) (n : ℕ) (line bytes : List ℕ) (r : Result (Option Verdict) NoMemory) → line ≡ bytes
    → IfOk r (λ said. IsLineSaid format s n line after said) → IfOk r (λ said. IsLineSaid format s n bytes after said)
line_said format s after n line bytes r is h = subst (λ l. IfOk r (λ said. IsLineSaid format s n l after said)) is h

-- ---- a text's end

pub no_text : (text : List ℕ) → (length text == 0) ≡ true → text ≡ []
no_text [] e = refl
no_text (x ∷ xs) e = let none : suc (length xs) ≡ 0 = grind (arith, nat_tests, e) in absurd (omega (arith, none))

pub some_text : (text : List ℕ) → (length text == 0) ≡ false → text ≢ []
some_text text e is =
    let none : length text ≡ 0 = ap length is in
    let some : 0 < length text = grind (arith, nat_tests, e) in
    omega (arith, none, some)

pub at_end : (format : Format) (s : State) (n : ℕ) (text : List ℕ) (steps : ℕ) → (length text == 0) ≡ true → steps ≡ s.step_count → IsVerdictFrom format s n text (Legal steps)
at_end format s n text steps e count =
    subst (λ k. IsVerdictFrom format s n text (Legal k)) (sym count)
    (subst (λ l. IsVerdictFrom format s n l (Legal s.step_count)) (sym (no_text text e)) (AtEnd s n))

-- ---- a line that isn't

pub some : (line rest : List ℕ) → 0 < length line → line ++ rest ≢ []
some line rest long e =
    let none : length (line ++ rest) ≡ 0 = ap length e in
    omega (arith, none, long, length-append line rest)

pub first_some : (line : List ℕ) → IsFirstLine line → 0 < length line
first_some line (front, none, is) =
    let long : length line ≡ length (front ++ 10 ∷ []) = ap length is in
    omega (arith, long, length-append front (10 ∷ []))

pub bad_line : (format : Format) (s : State) (n : ℕ) (line rest : List ℕ) → IsFirstLine line → (IsJournalLine format line → ⊥) → IsVerdictFrom format s n (line ++ rest) (BadLine n)
bad_line format s n line rest first none =
    let whole : line ++ rest ≡ line ++ rest = refl in
    AtNoLine s n (line ++ rest) (some line rest (first_some line first)) (no_first format (line ++ rest) line rest first whole none)

-- what a line's fault says of it
pub bad_bytes : (format : Format) (s : Standing) (n : ℕ) (line : List ℕ) (after : Standing) (fault : LineFault) → IsFirstLine line → IsLineFault format line fault → fault ≡ line_fault.BadLine
    → IsLineSaid format s n line after (Some (BadLine n))
bad_bytes format s n line after fault first refused is = λ rest. bad_line format s.state n line rest first (subst (IsLineFault format line) is refused)

pub no_line : (format : Format) (s : State) (n : ℕ) (text : List ℕ) → text ≢ [] → HasNoLineEnd text → IsVerdictFrom format s n text (BadLine n)
no_line format s n text full none = AtNoLine s n text full (no_end_no_line format text none)

pub wrong_line : (format : Format) (s : State) (n : ℕ) (e : Entry) (line rest kept found : List ℕ) → HasLine e → journal_line format e ≡ line → IsWrong s e kept found
    → IsVerdictFrom format s n (line ++ rest) (Illegal n kept found)
wrong_line format s n e line rest kept found has is wrong =
    subst (λ l. IsVerdictFrom format s n (l ++ rest) (Illegal n kept found)) is (AtWrongLine s n e rest kept found has wrong)

-- ---- a whole text

-- what is said behind its header, and of a text without one
pub behind_head : (given : Charter) (seed : List ℕ) (opening : ℕ) (text rest : List ℕ) (r : Result Verdict NoMemory) → IsHeader seed opening
    → header_line seed opening ++ rest ≡ text → IfOk r (λ v. IsVerdictFrom Second (initial_state seed opening) 2 rest v) → IfOk r (λ v. IsVerdict given text v)
behind_head given seed opening text rest (Ok v) h whole said =
    subst (λ t. IsVerdict given t v) whole (behind_header given seed opening rest, BehindHeader seed opening rest h, said)
behind_head given seed opening text rest (Err e) h whole said = tt

pub without_head : (given : Charter) (text : List ℕ) (r : Result Verdict NoMemory) → (BeginsWithHeader text → ⊥)
    → IfOk r (λ v. IsVerdictFrom First (opening_state given) 1 text v) → IfOk r (λ v. IsVerdict given text v)
without_head given text (Ok v) none said = (without_header given text, WithoutHeader text none, said)
without_head given text (Err e) none said = tt
