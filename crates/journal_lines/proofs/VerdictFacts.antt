-- What is said of small journals, written out by hand.
use Rattle.std.specs.Prelude.{◌≡◌, ◌≢◌, ℕ, zero, suc, ◌-◌, ◌<◌, ◌^◌, List, [], ◌∷◌, ◌++◌, get_or, slice_index, replicate, true, codes, refl}
use Rattle.std.proofs.Common.{ap, arith, inl, inr, sym, ◌∙◌}
use Rattle.std.specs.Fmt.{digits}
use Rattle.rand_chacha.specs.Block.{quarter_round, column_round, diagonal_round, double_rounds, block_word}
use Rattle.rand_core.specs.Steps.{u32_at}
use Rattle.hex.specs.Hex.{encode_with, IsBytes}
use Rattle.json.specs.Print.{escape_byte}
use Rattle.proc_kernel.specs.Processes.{meet_waiting, meeting_order}
use Rattle.engine_text.specs.Id.{id_of, key_bytes}
use Rattle.engine_text.specs.declared.owner.Owner.TheVariants as Owner
use Rattle.json_laws.specs.Sound.{line_text}
use Rattle.json.proofs.Printed.Utf8.{IsUtf8-are_ascii}
use Rattle.machine_model.specs.History.{Charter, opening_state}
use Rattle.journal_lines.specs.JournalLines.{journal_line, header_line, IsHeader}
use Rattle.journal_lines.specs.declared.format.Format.TheVariants.{First, Second}
use Rattle.machine_model.proofs.Scenes.{t, web, charter, create, final_state}
use Rattle.journal_lines.specs.Line.{HasLine, BeginsWithHeader}
use Rattle.journal_lines.specs.Due.{IsDueCount}
use Rattle.journal_lines.specs.Verdict.{IsVerdict, IsVerdictFrom, behind_header, without_header, BehindHeader, WithoutHeader, AtEnd, AtNoLine, AtWrongLine, AfterRightLine}
use Rattle.journal_lines.specs.Entry.{IsWrong, IsRight, NoTicket, OtherDues, NotReady, OtherReply}
use Rattle.journal_lines.specs.declared.verdict.Verdict.TheVariants.{Legal, Illegal, BadLine}
use Rattle.engine_text.specs.declared.call.Call.{Call}
use Rattle.engine_text.specs.declared.entry.Entry.{Entry}
use Rattle.engine_text.specs.declared.reply.Reply.{Reply}
use Rattle.journal_lines.specs.declared.verdict.Verdict.{Verdict}
use Rattle.journal_lines.proofs.HeaderLemmas.{header_letter, line_letter}

-- ---- entries

-- the answer to who asks for a container that isn't there
abbrev pub missing : List ℕ
missing = codes "{\"message\":\"No such container: web\"}"

-- an inspect, so many due steps behind the opening
abbrev pub look : ℕ → ℕ → ℕ → List ℕ → Entry
look dues moment status body =
    record { dues = dues; conn = 0; moment = moment; call = Call.Inspect web; reply = Reply.Answer status body }

abbrev pub looked : Entry
looked = look 0 t 404 missing

pub line_of_look : journal_line First looked
    ≡ codes "{\"call\":{\"op\":\"inspect\",\"ref\":\"web\"},\"conn\":0,\"dues\":0,\"moment\":1700000000000,\"reply\":{\"body\":\"{\\\"message\\\":\\\"No such container: web\\\"}\",\"status\":404}}\n"
unfolding digits escape_byte line_text
line_of_look = refl

-- each of these has a line
has_line : (dues moment : ℕ) → dues < 1000 → moment < 2000000000000 → HasLine (look dues moment 404 missing)
has_line dues moment few soon = record {
  sound = refl;
  types = record {
    conn = let low : 0 < 2 ^ 32 = omega arith in low;
    dues = let low : dues < 2 ^ 64 = omega (arith, few) in low;
    moment = let low : moment < 2 ^ 64 = omega (arith, soon) in low;
    call = (tt, (IsUtf8-are_ascii web refl, tt));
    reply = (let low : 404 < 2 ^ 16 = omega arith in low, IsUtf8-are_ascii missing refl);
  };
  told = refl;
  dropped = λ e. absurd (cc e);
}

-- ---- verdicts

-- a text whose third byte isn't the f of a header's first key has no header, and so what is said of it as of format 1 is its verdict
no_header : (text : List ℕ) → get_or text 2 0 ≢ 102 → BeginsWithHeader text → ⊥
no_header text differs (seed, opening, rest, is, joined) =
    differs (ap (λ l. get_or l 2 0) (sym joined) ∙ header_letter seed opening rest)

pub without : (text : List ℕ) (v : Verdict) → get_or text 2 0 ≢ 102 → IsVerdictFrom First (opening_state charter) 1 text v → IsVerdict charter text v
without text v differs said = (without_header charter text, WithoutHeader text (no_header text differs), said)

-- an empty text is legal, and tells of no step
pub empty_text : IsVerdict charter [] (Legal 0)
empty_text = without [] _ (λ e. let differs : 0 ≡ 102 = e in omega (arith, differs)) (AtEnd _ _)

-- every line and every header begins with a brace, so a text that doesn't begins with no line
pub no_line : (c : ℕ) (rest : List ℕ) → 123 < c → IsVerdict charter (c ∷ rest) (BadLine 1)
unfolding line_text
no_line c rest above = (
  without_header charter (c ∷ rest),
  WithoutHeader (c ∷ rest) (λ (seed, opening, more, is, joined).
      let brace : 123 ≡ c = ap (λ l. get_or l 0 0) joined in
      omega (arith, above, brace)),
  AtNoLine _ _ _ (λ e. cc e) (λ (line, more, (e, has, is), joined).
      let brace : 123 ≡ c = ap (λ l. get_or (l ++ more) 0 0) is ∙ ap (λ l. get_or l 0 0) joined in
      omega (arith, above, brace)),
)

-- the right answer at the opening is legal, and a line behind it counts further
pub right_reply : IsRight (opening_state charter) looked
unfolding digits escape_byte
right_reply = record { ticket = refl; dues = (tt, ((omega arith, omega arith, refl), refl)); ready = refl; reply = refl }

pub legal_look : IsVerdict charter (journal_line First looked ++ []) (Legal 1)
legal_look = without _ _ (λ e. let differs : 99 ≡ 102 = sym (line_letter First looked []) ∙ e in omega (arith, differs)) (AfterRightLine _ _ looked [] _ (has_line 0 t (omega arith) (omega arith)) right_reply (AtEnd _ _))

-- a due step where nothing is due isn't right: the count is 0
pub one_due_too_many : IsVerdictFrom First (opening_state charter) 1 (journal_line First (look 1 t 404 missing) ++ []) (Illegal 1 (codes "1") (codes "0"))
unfolding digits
one_due_too_many = AtWrongLine _ _ (look 1 t 404 missing) [] _ _ (has_line 1 t (omega arith) (omega arith))
    (OtherDues _ refl (λ h. cc h.0.0.1) (inl (0, ((tt, ((omega arith, omega arith, refl), refl)), λ n less h. absurd (omega (arith, less))), refl)))

-- no count serves a call before the opening
no_count : (n : ℕ) → IsDueCount (opening_state charter) (look 0 (t - 1) 404 missing) n → ⊥
no_count zero h = omega (arith, h.1.0.0)
no_count (suc n) h = cc h.0.0.1

pub before_the_opening : IsVerdictFrom First (opening_state charter) 1 (journal_line First (look 0 (t - 1) 404 missing) ++ []) (Illegal 1 (codes "0") (codes "none"))
unfolding digits
before_the_opening = AtWrongLine _ _ (look 0 (t - 1) 404 missing) [] _ _ (has_line 0 (t - 1) (omega arith) (omega arith))
    (OtherDues _ refl (no_count 0) (inr (no_count, refl)))

-- another reply than the machine's
pub other_reply : IsWrong (opening_state charter) (look 0 t 204 [])
    (codes "{\"body\":\"\",\"status\":204}") (codes "{\"body\":\"{\\\"message\\\":\\\"No such container: web\\\"}\",\"status\":404}")
unfolding digits escape_byte
other_reply = OtherReply refl (tt, ((omega arith, omega arith, refl), refl)) refl (λ e.
    let differs : 123 ≡ 34 = ap (λ l. get_or l 9 0) e in
    omega (arith, differs))

-- a ticket that nobody was given
abbrev taken : Entry
taken = record { dues = 0; conn = 0; moment = t; call = Call.Take 3; reply = Reply.Answer 204 [] }

pub no_ticket : IsWrong (opening_state charter) taken (codes "{\"body\":\"\",\"status\":204}") (codes "no ticket")
unfolding digits escape_byte
no_ticket = NoTicket refl

-- an end of input for a run that hasn't begun
abbrev ended : Entry
ended = record { dues = 0; conn = 0; moment = t; call = Call.FeedEnd (Owner.Container 0) 1; reply = Reply.Fed true }

pub not_ready : IsWrong (final_state (create (codes "deaf" ∷ []) ∷ [])) ended (codes "{\"fed\":true}") (codes "not ready")
unfolding digits escape_byte id_of key_bytes encode_with quarter_round column_round diagonal_round double_rounds block_word u32_at meet_waiting meeting_order
not_ready = NotReady refl (tt, ((omega arith, omega arith, refl), refl)) refl

-- a drop stands whatever is due, at the moment of the step before it
pub drop_is_timed : IsDueCount (opening_state charter) (record taken { call = Call.Drop 3 }) 0
drop_is_timed = (tt, refl)

-- ---- format 2

-- the zero seed has bytes
zeros_at : (n i : ℕ) → slice_index (replicate n 0) i < 256
zeros_at zero i = omega arith
zeros_at (suc n) zero = omega arith
zeros_at (suc n) (suc i) = zeros_at n i

zeros : IsBytes charter.seed
zeros = zeros_at 32

-- its header
is_header : IsHeader charter.seed t
is_header = record { bytes = zeros; long = refl; low = omega arith }

-- it alone is legal, whatever is given, and a line behind it counts as the second
pub header_alone : (given : Charter) → IsVerdict given (header_line charter.seed t ++ []) (Legal 0)
header_alone given = (behind_header given charter.seed t [], BehindHeader charter.seed t [] is_header, AtEnd _ _)

pub line_behind_header : (given : Charter) → IsVerdict given (header_line charter.seed t ++ (journal_line Second looked ++ [])) (Legal 1)
line_behind_header given = (
  behind_header given charter.seed t (journal_line Second looked ++ []),
  BehindHeader charter.seed t (journal_line Second looked ++ []) is_header,
  AfterRightLine _ _ looked [] _ (has_line 0 t (omega arith) (omega arith)) right_reply (AtEnd _ _),
)

pub second_line_is_bad : (given : Charter) (c : ℕ) (rest : List ℕ) → 123 < c → IsVerdict given (header_line charter.seed t ++ c ∷ rest) (BadLine 2)
unfolding line_text
second_line_is_bad given c rest above = (
  behind_header given charter.seed t (c ∷ rest),
  BehindHeader charter.seed t (c ∷ rest) is_header,
  AtNoLine _ _ _ (λ e. cc e) (λ (line, more, (e, has, is), joined).
      let brace : 123 ≡ c = ap (λ l. get_or (l ++ more) 0 0) is ∙ ap (λ l. get_or l 0 0) joined in
      omega (arith, above, brace)),
)
