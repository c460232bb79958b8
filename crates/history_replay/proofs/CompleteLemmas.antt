-- The journal of a legal history is legal: each of its entries has a line, and is right.
use Rattle.std.proofs.Common.{◌≡◌, ◌+◌, ◌==◌, ℕ, suc, true, false, not, List, [], ◌∷◌, ◌++◌, length, length-append, IsTrue, get_or, Option, Some, None, refl, sym, ap, subst, ◌∙◌, arith}
use Rattle.std.specs.Prelude.{All, unwrap_or, option_and_then, is_some}
use Rattle.std.specs.Option.{option_map_or, option_and_then, unwrap_or}
use Rattle.std.specs.List.{flat_map, AllByRecursion}
use Rattle.std.proofs.lemmas.Bool.{false≢true}
use Rattle.std.proofs.lemmas.List.Elements.{recursion_from_All}
use Rattle.serde_json.specs.Written.{compact_text}
use Rattle.machine_model.specs.State.{State}
use Rattle.machine_model.specs.Consistency.{IsConsistent}
use Rattle.machine_model.specs.History.{Charter, IsLegal, after_step, opening_state, reply_of, is_drop, IsLawfulCall, AreLawful}
use Rattle.journal_lines.specs.Entries.{entries_from, history_entries}
use Rattle.journal_lines.specs.JournalLines.{journal_line}
use Rattle.machine_model.specs.Ready.{is_ready}
use Rattle.machine_model.specs.Statuses.{ends_ticket, is_reply_of}
use Rattle.machine_model.specs.Step.{at_moment}
use Rattle.machine_model.specs.Tickets.{ticket_numbered}
use Rattle.machine_model.proofs.CallLemmas.{obeys}
use Rattle.machine_model.proofs.Histories.{lawful_append, state_append}
use Rattle.machine_model.proofs.Laws.{consistency_law}
use Rattle.machine_model.proofs.ObeyLemmas.{HaveReplies, IsTicketReply, found_all}
use Rattle.machine_model.proofs.ReplyLemmas.{step_keeps, replies_from}
use Rattle.journal_lines.specs.Due.{IsMomentFor, behind_dues}
use Rattle.journal_lines.specs.Entry.{IsRight, behind_entry, lacks_ticket}
use Rattle.journal_lines.specs.Line.{told_reply, told_entry, BeginsWithHeader}
use Rattle.journal_lines.specs.Stored.{due_steps, entry_steps}
use Rattle.journal_lines.specs.FitsTypes.{EntryFitsTypes, ReplyFitsTypes}
use Rattle.journal_lines.specs.Verdict.{IsVerdictFrom, AtEnd, AfterRightLine, behind_header, without_header, BehindHeader, WithoutHeader}
use Rattle.journal_lines.specs.declared.format.Format.{Format}
use Rattle.journal_lines.specs.declared.format.Format.TheVariants.{First, Second}
use Rattle.journal_lines.specs.declared.verdict.Verdict.TheVariants.{Legal}
use Rattle.journal_lines.proofs.EntryLemmas.{IsTellable, has_line, told_line, told_value}
use Rattle.journal_lines.proofs.HeaderLemmas.{header_letter, line_letter}
use Rattle.engine_text.specs.declared.call.Call.{Call}
use Rattle.engine_text.specs.declared.entry.Entry.{Entry}
use Rattle.engine_text.specs.declared.reply.Reply.{Reply}
use Rattle.engine_text.specs.declared.reply.Reply.TheVariants.{Answer, Begun, LogStream, EventStream, JournalStream, Fed, Dropped}
use Rattle.engine_text.specs.declared.step.Step.{Step}
use Rattle.engine_text.specs.declared.ticket.Ticket.{Ticket}
use Rattle.history_replay.specs.Legal.{CompleteLaw, journal_of, steps_told}
use Rattle.history_replay.proofs.LegalLemmas.{steps_counted}
use Rattle.history_replay.proofs.RunLemmas.{dues_more, lawful_more}
use Rattle.history_replay.proofs.TicketLemmas.{held_before}

-- ---- a lawful call is timely, can be answered, and its ticket is there

timed : (s : State) (k t : ℕ) (c : Call) → IsLawfulCall s k t c → IsMomentFor s t c
timed s k t (Call.Drop ticket) h = h.0
timed s k t (Call.Take ticket) h = h.0
timed s k t c h = (h.0, h.1)

can_answer : (s : State) (k t : ℕ) (c : Call) → IsLawfulCall s k t c → is_ready s c ≡ true
can_answer s k t (Call.Drop ticket) h = refl
can_answer s k t (Call.Take ticket) h = h.2
can_answer s k t c h = h.2

holds : (s : State) (n k t : ℕ) (c : Call) → IsLawfulCall (behind_dues s n) k t c → lacks_ticket s k c ≡ false
holds s n k t (Call.Drop ticket) h = ap not (held_before s k ticket n h.1)
holds s n k t (Call.Take ticket) h = ap not (held_before s k ticket n h.1)
holds s n k t c h = refl

-- ---- what a line tells of a reply

told_fits : (r : Reply) → ReplyFitsTypes r → ReplyFitsTypes (told_reply r)
told_fits (Answer status body) h = h
told_fits (Begun ticket) h = h
told_fits (LogStream spec) h = h
told_fits (EventStream first until filter) h = h
told_fits (JournalStream count) h = h
told_fits (Fed taken) h = tt
told_fits Dropped h = tt

-- a take is answered as its ticket was
answered : (o : Option Reply) → IsTicketReply o → is_some o ≡ true → unwrap_or o Dropped ≡ Dropped → ⊥
answered None h there is = false≢true there
answered (Some (Answer status body)) h there is = let never : ⊥ = cc in never
answered (Some (Begun ticket)) h there is = h
answered (Some (LogStream spec)) h there is = h
answered (Some (EventStream first until filter)) h there is = h
answered (Some (JournalStream count)) h there is = h
answered (Some (Fed taken)) h there is = h
answered (Some Dropped) h there is = h

taken : (s : State) (n : ℕ) (o : Option Ticket) → ticket_numbered n s ≡ o → HaveReplies s → option_map_or (λ (t : Ticket). is_some t.reply) o false ≡ true
    → unwrap_or (option_and_then (λ (t : Ticket). t.reply) o) Dropped ≡ Dropped → ⊥
taken s n None at have ready is = false≢true ready
taken s n (Some t) at have ready is =
    answered t.reply (found_all (λ (t : Ticket). IsTicketReply t.reply) (λ t. t.number == n) t s.tickets at have) ready is

-- only a drop is answered by its ticket's end
dropped : (s : State) (k t : ℕ) (c : Call) → HaveReplies s → IsLawfulCall s k t c → reply_of s k t c ≡ Dropped → IsTrue (is_drop c)
dropped s k t c have lawful is = by c lawful is (subst (λ r. IsTrue (is_reply_of c r)) is ((obeys c k (at_moment t s)).reply have))
  where
    by : (c : Call) → IsLawfulCall s k t c → reply_of s k t c ≡ Dropped → IsTrue (ends_ticket c) → IsTrue (is_drop c)
    by (Call.Drop ticket) lawful is ends = refl
    by (Call.Take ticket) lawful is ends = absurd (taken s ticket (ticket_numbered ticket s) refl have lawful.2 is)
    by c lawful is ends = absurd (false≢true ends)

told : (s : State) (k t : ℕ) (c : Call) (r : Reply) → HaveReplies s → IsLawfulCall s k t c → reply_of s k t c ≡ r → IsTellable c (told_reply r)
told s k t c (Answer status body) have lawful is = (refl, λ e. absurd (cc e))
told s k t c (Begun ticket) have lawful is = (refl, λ e. absurd (cc e))
told s k t c (LogStream spec) have lawful is = (refl, λ e. absurd (cc e))
told s k t c (EventStream first until filter) have lawful is = (refl, λ e. absurd (cc e))
told s k t c (JournalStream count) have lawful is = (refl, λ e. absurd (cc e))
told s k t c (Fed taken) have lawful is = (refl, λ e. absurd (cc e))
told s k t c Dropped have lawful is = (refl, λ e. dropped s k t c have lawful is)

-- ---- an entry of the history

abbrev entry_at : State → ℕ → ℕ → ℕ → Call → Entry
entry_at s n k t c = record { dues = n; conn = k; moment = t; call = c; reply = reply_of (behind_dues s n) k t c }

right : (s : State) (n k t : ℕ) (c : Call) → AreLawful s (due_steps n) → IsLawfulCall (behind_dues s n) k t c → IsRight s (told_entry (entry_at s n k t c))
right s n k t c dues lawful = record {
  ticket = holds s n k t c lawful;
  dues = (dues, timed (behind_dues s n) k t c lawful);
  ready = can_answer (behind_dues s n) k t c lawful;
  reply = ap compact_text (sym (told_value c (reply_of (behind_dues s n) k t c)));
}

entry_fits : (e : Entry) → EntryFitsTypes e → EntryFitsTypes (told_entry e)
entry_fits e h = record { conn = h.conn; dues = h.dues; moment = h.moment; call = h.call; reply = told_fits e.reply h.reply }

-- ---- the whole history

-- what is said, n being the number of the next line, of what is left behind m due steps
abbrev Says : Format → State → ℕ → State → ℕ → List Step → Type 0
Says format s n now m xs = AllByRecursion EntryFitsTypes (entries_from now m xs)
    → IsVerdictFrom format s n (flat_map (journal_line format) (entries_from now m xs)) (Legal (s.step_count + length (flat_map entry_steps (entries_from now m xs))))

says : (format : Format) (s : State) (n m : ℕ) (xs : List Step) → IsConsistent s → HaveReplies s → AreLawful s (due_steps m) → AreLawful (behind_dues s m) xs
    → Says format s n (behind_dues s m) m xs
says format s n m [] kept have dues lawful texts =
    let none : s.step_count ≡ s.step_count + 0 = omega arith in
    subst (λ k. IsVerdictFrom format s n [] (Legal k)) none (AtEnd s n)
says format s n m (Step.Due ∷ xs) kept have dues lawful texts =
    let one : suc m ≡ m + 1 = omega arith in
    let all : AreLawful s (due_steps (suc m)) = lawful_more s m dues lawful.0 in
    let rest : AreLawful (behind_dues s (suc m)) xs = subst (λ (y : State). AreLawful y xs) (sym (dues_more s m)) lawful.1 in
    let on : Says format s n (after_step (behind_dues s m) Step.Due) (suc m) xs =
    subst (λ (y : State). Says format s n y (suc m) xs) (dues_more s m) (says format s n (suc m) xs kept have all rest) in
    subst (λ k. Says format s n (after_step (behind_dues s m) Step.Due) k xs) one on texts
says format s n m (Step.Call k t c ∷ xs) kept have dues lawful texts =
    let x : Step = Step.Call k t c in
    let at : State = behind_dues s m in
    let after : State = after_step at x in
    let e : Entry = entry_at s m k t c in
    let es : List Entry = entries_from after 0 xs in
    let there : HaveReplies at = replies_from s (due_steps m) have in
    let has = has_line (told_entry e) lawful.0.0 (told at k t c e.reply there lawful.0.1 refl) (entry_fits e texts.0) in
    let same : after ≡ behind_entry s (told_entry e) = sym (state_append s (due_steps m) (x ∷ [])) in
    let behind = steps_counted s (entry_steps e) kept (lawful_append s (due_steps m) (x ∷ []) dues (lawful.0, tt)) in
    let more = says format after (n + 1) 0 xs (subst IsConsistent (sym same) behind.0) (step_keeps at x there) tt lawful.1 texts.1 in
    let steps : ℕ = after.step_count + length (flat_map entry_steps es) in
    let line = AfterRightLine s n (told_entry e) (flat_map (journal_line format) es) (Legal steps) has (right s m k t c dues lawful.0.1)
    (subst (λ y. IsVerdictFrom format y (n + 1) (flat_map (journal_line format) es) (Legal steps)) same more) in
    let first : after.step_count ≡ s.step_count + length (entry_steps e) = ap (λ (y : State). y.step_count) same ∙ behind.1 in
    let count : steps ≡ s.step_count + length (entry_steps e ++ flat_map entry_steps es) =
    omega (arith, first, length-append (entry_steps e) (flat_map entry_steps es)) in
    subst (λ l. IsVerdictFrom format s n (l ++ flat_map (journal_line format) es) (Legal (s.step_count + length (entry_steps e ++ flat_map entry_steps es)))) (told_line format e)
    (subst (λ i. IsVerdictFrom format s n (journal_line format (told_entry e) ++ flat_map (journal_line format) es) (Legal i)) count line)

-- the lines of a legal history's calls, from its opening on
lines_legal : (format : Format) (charter : Charter) (n : ℕ) (h : List Step) → IsLegal charter h → All EntryFitsTypes (history_entries charter h)
    → IsVerdictFrom format (opening_state charter) n (flat_map (journal_line format) (history_entries charter h)) (Legal (steps_told charter h))
lines_legal format charter n h legal texts =
    let s : State = opening_state charter in
    let none : s.step_count + steps_told charter h ≡ steps_told charter h = omega arith in
    subst (λ i. IsVerdictFrom format s n (flat_map (journal_line format) (history_entries charter h)) (Legal i)) none
    (says format s n 0 h (consistency_law charter [] (legal.0, tt)) tt tt legal.1 (recursion_from_All EntryFitsTypes (history_entries charter h) texts))

-- no header stands before lines of format 1
pub no_header : (es : List Entry) → BeginsWithHeader (flat_map (journal_line First) es) → ⊥
no_header [] (seed, opening, rest, is, begins) =
    let letter : 102 ≡ 0 = sym (header_letter seed opening rest) ∙ ap (λ l. get_or l 2 0) begins in
    omega (arith, letter)
no_header (e ∷ es) (seed, opening, rest, is, begins) =
    let letter : 102 ≡ 99 =
    sym (header_letter seed opening rest) ∙ ap (λ l. get_or l 2 0) begins ∙ line_letter First e (flat_map (journal_line First) es) in
    omega (arith, letter)

pub complete_law : CompleteLaw
complete_law charter h legal texts = (
  (without_header charter (journal_of First charter h), WithoutHeader (journal_of First charter h) (no_header (history_entries charter h)), lines_legal First charter 1 h legal texts),
  λ bytes given. (
    behind_header given charter.seed charter.opening (flat_map (journal_line Second) (history_entries charter h)),
    BehindHeader charter.seed charter.opening (flat_map (journal_line Second) (history_entries charter h))
        (record { bytes = bytes; long = legal.0.0; low = legal.0.1 }),
    lines_legal Second charter 2 h legal texts,
  ),
)
