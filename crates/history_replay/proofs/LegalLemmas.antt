-- A text that is called legal is the journal of a legal history: that of its lines.
use Rattle.std.proofs.Common.{◌≡◌, ◌+◌, ℕ, zero, suc, true, false, List, [], ◌∷◌, ◌++◌, length, length-append, codes, refl, sym, ap, subst, ◌∙◌, arith, append_assoc}
use Rattle.std.specs.Prelude.{IsTrue}
use Rattle.std.specs.List.{flat_map, AllByRecursion}
use Rattle.json.specs.Print.{quoted}
use Rattle.serde_json.specs.Data.{no_members}
use Rattle.serde_json.specs.Written.{comma_if, compact_text, members_text}
use Rattle.json_laws.specs.Sound.{line_text}
use Rattle.api_json.specs.Values.{natural}
use Rattle.engine_text.specs.declared.call.Call.{Call}
use Rattle.engine_text.specs.declared.entry.Entry.{Entry}
use Rattle.engine_text.specs.declared.reply.Reply.{Reply}
use Rattle.engine_text.specs.declared.step.Step.{Step}
use Rattle.machine_model.specs.State.{State}
use Rattle.machine_model.specs.Chain.{Effect}
use Rattle.machine_model.specs.Call.{outcome_of}
use Rattle.machine_model.specs.Consistency.{IsConsistent}
use Rattle.machine_model.specs.History.{Charter, IsCharter, after_step, state_from, opening_state, reply_of, IsLawful, AreLawful}
use Rattle.journal_lines.specs.Entries.{entries_from}
use Rattle.journal_lines.specs.JournalLines.{call_value, reply_value, journal_line, header_line}
use Rattle.machine_model.specs.Ready.{is_ready}
use Rattle.machine_model.specs.Step.{at_moment}
use Rattle.machine_model.proofs.Consistent.BackLemmas.{form_of}
use Rattle.machine_model.proofs.Consistent.StepLemmas.{call_opens, same_ready}
use Rattle.machine_model.proofs.Costs.AnswerLemmas.{full}
use Rattle.machine_model.proofs.Costs.CallLemmas.{call_costs, ends_any}
use Rattle.machine_model.proofs.Histories.{lawful_append, state_append}
use Rattle.machine_model.proofs.Kept.CountLemmas.{Counted, counted_priced}
use Rattle.machine_model.proofs.Laws.{kept_step, consistency_law}
use Rattle.journal_lines.specs.Stored.{due_steps, entry_steps}
use Rattle.journal_lines.specs.Due.{behind_dues}
use Rattle.journal_lines.specs.Entry.{IsRight, behind_entry}
use Rattle.journal_lines.specs.Line.{HasLine}
use Rattle.journal_lines.specs.Verdict.{IsVerdictFrom, AtEnd, AtNoLine, AtWrongLine, AfterRightLine, Reading, behind_header, without_header, IsReadAs, BehindHeader, WithoutHeader}
use Rattle.journal_lines.specs.declared.format.Format.{Format}
use Rattle.journal_lines.specs.declared.format.Format.TheVariants.{First, Second}
use Rattle.journal_lines.specs.declared.verdict.Verdict.{Verdict}
use Rattle.journal_lines.specs.declared.verdict.Verdict.TheVariants.{Legal}
use Rattle.history_replay.specs.Legal.{LegalLaw, IsJournal}
use Rattle.history_replay.proofs.EntryLemmas.{lawful_behind}
use Rattle.history_replay.proofs.RunLemmas.{due_counted}

-- ---- steps are counted

call_counted : (s : State) (k t : ℕ) (c : Call) → IsConsistent s → IsLawful s (Step.Call k t c) → (after_step s (Step.Call k t c)).step_count ≡ s.step_count + 1
call_counted s k t c kept lawful =
    let m : State = at_moment t s in
    let e : Effect = (outcome_of c k m).effect in
    let ready : IsTrue (is_ready m c) = subst IsTrue (sym (same_ready s t c)) (call_opens s k t c lawful.1 (form_of s kept)).ready in
    let done : Counted full m e = call_costs Counted counted_priced c k m (λ p. lawful.0) (λ p. ready) (ends_any c) in
    ap (λ n. n + 1) done.steps

step_counted : (s : State) (x : Step) → IsConsistent s → IsLawful s x → (after_step s x).step_count ≡ s.step_count + 1
step_counted s Step.Due kept lawful = due_counted s lawful
step_counted s (Step.Call k t c) kept lawful = call_counted s k t c kept lawful

-- the state behind lawful steps, with their count
pub steps_counted : (s : State) (xs : List Step) → IsConsistent s → AreLawful s xs
    → IsConsistent (state_from s xs) × ((state_from s xs).step_count ≡ s.step_count + length xs)
steps_counted s [] kept lawful = (kept, omega arith)
steps_counted s (x ∷ xs) kept lawful =
    let one = step_counted s x kept lawful.0 in
    let rest = steps_counted (after_step s x) xs (kept_step s x kept lawful.0) lawful.1 in
    let count : (state_from (after_step s x) xs).step_count ≡ (after_step s x).step_count + length xs = rest.1 in
    (rest.0, omega (arith, one, count))

-- ---- lines

-- an entry's line, by the text of its reply
abbrev line_with : Format → Entry → List ℕ → List ℕ
line_with format e reply = (123 ∷ (comma_if false ++ (quoted (codes "call") ++ 58 ∷ (compact_text (call_value format e.call)
    ++ (comma_if true ++ (quoted (codes "conn") ++ 58 ∷ (compact_text (natural e.conn)
    ++ (comma_if true ++ (quoted (codes "dues") ++ 58 ∷ (compact_text (natural e.dues)
    ++ (comma_if true ++ (quoted (codes "moment") ++ 58 ∷ (compact_text (natural e.moment)
    ++ (comma_if true ++ (quoted (codes "reply") ++ 58 ∷ (reply ++ members_text true no_members)))))))))))))))) ++ 10 ∷ []

same_line : (format : Format) (e : Entry) (r : Reply) → compact_text (reply_value e.call r) ≡ compact_text (reply_value e.call e.reply)
    → journal_line format (record e { reply = r }) ≡ journal_line format e
unfolding line_text
same_line format e r same = ap (line_with format e) same

-- due steps are counted in the entry behind them
entries_behind : (s : State) (k n : ℕ) (xs : List Step) → entries_from s k (due_steps n ++ xs) ≡ entries_from (behind_dues s n) (n + k) xs
entries_behind s k zero xs = let none : k ≡ 0 + k = omega arith in ap (λ m. entries_from s m xs) none
entries_behind s k (suc n) xs =
    let all : n + (k + 1) ≡ suc n + k = omega arith in
    entries_behind (after_step s Step.Due) (k + 1) n xs ∙ ap (λ m. entries_from (behind_dues (after_step s Step.Due) n) m xs) all

-- ---- a legal text

-- the entries whose lines in that format it is stand for lawful steps, and their lines are those steps' in each format; in each it is
-- called legal
pub record Plays (format : Format) (s : State) (text : List ℕ) (steps : ℕ) : Type 0 where
  pub entries : List Entry
  pub history : List Step
  pub have : AllByRecursion HasLine entries
  pub lawful : AreLawful s history
  pub counted : s.step_count + length history ≡ steps
  pub lines : text ≡ flat_map (journal_line format) entries
  pub told : (other : Format) → flat_map (journal_line other) entries ≡ flat_map (journal_line other) (entries_from s 0 history)
  pub again : (other : Format) (m : ℕ) → IsVerdictFrom other s m (flat_map (journal_line other) entries) (Legal steps)

pub entry_lawful : (s : State) (e : Entry) → HasLine e → IsRight s e → AreLawful s (entry_steps e)
entry_lawful s e has right =
    lawful_append s (due_steps e.dues) (Step.Call e.conn e.moment e.call ∷ []) right.dues.0
    (lawful_behind s e has right.ticket right.dues right.ready, tt)

pub entry_lines : (format : Format) (s : State) (e : Entry) (h : List Step) → IsRight s e
    → flat_map (journal_line format) (entries_from s 0 (entry_steps e ++ h))
    ≡ journal_line format e ++ flat_map (journal_line format) (entries_from (behind_entry s e) 0 h)
entry_lines format s e h right =
    let x : Step = Step.Call e.conn e.moment e.call in
    let at : State = behind_dues s e.dues in
    let reply : Reply = reply_of at e.conn e.moment e.call in
    let none : e.dues + 0 ≡ e.dues = omega arith in
    let moved : entries_from s 0 (entry_steps e ++ h) ≡ entries_from at e.dues (x ∷ h) =
    ap (entries_from s 0) (append_assoc (due_steps e.dues) (x ∷ []) h) ∙ entries_behind s 0 e.dues (x ∷ h) ∙ ap (λ m. entries_from at m (x ∷ h)) none in
    let behind : after_step at x ≡ behind_entry s e = sym (state_append s (due_steps e.dues) (x ∷ [])) in
    ap (flat_map (journal_line format)) moved
    ∙ ap (λ l. l ++ flat_map (journal_line format) (entries_from (after_step at x) 0 h)) (same_line format e reply right.reply)
    ∙ ap (λ y. journal_line format e ++ flat_map (journal_line format) (entries_from y 0 h)) behind

legal_count : (a b : ℕ) → Legal a ≡ Legal b → a ≡ b
legal_count a b e = ap count e
  where
    count : Verdict → ℕ
    count (Legal n) = n
    count _ = 0

pub plays : (format : Format) (s : State) (n : ℕ) (text : List ℕ) (v : Verdict) (steps : ℕ) → IsConsistent s → IsVerdictFrom format s n text v → v ≡ Legal steps
    → Plays format s text steps
plays format _ _ _ _ steps kept (AtEnd s n) e =
    let count = legal_count s.step_count steps e in
    record {
      entries = [];
      history = [];
      have = tt;
      lawful = tt;
      counted = omega (arith, count);
      lines = refl;
      told = λ other. refl;
      again = λ other m. subst (λ (v : Verdict). IsVerdictFrom other s m [] v) e (AtEnd s m);
    }
plays format _ _ _ _ steps kept (AtNoLine s n text full none) e = let never : ⊥ = cc in absurd never
plays format _ _ _ _ steps kept (AtWrongLine s n x rest old found has wrong) e = let never : ⊥ = cc in absurd never
plays format _ _ _ _ steps kept (AfterRightLine s n x rest v has right more) e =
    let lawful = entry_lawful s x has right in
    let behind = steps_counted s (entry_steps x) kept lawful in
    let on : Plays format (behind_entry s x) rest steps = plays format (behind_entry s x) (n + 1) rest v steps behind.0 more e in
    let count : (behind_entry s x).step_count ≡ s.step_count + length (entry_steps x) = behind.1 in
    record {
      entries = x ∷ on.entries;
      history = entry_steps x ++ on.history;
      have = (has, on.have);
      lawful = lawful_append s (entry_steps x) on.history lawful on.lawful;
      counted = omega (arith, on.counted, count, length-append (entry_steps x) on.history);
      lines = ap (λ l. journal_line format x ++ l) on.lines;
      told = λ other. ap (λ l. journal_line other x ++ l) (on.told other) ∙ sym (entry_lines other s x on.history right);
      again = λ other m. AfterRightLine s m x (flat_map (journal_line other) on.entries) (Legal steps) has right (on.again other (m + 1));
    }

-- how it plays from an opening on
pub plays_from : (format : Format) (charter : Charter) (n : ℕ) (text : List ℕ) (steps : ℕ) → IsCharter charter
    → IsVerdictFrom format (opening_state charter) n text (Legal steps) → Plays format (opening_state charter) text steps
plays_from format charter n text steps is said =
    plays format (opening_state charter) n text (Legal steps) steps (consistency_law charter [] (is, tt)) said refl

-- so it is a legal history's
pub legal_law : LegalLaw
legal_law given text steps is (r, read, said) = go text r read said
  where
    go : (text : List ℕ) (r : Reading) → IsReadAs given text r → IsVerdictFrom r.format (opening_state r.charter) r.first r.lines (Legal steps) → IsJournal given text steps
    go _ _ (BehindHeader seed opening rest h) said =
        let charter : Charter = record given { seed = seed; opening = opening } in
        let p : Plays Second (opening_state charter) rest steps = plays_from Second charter 2 rest steps (h.long, h.low) said in
        let count : 0 + length p.history ≡ steps = p.counted in (
          behind_header given seed opening rest,
          p.history,
          BehindHeader seed opening rest h,
          ((h.long, h.low), p.lawful),
          omega (arith, count),
          ap (λ l. header_line seed opening ++ l) (p.lines ∙ p.told Second),
        )
    go _ _ (WithoutHeader text none) said =
        let p : Plays First (opening_state given) text steps = plays_from First given 1 text steps is said in
        let count : 0 + length p.history ≡ steps = p.counted in
        (without_header given text, p.history, WithoutHeader text none, (is, p.lawful), omega (arith, count), p.lines ∙ p.told First)
