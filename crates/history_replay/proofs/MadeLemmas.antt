-- Where lines are legal, the steps that they tell were made.
use Rattle.std.proofs.Common.{◌≡◌, ◌++◌, ℕ, List, [], sym, ap, subst, ◌∙◌, Some, None}
use Rattle.std.specs.List.{flat_map}
use Rattle.machine_model.specs.State.{State}
use Rattle.machine_model.specs.History.{AreLawful}
use Rattle.machine_model.proofs.Histories.{lawful_append}
use Rattle.journal_lines.specs.Entries.{entries_from}
use Rattle.journal_lines.specs.JournalLines.{journal_line}
use Rattle.journal_lines.specs.Stored.{entry_steps}
use Rattle.journal_lines.specs.Entry.{behind_entry}
use Rattle.journal_lines.specs.Verdict.{IsVerdictFrom}
use Rattle.journal_lines.specs.declared.format.Format.{Format}
use Rattle.journal_lines.specs.declared.verdict.Verdict.{Verdict}
use Rattle.journal_lines.specs.declared.verdict.Verdict.TheVariants.{Legal, Illegal, BadLine}
use Rattle.history_replay.specs.Checking.{IsLineSaid, IsMade}
use Rattle.history_replay.specs.Standing.{Standing, behind}
use Rattle.history_replay.proofs.LegalLemmas.{entry_lawful, entry_lines}
use Rattle.history_replay.proofs.StandingLemmas.{behind_none, behind_append}

-- ---- a line that is right

more_made : (format : Format) (s after end : Standing) (n : ℕ) (line rest : List ℕ) (steps : ℕ) → IsLineSaid format s n line after None
    → IsMade format after rest end (Legal steps) → IsMade format s (line ++ rest) end (Legal steps)
more_made format s after end n line rest steps (e, has, is, right, at) (h, (lawful, lines), to, count) =
    let state : after.state ≡ behind_entry s.state e = ap (λ (y : Standing). y.state) at in
    let here : AreLawful (behind_entry s.state e) h = subst (λ (y : State). AreLawful y h) state lawful in
    let told : rest ≡ flat_map (journal_line format) (entries_from (behind_entry s.state e) 0 h) =
    lines ∙ ap (λ (y : State). flat_map (journal_line format) (entries_from y 0 h)) state in
    let all : line ++ rest ≡ flat_map (journal_line format) (entries_from s.state 0 (entry_steps e ++ h)) =
    ap (λ l. l ++ rest) (sym is) ∙ ap (λ l. journal_line format e ++ l) told ∙ sym (entry_lines format s.state e h right) in (
      entry_steps e ++ h,
      (lawful_append s.state (entry_steps e) h (entry_lawful s.state e has right) here, all),
      to ∙ ap (λ (y : Standing). behind y h) at ∙ behind_append s (entry_steps e) h,
      count,
    )

pub made_on : (format : Format) (s after end : Standing) (n : ℕ) (line rest : List ℕ) (v : Verdict) → IsLineSaid format s n line after None
    → IsMade format after rest end v → IsMade format s (line ++ rest) end v
made_on format s after end n line rest (Legal steps) said made = more_made format s after end n line rest steps said made
made_on format s after end n line rest (Illegal m kept found) said made = tt
made_on format s after end n line rest (BadLine m) said made = tt

-- ---- a line that isn't

pub said_all : (format : Format) (s after : Standing) (n : ℕ) (line rest : List ℕ) (v : Verdict) → IsLineSaid format s n line after (Some v)
    → IsVerdictFrom format s.state n (line ++ rest) v
said_all format s after n line rest (Legal steps) never = absurd never
said_all format s after n line rest (Illegal m kept found) said = said rest
said_all format s after n line rest (BadLine m) said = said rest

pub none_made : (format : Format) (s after before end : Standing) (n : ℕ) (line text : List ℕ) (v : Verdict)
    → IsLineSaid format s n line after (Some v) → IsMade format before text end v
none_made format s after before end n line text (Legal steps) never = absurd never
none_made format s after before end n line text (Illegal m kept found) said = tt
none_made format s after before end n line text (BadLine m) said = tt

-- ---- the end

pub all_made : (format : Format) (s : Standing) (text : List ℕ) (steps : ℕ) → text ≡ [] → steps ≡ s.state.step_count
    → IsMade format s text s (Legal steps)
all_made format s text steps none count = ([], (tt, none), sym (behind_none s), sym count)
