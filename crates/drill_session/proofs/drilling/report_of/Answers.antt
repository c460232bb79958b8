use Rattle.std.proofs.Common.{◌≡◌, ◌∙◌, ℕ, List, length, ap, sym, subst}
use Rattle.std.specs.Prelude.{All}
use Rattle.machine_model.specs.History.{Charter, IsLegal, events_of, state_after}
use Rattle.journal_lines.specs.Entries.{history_entries}
use Rattle.journal_lines.specs.FitsTypes.{EntryFitsTypes}
use Rattle.journal_lines.specs.Verdict.{IsVerdict}
use Rattle.history_replay.specs.Checking.{charter_of}
use Rattle.history_replay.specs.Legal.{journal_of, steps_told}
use Rattle.journal_lines.specs.declared.format.Format.TheVariants.{Second}
use Rattle.journal_lines.specs.declared.verdict.Verdict.{Verdict}
use Rattle.journal_lines.specs.declared.verdict.Verdict.TheVariants.{Legal}
use Rattle.daemon_core.specs.Keeping.{history_of}
use Rattle.daemon_core.specs.Passing.{charter}
use Rattle.drill_model.specs.Answers.{counts_of}
use Rattle.drill_model.specs.Report.{report_by}
use Rattle.drill_session.specs.Running.{charter_by}
use Rattle.drill_session.proofs.drilling.report_of.Goals as goal

pub returns : goal.returns
returns c =
    let d = c.args.daemon.now in
    let ch = charter_by c.args.drill in
    let h = history_of d.stored.journal in
    let same : charter d ≡ ch = c.requires.charter in
    let told = c.in_ok-counts.ensures in
    let n : ℕ = c.args.drill.requests in
    let verdict = c.in_ok-verdict.verdict in
    let text : c.deref.result.now ≡ journal_of Second ch h = c.deref.ensures.value ∙ c.in_ok-journal.ensures ∙ ap (λ (x : Charter). journal_of Second x h) same in
    let legal : IsLegal ch h = subst (λ (x : Charter). IsLegal x h) same d.legal in
    let texts : All EntryFitsTypes (history_entries ch h) = subst (λ (x : Charter). All EntryFitsTypes (history_entries x h)) same c.texts.ensures in
    let given : Charter = charter_of c.args.drill.seed c.args.drill.opening in
    let said : IsVerdict given (journal_of Second ch h) verdict = subst (λ (l : List ℕ). IsVerdict given l verdict) text c.in_ok-verdict.ensures in
    let whole = (c.law_complete.ensures ch h legal texts).1 c.seed_bytes.ensures.bytes in
    let sound : verdict ≡ Legal (steps_told ch h) =
    c.law_one_verdict.ensures given (journal_of Second ch h) verdict (Legal (steps_told ch h)) said (whole given) in
    record {
      statuses = told.0;
      answered = told.1;
      verdict = verdict;
      judged = subst (λ (v : Verdict). IsVerdict ch (journal_of Second ch h) v) (sym sound) (whole ch);
      legal = sound;
      text_is =
          c.from_string.ensures ∙ c.in_ok-text.ensures
          ∙ ap (λ (l : List ℕ). report_by n l c.counts-events.result.0 c.counts-events.result.1 verdict) (c.deref-2.ensures.value ∙ told.2)
          ∙ ap (λ (e : ℕ). report_by n (counts_of told.0) e c.counts-events.result.1 verdict) (c.counts-events.ensures.events ∙ ap (λ (x : Charter). length (events_of x h)) same)
          ∙ ap (λ (k : ℕ). report_by n (counts_of told.0) (length (events_of ch h)) k verdict) (c.counts-events.ensures.containers ∙ ap (λ (x : Charter). length (state_after x h).containers) same);
    }
