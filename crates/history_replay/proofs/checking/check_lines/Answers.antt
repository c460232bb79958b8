use Rattle.std.proofs.Common.{◌≡◌, ◌<◌, ◌+◌, ◌++◌, ℕ, List, length, length-append, None, sym, ap, subst, ◌∙◌, arith}
use Rattle.machine_model.specs.State.{State}
use Rattle.journal_lines.specs.JournalLines.{format_of}
use Rattle.journal_lines.specs.Verdict.{IsVerdictFrom}
use Rattle.journal_lines.specs.declared.format.Format.{Format}
use Rattle.journal_lines.specs.declared.verdict.Verdict.TheVariants.{Legal, BadLine}
use Rattle.history_replay.specs.Checking.{IsLineSaid, IsMade}
use Rattle.history_replay.specs.Standing.{Standing}
use Rattle.history_replay.proofs.MadeLemmas.{made_on, all_made}
use Rattle.history_replay.proofs.VerdictLemmas.{said_on, no_line, first_some, no_text, some_text, at_end}
use Rattle.history_replay.proofs.checking.check_lines.Goals as goal

pub returns-in_default-clause-said : goal.returns-in_default-clause-said
returns-in_default-clause-said g c =
    let s : Standing = g.M.Replays.standing c.lines.machine in
    let text : List ℕ = c.lines.rest.now in
    c.lines.invariant.said (BadLine c.lines.line)
    (no_line (format_of c.args.format) s.state c.lines.line text (some_text text (sym c.is_empty.ensures ∙ c.lines-test.true)) c.in_default.ensures.none)

pub lines-preserved : goal.lines-preserved
lines-preserved g c =
    let s : Standing = g.M.Replays.standing c.lines.machine in
    let after : Standing = g.M.Replays.standing c.check_line.new.machine in
    let n : ℕ = c.lines.line in
    let format : Format = format_of c.args.format in
    let line : List ℕ = c.in-Some.bytes.now in
    let behind : List ℕ = c.in-Some.behind.now in
    let whole : line ++ behind ≡ c.lines.rest.now = c.in-Some.ensures.whole in
    let said : IsLineSaid format s n line after None = subst (IsLineSaid format s n line after) c.in_default-2.is c.in_ok-verdict.ensures in
    let long : 0 < length line = first_some line c.in-Some.ensures.line in
    let all : length line + length behind ≡ length c.lines.rest.now = sym (length-append line behind) ∙ ap length whole in
    record {
      said = λ v h. c.lines.invariant.said v (subst (λ l. IsVerdictFrom format s.state n l v) whole (said_on format s after n line behind v said h));
      made = λ end v h. c.lines.invariant.made end v (subst (λ l. IsMade format s l end v) whole (made_on format s after end n line behind v said h));
      counted = omega (arith, c.lines.invariant.counted, long, all);
    }

pub returns-clause-said : goal.returns-clause-said
returns-clause-said g c =
    let s : Standing = g.M.Replays.standing c.lines.machine in
    let steps : ℕ = c.steps-steps.result in
    c.lines.invariant.said (Legal steps)
    (at_end (format_of c.args.format) s.state c.lines.line c.lines.rest.now steps (sym c.is_empty.ensures ∙ c.lines-test.false)
    (c.steps-steps.ensures ∙ ap (λ (y : State). y.step_count) c.bare.ensures))

pub returns-clause-made : goal.returns-clause-made
returns-clause-made g c =
    let s : Standing = g.M.Replays.standing c.lines.machine in
    let steps : ℕ = c.steps-steps.result in
    c.lines.invariant.made s (Legal steps)
    (all_made (format_of c.args.format) s c.lines.rest.now steps (no_text c.lines.rest.now (sym c.is_empty.ensures ∙ c.lines-test.false))
    (c.steps-steps.ensures ∙ ap (λ (y : State). y.step_count) c.bare.ensures))
