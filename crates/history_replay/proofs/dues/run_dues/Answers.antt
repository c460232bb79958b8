use Rattle.std.proofs.Common.{◌≡◌, ◌+◌, [], ◌∷◌, sym, ap, subst, ◌∙◌, inl, inr, true, false}
use Rattle.std.specs.Prelude.{◌⊎◌}
use Rattle.std.proofs.lemmas.Bool.{false≢true}
use Rattle.engine_text.specs.declared.entry.Entry.{Entry}
use Rattle.engine_text.specs.declared.step.Step.{Step}
use Rattle.machine_model.specs.History.{IsLawful}
use Rattle.journal_lines.specs.Due.{IsMomentFor}
use Rattle.history_replay.specs.Counting.{HasRun, IsPast, is_settled}
use Rattle.history_replay.specs.Standing.{Standing, behind}
use Rattle.history_replay.proofs.CountLemmas.{run_first, run_more, run_other}
use Rattle.history_replay.proofs.StandingLemmas.{behind_none, behind_more}
use Rattle.history_replay.proofs.dues.run_dues.Goals.{then-dues-test+else-not-is_past, else-dues-test, else-serves-via-then-serves+else-count-entry, else-serves-via-else-serves}
use Rattle.history_replay.proofs.dues.run_dues.Goals as goal

pub dues-init : goal.dues-init
dues-init g c =
    let s : Standing = g.M.Replays.standing c.args.machine.now in
    record {
      run = subst (λ o. HasRun s.state c.args.entry.now s.state 0 o) (sym c.first_of-least.ensures)
          (run_first s.state c.args.entry.now c.is_timed-serves.result c.is_timed-serves.ensures);
      stands = sym (behind_none s);
      timed = c.is_timed-serves.ensures;
    }

pub dues-preserved : goal.dues-preserved
dues-preserved g c =
    let s : Standing = g.M.Replays.standing c.args.machine.now in
    let e : Entry = c.args.entry.now in
    let now : Standing = g.M.Replays.standing c.dues.machine in
    let next : Standing = g.M.Replays.standing c.step_on.new.machine in
    let more : is_settled c.dues.least c.dues.count e.dues ≡ false = cc in
    let lawful : IsLawful now.state Step.Due = c.is_past.ensures.on cc in
    let made : next ≡ behind now (Step.Due ∷ []) = c.in_ok-step_on.ensures.made in
    record {
      run = subst (λ o. HasRun s.state e next.state (c.dues.count + 1) o) (sym c.first_of-least-in-dues.ensures)
          (run_more s.state e now.state next.state c.dues.count c.dues.least c.is_timed-serves-in-dues.result c.dues.invariant.run more lawful
          (ap (λ (y : Standing). y.state) made) c.in_ok-step_on.ensures.counted c.is_timed-serves-in-dues.ensures);
      stands = behind_more s now next c.dues.count c.dues.invariant.stands made;
      timed = c.is_timed-serves-in-dues.ensures;
    }

pub returns : goal.returns
returns g c =
    let s : Standing = g.M.Replays.standing c.args.machine.now in
    let e : Entry = c.args.entry.now in
    let now : Standing = g.M.Replays.standing c.dues.machine in
    let end : (is_settled c.dues.least c.dues.count e.dues ≡ true) ⊎ IsPast now.state e = elim c.dues-test.branch [
      | then-dues-test+else-not-is_past w ↦ inr (w.is_past.ensures.past cc)
      | else-dues-test w ↦ inl cc
    ] in
    let other : c.dues.count ≡ e.dues → IsMomentFor now.state e.moment e.call → ⊥ = elim c.else-serves.branch [
      | else-serves-via-then-serves+else-count-entry w ↦ λ is timed. w.if-count-entry.false is
      | else-serves-via-else-serves w ↦ λ is timed. false≢true (sym w.if-serves.false ∙ c.dues.invariant.timed.1 timed)
    ] in
    run_other s now e c.dues.count c.dues.least c.dues.invariant.run end other c.in_ok-found.found c.in_ok-found.ensures
