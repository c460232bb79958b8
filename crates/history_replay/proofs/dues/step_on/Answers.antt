use Rattle.std.proofs.Common.{◌∙◌, ap}
use Rattle.history_replay.specs.Standing.{Standing}
use Rattle.history_replay.proofs.RunLemmas.{due_counted}
use Rattle.history_replay.proofs.dues.step_on.Goals as goal

pub returns-clause-counted : goal.returns-clause-counted
returns-clause-counted g c =
    let s : Standing = g.M.Replays.standing c.args.machine.now in
    ap (λ (y : Standing). y.state.step_count) c.in_ok-step_due.ensures.made ∙ due_counted s.state c.requires
