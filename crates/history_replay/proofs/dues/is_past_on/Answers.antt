use Rattle.std.proofs.Common.{◌<◌, arith}
use Rattle.history_replay.proofs.RunLemmas.{past_clock}
use Rattle.history_replay.proofs.dues.is_past_on.Goals as goal

pub returns-then-entry-now-clause-past : goal.returns-then-entry-now-clause-past
returns-then-entry-now-clause-past c = λ _.
    let late : c.args.entry.now.moment < c.args.machine.now.memory.state.clock = omega (arith, c.if-entry-now.true, c.now.ensures.clock) in
    past_clock c.args.machine.now.memory.state c.args.entry.now c.kept.ensures.state late
