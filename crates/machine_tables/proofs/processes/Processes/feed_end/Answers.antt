use Rattle.std.proofs.Common.{arith}
use Rattle.proc_kernel.specs.Processes.{feed_end}
use Rattle.machine_tables.proofs.ProcessLemmas.{as_many, others_due}
use Rattle.machine_tables.proofs.processes.Processes.feed_end.Goals as goal

pub leave-requires : goal.leave-requires
leave-requires c = c.self.invariant.dues

pub enter-requires-clause-others : goal.enter-requires-clause-others
enter-requires-clause-others c = others_due c.args.owner (feed_end c.args.moment) c.self.inside.kernel.processes c.feed_end.new.self.processes c.leave.new.dues.actions c.feed_end.ensures.processes c.leave.ensures.actions

pub enter-requires-clause-room : goal.enter-requires-clause-room
enter-requires-clause-room c =
    let same = as_many c.args.owner (feed_end c.args.moment) c.self.inside.kernel.processes c.feed_end.new.self.processes c.feed_end.ensures.processes in
    omega (arith, c.self.invariant.places, same, c.leave.ensures.places)

pub invariant_of-self : goal.invariant_of-self
invariant_of-self c =
    let same = as_many c.args.owner (feed_end c.args.moment) c.self.inside.kernel.processes c.feed_end.new.self.processes c.feed_end.ensures.processes in
    record {
      dues = c.enter.ensures.actions;
      spare = omega (arith, c.self.invariant.spare, c.feed_end.ensures.spare);
      places = omega (arith, c.self.invariant.places, same, c.leave.ensures.places, c.enter.ensures.places);
    }
