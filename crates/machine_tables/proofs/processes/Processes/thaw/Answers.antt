use Rattle.std.proofs.Common.{arith}
use Rattle.proc_kernel.specs.Processes.{thaw}
use Rattle.machine_tables.proofs.ProcessLemmas.{as_many, others_due}
use Rattle.machine_tables.proofs.processes.Processes.thaw.Goals as goal

pub leave-requires : goal.leave-requires
leave-requires c = c.self.invariant.dues

pub enter-requires-clause-others : goal.enter-requires-clause-others
enter-requires-clause-others c = others_due c.args.owner (λ p. (thaw c.args.moment p).process) c.self.inside.kernel.processes c.thaw-effect.new.self.processes c.leave.new.dues.actions c.thaw-effect.ensures.processes c.leave.ensures.actions

pub enter-requires-clause-room : goal.enter-requires-clause-room
enter-requires-clause-room c =
    let same = as_many c.args.owner (λ p. (thaw c.args.moment p).process) c.self.inside.kernel.processes c.thaw-effect.new.self.processes c.thaw-effect.ensures.processes in
    omega (arith, c.self.invariant.places, same, c.leave.ensures.places)

pub invariant_of-self : goal.invariant_of-self
invariant_of-self c =
    let same = as_many c.args.owner (λ p. (thaw c.args.moment p).process) c.self.inside.kernel.processes c.thaw-effect.new.self.processes c.thaw-effect.ensures.processes in
    record {
      dues = c.enter.ensures.actions;
      spare = omega (arith, c.self.invariant.spare, c.thaw-effect.ensures.spare);
      places = omega (arith, c.self.invariant.places, same, c.leave.ensures.places, c.enter.ensures.places);
    }
