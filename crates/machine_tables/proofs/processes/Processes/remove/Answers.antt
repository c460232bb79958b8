use Rattle.std.proofs.Common.{◌∙◌, ap, sym, arith, length}
use Rattle.machine_tables.proofs.ProcessLemmas.{dues_of, fewer_without}
use Rattle.machine_tables.proofs.processes.Processes.remove.Goals as goal

pub leave-requires : goal.leave-requires
leave-requires c = c.self.invariant.dues

pub invariant_of-self : goal.invariant_of-self
invariant_of-self c =
    let fewer = fewer_without c.args.owner c.self.inside.kernel.processes in
    let same = ap length c.remove.ensures.processes in
    record {
      dues = c.leave.ensures.actions ∙ ap dues_of (sym c.remove.ensures.processes);
      spare = omega (arith, c.self.invariant.spare, c.remove.ensures.spare);
      places = omega (arith, c.self.invariant.places, fewer, same, c.leave.ensures.places);
    }
