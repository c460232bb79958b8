use Rattle.std.proofs.Common.{◌<◌, ap, arith, subst, sym}
use Rattle.proc_kernel.specs.Tables.{Table}
use Rattle.proc_kernel.specs.Processes.{feed}
use Rattle.machine_tables.proofs.ProcessLemmas.{as_many, others_due}
use Rattle.machine_tables.proofs.processes.Processes.feed.Goals as goal

pub leave-requires : goal.leave-requires
leave-requires c = c.self.invariant.dues

pub enter-requires-clause-others : goal.enter-requires-clause-others
enter-requires-clause-others c = others_due c.args.owner (feed c.args.piece c.args.moment) c.self.inside.kernel.processes c.feed.new.self.processes c.leave.new.dues.actions c.feed.ensures.processes c.leave.ensures.actions

pub enter-requires-clause-room : goal.enter-requires-clause-room
enter-requires-clause-room c =
    let same = as_many c.args.owner (feed c.args.piece c.args.moment) c.self.inside.kernel.processes c.feed.new.self.processes c.feed.ensures.processes in
    omega (arith, c.self.invariant.places, same, c.leave.ensures.places)

pub invariant_of-self : goal.invariant_of-self
invariant_of-self c =
    let same = as_many c.args.owner (feed c.args.piece c.args.moment) c.self.inside.kernel.processes c.feed.new.self.processes c.feed.ensures.processes in
    record {
      dues = c.enter.ensures.actions;
      spare = omega (arith, c.self.invariant.spare, c.feed.ensures.spare);
      places = omega (arith, c.self.invariant.places, same, c.leave.ensures.places, c.enter.ensures.places);
    }

pub feed-requires : goal.feed-requires
feed-requires c = let some : 0 < c.self.inside.spare = subst (λ (t : Table). 0 < t.spare) (sym c.self.view_is) c.requires in omega (arith, some, c.self.invariant.spare)

pub returns-clause-spare : goal.returns-clause-spare
returns-clause-spare c =
    let some : 0 < c.self.inside.spare = subst (λ (t : Table). 0 < t.spare) (sym c.self.view_is) c.requires in
    let same = ap (λ (t : Table). t.spare) c.self.view_is in
    omega (arith, some, same)
