use Rattle.std.proofs.Common.{◌∙◌, ap, length, filter}
use Rattle.exec_table.specs.Execs.{ExecTable, is_output_of}
use Rattle.exec_table.proofs.OwnLemmas.{count_passing}
use Rattle.exec_table.proofs.OwnerLemmas.{owned_count, owned_rise}
use Rattle.exec_table.proofs.execs.Execs.count_of.Goals as goal

pub count_of-requires : goal.count_of-requires
count_of-requires c = owned_rise c.self.inside.rows.items c.self.inside.owned.items c.self.invariant.order c.self.invariant.owned

pub returns : goal.returns
returns c =
    c.count_of.ensures
    ∙ owned_count c.args.container c.self.inside.rows.items c.self.inside.owned.items c.self.invariant.order c.self.invariant.owned
    ∙ count_passing c.args.container c.self.inside.rows.items c.self.invariant.order
    ∙ ap (λ (t : ExecTable). length (filter (is_output_of c.args.container t.execs) t.outputs)) c.self.view_is
