use Rattle.std.proofs.Common.{subst, sym, ◌∙◌}
use Rattle.machine_events.specs.Fit.{CanSettle}
use Rattle.machine_events.specs.Memory.{Room}
use Rattle.machine_events.proofs.SettleLemmas.{settle_ended}
use Rattle.machine_effects.proofs.tables.Tables.end_main.Goals as goal

pub conclude-requires-clause-fit : goal.conclude-requires-clause-fit
conclude-requires-clause-fit c =
    subst (λ (r : Room). CanSettle c.args.number c.args.brought r c.clear_deadlines.new.self.state) (sym (c.clear_deadlines.ensures.room ∙ (c.die.ensures.room ∙ c.end_execs.ensures.room)))
    (settle_ended c.args.number c.args.brought c.args.self.now.room c.args.code c.args.self.now.state c.end_execs.new.self.state c.die.new.self.state c.clear_deadlines.new.self.state
    c.requires.fit c.end_execs.ensures.state c.die.ensures.state c.clear_deadlines.ensures.state)
