use Rattle.std.proofs.Common.{sym, ◌∙◌, ◌<◌, ◌^◌, arith}
use Rattle.container_table.specs.Logs.{container_in}
use Rattle.machine_effects.proofs.DueLemmas.{restarts_counted, none_counted}
use Rattle.machine_effects.proofs.tables.Tables.count_restart.Goals as goal

pub returns-in_default-clause-state : goal.returns-in_default-clause-state
returns-in_default-clause-state c = none_counted c.args.number c.args.self.now.state (sym c.in_default.ensures)

pub returns-clause-state : goal.returns-clause-state
returns-clause-state c = c.renew.ensures.state ∙ restarts_counted c.args.number c.args.self.now.state (container_in c.in-Some.h.now) (sym c.in-Some.ensures)

pub overflow_add-count : goal.overflow_add-count
overflow_add-count c = let few : c.in-Some.h.now.container.life.restarts < 2 ^ 63 = c.requires (container_in c.in-Some.h.now) (sym c.in-Some.ensures) in omega (arith, few)
