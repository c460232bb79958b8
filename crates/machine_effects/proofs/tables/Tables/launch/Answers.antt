use Rattle.std.proofs.Common.{sym, ◌∙◌, ap}
use Rattle.container_table.specs.Logs.{container_in}
use Rattle.machine_events.specs.Effects.EndMain.{begun}
use Rattle.machine_events.proofs.SettleLemmas.{launch_none, launch_some}
use Rattle.machine_effects.proofs.tables.Tables.launch.Goals as goal

pub returns-in_default-script-clause-state : goal.returns-in_default-script-clause-state
returns-in_default-script-clause-state c =
    launch_none c.args.number c.args.self.now.state (container_in c.in-Some.h.now) (sym c.in-Some.ensures)
    (sym (c.requires.fit.named (container_in c.in-Some.h.now) (sym c.in-Some.ensures)) ∙ c.in_default-script.is)

pub returns-clause-state : goal.returns-clause-state
returns-clause-state c =
    c.begin.ensures.state
    ∙ (ap (λ k. begun c.args.number c.in-Some-script.script c.in-Some.h.now.container.life.open_stdin k c.args.self.now.state) c.bytes_left-room.ensures ∙ launch_some c.args.number c.args.self.now.state (container_in c.in-Some.h.now) c.in-Some-script.script (sym c.in-Some.ensures)
    (sym (c.requires.fit.named (container_in c.in-Some.h.now) (sym c.in-Some.ensures)) ∙ c.in-Some-script.is))
