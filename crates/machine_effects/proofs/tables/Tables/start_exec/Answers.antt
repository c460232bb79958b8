use Rattle.std.proofs.Common.{sym, ◌∙◌, ap}
use Rattle.machine_events.specs.ExecStarts.{exec_begun}
use Rattle.machine_events.proofs.ExecStartLemmas.{start_none, start_some}
use Rattle.machine_effects.proofs.tables.Tables.start_exec.Goals as goal

pub returns-in_default-clause-state : goal.returns-in_default-clause-state
returns-in_default-clause-state c = start_none c.args.number c.args.script c.args.detach c.args.self.now.state (sym c.in_default.ensures)

pub returns-clause-state : goal.returns-clause-state
returns-clause-state c =
    c.begin_exec.ensures.state
    ∙ (ap (λ b. exec_begun c.args.number c.args.script b c.args.self.now.state) c.has_input-stdin.ensures
    ∙ start_some c.args.number c.args.script c.args.detach c.args.self.now.state c.in-Some.exec.now (sym c.in-Some.ensures))
