use Rattle.std.proofs.Common.{sym, ◌∙◌}
use Rattle.container_machine.proofs.DueFoundLemmas.{last_rank}
use Rattle.machine_model.proofs.RankLemmas.{op_rank, removal_rank, restart_rank, stop_rank}
use Rattle.container_machine.proofs.due.prepare.Goals as goal

pub prepare_op-requires-clause-rank : goal.prepare_op-requires-clause-rank
prepare_op-requires-clause-rank c = op_rank c.args.due.rank (sym c.numbered.ensures ∙ c.in-Op.is)

pub prepare_stop_deadline-requires-clause-rank : goal.prepare_stop_deadline-requires-clause-rank
prepare_stop_deadline-requires-clause-rank c = stop_rank c.args.due.rank (sym c.numbered.ensures ∙ c.in-StopDeadline.is)

pub removal_deadline-requires : goal.removal_deadline-requires
removal_deadline-requires c = removal_rank c.args.due.rank (sym c.numbered.ensures ∙ c.in-RemovalDeadline.is)

pub returns-in-RemovalDeadline : goal.returns-in-RemovalDeadline
returns-in-RemovalDeadline c = c.removal_deadline.ensures c.args.tables.now.state

pub prepare_restart_timer-requires-clause-rank : goal.prepare_restart_timer-requires-clause-rank
prepare_restart_timer-requires-clause-rank c =
    let other = restart_rank c.args.due.rank (sym c.numbered.ensures ∙ c.in-RestartTimer.is) in
    last_rank c.args.tables.now.state c.args.due c.requires.kept c.requires.least other.0 other.1 other.2
