use Rattle.std.proofs.Common.{refl}
use Rattle.container_table.specs.Logs.{container_in}
use Rattle.changing_calls.proofs.ExecStartLemmas.{makes_start}
use Rattle.changing_calls.proofs.execs.start.prepare_spawn.Goals as goal

pub returns : goal.returns
returns c = makes_start _ c.args.moment c.args.tables.now.state (container_in c.args.h.now) c.args.exec.now c.args.script c.args.detach c.start_reply-reply.result c.new-events.result.items c.in_ok-event.event
    c.requires.stands c.requires.own c.requires.named refl refl refl c.start_reply-reply.ensures c.new-events.ensures.items c.in_ok-add.ensures c.in_ok-event.ensures
