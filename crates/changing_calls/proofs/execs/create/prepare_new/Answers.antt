use Rattle.std.proofs.Common.{refl}
use Rattle.container_table.specs.Logs.{container_in}
use Rattle.changing_calls.proofs.ExecLemmas.{makes_exec}
use Rattle.changing_calls.proofs.execs.create.prepare_new.Goals as goal

pub returns : goal.returns
returns c =
    makes_exec _ c.args.moment c.args.tables.now.state (container_in c.args.h.now) c.in_ok-exec.exec c.args.asked.now.words.now c.args.asked.now.stdin c.args.asked.now.out c.args.asked.now.err
    c.in_ok-body.body c.new-events.result.items c.in_ok-event.event
    c.requires c.in_ok-exec.ensures refl refl refl c.in_ok-body.ensures c.new-events.ensures.items c.in_ok-add.ensures c.in_ok-event.ensures
