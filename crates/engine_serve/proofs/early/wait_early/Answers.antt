use Rattle.engine_serve.proofs.AskLemmas.{begun_inside, early_at, early_lost}
use Rattle.engine_serve.proofs.early.wait_early.Goals.{in-Replied+in-Answer-1, in-Replied+in-EventStream-1, in-Replied+in-Begun-1, in-Stopped-1}
use Rattle.engine_serve.proofs.early.wait_early.Goals as goal

pub await_ticket-awaited-requires-clause-begun : goal.await_ticket-awaited-requires-clause-begun
await_ticket-awaited-requires-clause-begun g c κs within = begun_inside c.args.ticket _ _ c.conn.view_is c.requires.begun

pub drop_ticket-requires-clause-begun : goal.drop_ticket-requires-clause-begun
drop_ticket-requires-clause-begun g c κs within = begun_inside c.args.ticket _ _ c.conn.view_is c.requires.begun

pub returns-in-Ok-clause-waits : goal.returns-in-Ok-clause-waits
returns-in-Ok-clause-waits g c =
    let waits =
    early_at c.args.ticket c.args.terms c.await_ticket-awaited.result c.send_late.result _ _ _ _ _ _ c.conn.view_is c.in-Ok.ensures
    c.await_ticket-awaited.ensures.awaits c.conn-in-Ok.view_is c.send_late.ensures in
    elim c.match-awaited.branch [
      | in-Replied+in-Answer-1 w ↦ rw (w.conn-is) waits
      | in-Replied+in-EventStream-1 w ↦ rw (w.conn-is) waits
      | in-Replied+in-Begun-1 w ↦ rw (w.conn-is) waits
      | in-Stopped-1 w ↦ rw (w.conn-is) waits
    ]

pub returns-in-Err-clause-waits : goal.returns-in-Err-clause-waits
returns-in-Err-clause-waits g c =
    early_lost c.args.ticket c.args.terms c.in-Err.field-0 _ _ _ _ c.conn.view_is c.in-Err.ensures c.drop_ticket.ensures
