use Rattle.engine_client.proofs.watching.fold_event.Goals as goal

pub returns-in-Ok : goal.returns-in-Ok
returns-in-Ok c = λ meaning is. (c.args.event.now, is, c.in-Ok.ensures)

pub returns-in-Err : goal.returns-in-Err
returns-in-Err c = λ meaning is. tt
