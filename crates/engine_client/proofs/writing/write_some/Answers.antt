use Rattle.engine_client.proofs.PerformLemmas.{wrote_all, wrote_part}
use Rattle.engine_client.proofs.writing.write_some.Goals as goal

pub returns-in-Ok : goal.returns-in-Ok
returns-in-Ok g c = λ link e some. wrote_all c.args.text.now c.args.status c.in-Ok.field-0 link _ _ e c.in-Ok.ensures

pub returns-in-Err : goal.returns-in-Err
returns-in-Err g c = λ link e some. wrote_part c.args.text.now c.args.status c.in-Err.field-0 link _ _ e some c.in-Err.ensures
