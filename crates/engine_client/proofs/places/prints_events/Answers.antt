use Rattle.std.proofs.Common.{refl}
use Rattle.engine_client.proofs.StepLemmas.{rows_go, rows_fail}
use Rattle.engine_client.proofs.places.prints_events.Goals as goal

pub returns-in-Ok : goal.returns-in-Ok
returns-in-Ok c = rows_go _ c.args.body.now.items c.in-Ok.rows _ _ c.deref.ensures.value c.in-Ok.ensures refl c.prints_rows.ensures

pub returns-in-Err : goal.returns-in-Err
returns-in-Err c = rows_fail _ c.args.body.now.items c.in-Err.fault c.deref.ensures.value c.in-Err.ensures
