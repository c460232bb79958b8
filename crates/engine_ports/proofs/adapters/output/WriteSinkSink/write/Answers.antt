use Rattle.std.proofs.Common.{◌++◌, take}
use Rattle.engine_ports.proofs.WriterLemmas.{left_on, appends_on}
use Rattle.engine_ports.proofs.adapters.output.WriteSinkSink.write.Goals as goal

pub loop-rest-preserved : goal.loop-rest-preserved
loop-rest-preserved g c =
    let before = c.loop-rest.invariant in
    let part = before.1 in
    let more = take c.in-Ok.count c.loop-rest.rest.now in (
      before.0,
      part ++ more,
      left_on part c.loop-rest.rest.now c.args.piece.now c.in-Ok.count before.2,
      appends_on _ _ _ part more before.3 c.in-Ok.ensures.bytes,
    )
