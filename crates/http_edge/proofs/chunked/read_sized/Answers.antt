use Rattle.std.proofs.Common.{arith, ◌<◌, ◌+◌, length}
use Rattle.http_edge.proofs.ChunkingLemmas.{too_long}
use Rattle.http_edge.proofs.chunked.read_sized.Goals as goal

pub returns-then-size-len-clause-says : goal.returns-then-size-len-clause-says
returns-then-size-len-clause-says g c =
    let long : 1048576 < length c.args.body.now.items + c.args.size = omega arith in
    too_long c.args.size c.args.count c.args.ahead.now c.args.body.now.items _ long
