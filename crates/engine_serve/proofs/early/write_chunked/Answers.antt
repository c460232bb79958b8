use Rattle.std.proofs.Common.{rules, ◌<◌, length}
use Rattle.engine_serve.proofs.EarlyLemmas.{behind_chunk}
use Rattle.engine_serve.proofs.early.write_chunked.Goals as goal

pub returns : goal.returns
returns g c =
    let some : 0 < length c.args.body.now = search rules in
    behind_chunk c.args.body.now tt c.write_last-2.result _ _ _ some c.in_ok-write_chunk.ensures c.write_last-2.ensures
