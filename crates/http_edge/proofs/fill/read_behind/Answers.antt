use Rattle.std.proofs.Common.{arith, ◌≤◌, length}
use Rattle.http_edge.proofs.ReadLemmas.{reads_behind}
use Rattle.http_edge.proofs.fill.read_behind.Goals as goal

pub returns-clause-reads : goal.returns-clause-reads
returns-clause-reads g c =
    let fits : c.args.len ≤ length c.args.buffer.now = omega arith in
    reads_behind c.read.result _ _ _ _ _ _ fits c.read.ensures
