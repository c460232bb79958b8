use Rattle.std.proofs.Common.{arith}
use Rattle.stream_frame.proofs.AddLemmas.{adds_as}
use Rattle.stream_frame.proofs.demux.Demux.push.Goals as goal

pub returns-clause-adds : goal.returns-clause-adds
returns-clause-adds c = adds_as c.args.self.now _ c.pass.new.self c.args.piece.now (λ i. let fits = c.type_inv.piece i in omega arith) c.self.view_is c.pass.ensures
