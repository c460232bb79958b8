use Rattle.std.proofs.Common.{arith}
use Rattle.std.specs.Prelude.{true}
use Rattle.request_pieces.proofs.ChunkLemmas.{chunk_open, chunk_whole, chunk_part, grown_less}
use Rattle.request_pieces.proofs.chunks.take_bytes.Goals as goal

pub grow_to-requires-clause-fits : goal.grow_to-requires-clause-fits
grow_to-requires-clause-fits c = let h = c.requires.1 in (chunk_open c.args.until h.0 c.args.buffers.now.body h.2).1

pub grow_to-requires-clause-part : goal.grow_to-requires-clause-part
grow_to-requires-clause-part c = let h = c.requires.1 in let less = (chunk_open c.args.until h.0 c.args.buffers.now.body h.2).0 in omega (arith, less)

pub returns-then-grow_to-clause-says : goal.returns-then-grow_to-clause-says
returns-then-grow_to-clause-says c = chunk_whole _ _ _ _ _ _ _ _ c.grow_to.ensures.head c.grow_to.ensures.spans (rw c.if-grow_to.true at c.grow_to.ensures.says)

pub returns-then-grow_to-clause-less : goal.returns-then-grow_to-clause-less
returns-then-grow_to-clause-less c =
    let h = c.requires.1 in
    let g = rw c.if-grow_to.true at c.grow_to.ensures.says in
    grown_less true c.args.until _ _ _ _ c.args.piece.now c.grow_to.new.piece (chunk_open c.args.until h.0 c.args.buffers.now.body h.2).0 g.3 g

pub returns-else-grow_to-clause-says : goal.returns-else-grow_to-clause-says
returns-else-grow_to-clause-says c = chunk_part _ _ _ _ _ _ _ _ c.grow_to.ensures.head c.grow_to.ensures.spans (rw c.if-grow_to.false at c.grow_to.ensures.says)
