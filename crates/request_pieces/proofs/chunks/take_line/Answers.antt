use Rattle.http_edge.specs.declared.parts.Part.TheVariants as part
use Rattle.request_pieces.proofs.ChunkLemmas.{chunks_fit, line_whole, line_less, line_refused, line_waits, part_ended}
use Rattle.request_pieces.proofs.HeadLemmas.{no_fault}
use Rattle.request_pieces.proofs.chunks.take_line.Goals as goal

pub behind_line-requires : goal.behind_line-requires
behind_line-requires c = let h = c.requires.1 in rw c.body.ensures (chunks_fit h.0 c.args.buffers.now.body h.2)

pub returns-in-Whole-clause-says : goal.returns-in-Whole-clause-says
returns-in-Whole-clause-says c = line_whole _ _ _ _ _ _ c.behind_line.result _ _ c.in-Whole.ensures (rw c.body.ensures at c.behind_line.ensures)

pub returns-in-Whole-clause-less : goal.returns-in-Whole-clause-less
returns-in-Whole-clause-less c = line_less c.behind_line.result _ _ _ _ c.args.piece.now c.read_part.new.source c.in-Whole.ensures

pub returns-in-Refused-clause-says : goal.returns-in-Refused-clause-says
returns-in-Refused-clause-says c = line_refused _ _ _ c.read_part.new.ahead _ _ c.in-Refused.ensures

pub returns-in-CutShort-clause-says : goal.returns-in-CutShort-clause-says
returns-in-CutShort-clause-says c =
    let x = part_ended part.Line _ _ c.args.piece.now c.read_part.new.source c.in-CutShort.ensures in
    line_waits _ _ _ _ _ _ x.1 x.0

pub unreachable-requires : goal.unreachable-requires
unreachable-requires c = no_fault c.args.piece.now c.read_part.new.source c.in-Failed.ensures.1
