use Rattle.http_edge.specs.declared.parts.Part.TheVariants as part
use Rattle.request_pieces.proofs.ChunkLemmas.{trailers_whole, trailers_refused, trailers_wait, part_ended}
use Rattle.request_pieces.proofs.HeadLemmas.{no_fault}
use Rattle.request_pieces.proofs.chunks.take_trailers.Goals as goal

pub returns-in-Whole-clause-says : goal.returns-in-Whole-clause-says
returns-in-Whole-clause-says c = trailers_whole _ _ _ _ _ _ _ _ c.in-Whole.ensures

pub returns-in-Refused-clause-says : goal.returns-in-Refused-clause-says
returns-in-Refused-clause-says c = trailers_refused _ _ _ c.read_part.new.ahead _ _ c.in-Refused.ensures

pub returns-in-CutShort-clause-says : goal.returns-in-CutShort-clause-says
returns-in-CutShort-clause-says c =
    let x = part_ended part.Trailers _ _ c.args.piece.now c.read_part.new.source c.in-CutShort.ensures in
    trailers_wait _ _ _ _ _ _ x.1 x.0

pub unreachable-requires : goal.unreachable-requires
unreachable-requires c = no_fault c.args.piece.now c.read_part.new.source c.in-Failed.ensures.1
