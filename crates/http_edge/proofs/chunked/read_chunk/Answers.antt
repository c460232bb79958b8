use Rattle.http_edge.proofs.ChunkingLemmas.{line_read}
use Rattle.http_edge.proofs.chunked.read_chunk.Goals as goal

pub returns-in-Whole-clause-says : goal.returns-in-Whole-clause-says
returns-in-Whole-clause-says g c =
    line_read c.read_sized.result c.in-Whole.size c.in-Whole.count _ _ _ _ _ _ _ _ c.in-Whole.ensures c.read_sized.ensures.says
