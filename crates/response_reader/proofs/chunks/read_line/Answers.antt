use Rattle.response_reader.proofs.ChunkLemmas.{line_read}
use Rattle.response_reader.proofs.chunks.read_line.Goals as goal

pub returns-in-Whole : goal.returns-in-Whole
returns-in-Whole g c = line_read c.read_behind.result c.in-Whole.size c.in-Whole.count _ _ _ _ _ _ c.in-Whole.ensures c.read_behind.ensures
