use Rattle.http_edge.proofs.ChunkingLemmas.{last_read, last_refused, last_cut, last_failed}
use Rattle.http_edge.proofs.chunked.read_last.Goals as goal

pub returns-in-Whole : goal.returns-in-Whole
returns-in-Whole g c = λ body. last_read c.args.count c.in-Whole.field-0 c.in-Whole.more _ _ body _ _ c.in-Whole.ensures

pub returns-in-Refused : goal.returns-in-Refused
returns-in-Refused g c = λ body. last_refused c.args.count _ c.read_part.new.ahead body _ _ c.in-Refused.ensures

pub returns-in-CutShort : goal.returns-in-CutShort
returns-in-CutShort g c = λ body. last_cut c.args.count _ c.read_part.new.ahead body _ _ (c.in-CutShort.ensures.0, c.in-CutShort.ensures.1)

pub returns-in-Failed : goal.returns-in-Failed
returns-in-Failed g c = λ body. last_failed c.args.count _ c.read_part.new.ahead body _ _ c.in-Failed.ensures
