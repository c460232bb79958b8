use Rattle.http_edge.proofs.LineLemmas.{pushed_3}
use Rattle.http_edge.proofs.head.push_chunked.Goals as goal

pub returns-clause-text : goal.returns-clause-text
returns-clause-text c = pushed_3 _ _ _ _ _ _ _ c.push.ensures c.push-2.ensures c.push-3.ensures
