use Rattle.http_edge.proofs.ReadLemmas.{fills_on}
use Rattle.http_edge.proofs.fill.fill_on.Goals as goal

pub returns-in-End-clause-fills : goal.returns-in-End-clause-fills
returns-in-End-clause-fills g c = fills_on _ _ _ _ _ _ c.more.invariant.fills c.in-End.ensures.reads.0

pub returns-in-Failed-clause-fills : goal.returns-in-Failed-clause-fills
returns-in-Failed-clause-fills g c = fills_on _ _ _ _ _ _ c.more.invariant.fills c.in-Failed.ensures.reads.0
