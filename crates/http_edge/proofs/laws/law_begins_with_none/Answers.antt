use Rattle.http_edge.proofs.EndLemmas.{refused_none, unfinished_none}
use Rattle.http_edge.proofs.laws.law_begins_with_none.Goals as goal

pub returns : goal.returns
returns c = record { refused = refused_none; unfinished = unfinished_none }
