use Rattle.http_edge.proofs.RequestLemmas.{never_refused, long_refused, facts_on}
use Rattle.http_edge.proofs.request.read_request.Goals as goal

pub returns-in-Head : goal.returns-in-Head
returns-in-Head g c = facts_on c.read_framed.result _ _ _ _ _ _ _ _ _ c.read_head.ensures.fills c.read_framed.ensures

pub returns-in-Malformed : goal.returns-in-Malformed
returns-in-Malformed g c = never_refused _ _ _ _ c.in-Malformed.ensures.fills c.in-Malformed.ensures.within c.in-Malformed.ensures.facts

pub returns-in-TooLong : goal.returns-in-TooLong
returns-in-TooLong g c =
    let facts = c.in-TooLong.ensures.facts in
    long_refused _ _ _ _ c.in-TooLong.ensures.fills facts.0 facts.1 facts.2
