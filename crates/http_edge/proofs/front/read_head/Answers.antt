use Rattle.std.proofs.Common.{arith, ◌<◌, length, subst}
use Rattle.httparse.specs.Grammar.{HasNoRequest, MayBecomeRequest}
use Rattle.http_edge.proofs.ReadLemmas.{fills_on, head_is_cut, head_is_unread}
use Rattle.http_edge.proofs.front.read_head.Goals as goal

pub returns-in-End-clause-fills : goal.returns-in-End-clause-fills
returns-in-End-clause-fills g c = fills_on _ _ _ _ _ _ c.more.invariant.fills c.in-End.ensures.reads.1

pub returns-in-End-2-clause-fills : goal.returns-in-End-2-clause-fills
returns-in-End-2-clause-fills g c = fills_on _ _ _ _ _ _ c.more.invariant.fills c.in-End-2.ensures.reads.1

pub returns-in-End-2-clause-facts : goal.returns-in-End-2-clause-facts
returns-in-End-2-clause-facts g c =
    let part = subst (λ b. HasNoRequest b × MayBecomeRequest b) c.as_slice.ensures c.in-Part.ensures.facts in
    let some : 0 < length c.more.ahead = omega arith in
    let short : length c.more.ahead < 16384 = omega arith in
    head_is_cut _ _ _ c.parse_head.new.spans.items _ _ _ c.more.invariant.fills c.in-End-2.ensures.reads some short part.0 part.1

pub returns-in-Failed-clause-fills : goal.returns-in-Failed-clause-fills
returns-in-Failed-clause-fills g c = fills_on _ _ _ _ _ _ c.more.invariant.fills c.in-Failed.ensures.reads.1

pub returns-in-Failed-clause-facts : goal.returns-in-Failed-clause-facts
returns-in-Failed-clause-facts g c =
    let part = subst (λ b. HasNoRequest b × MayBecomeRequest b) c.as_slice.ensures c.in-Part.ensures.facts in
    let short : length c.more.ahead < 16384 = omega arith in
    head_is_unread _ _ _ _ _ _ c.more.invariant.fills c.in-Failed.ensures.reads short part.0 part.1
