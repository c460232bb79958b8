use Rattle.std.proofs.Common.{arith}
use Rattle.std.proofs.lemmas.List.{take-take}
use Rattle.http_edge.proofs.RequestLemmas.{shown}
use Rattle.front_session.proofs.looking.treat.Goals as goal

pub new-request-requires-clause-shown : goal.new-request-requires-clause-shown
new-request-requires-clause-shown c =
    let here = shown c.args.ahead.now c.args.buffers.now.spans c.args.found c.requires.of.0 c.requires.small c.requires.within c.requires.of.1 in
    rw (c.take_head-framing.ensures.head, c.take_head-framing.ensures.spans, take-take c.args.found.len c.args.found.len c.args.ahead.now (omega arith))
    (∣ here ∣₁)
