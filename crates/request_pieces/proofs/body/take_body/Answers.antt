use Rattle.request_pieces.proofs.BodyLemmas.{body_whole, body_part}
use Rattle.request_pieces.proofs.body.take_body.Goals as goal

pub grow_to-requires-clause-fits : goal.grow_to-requires-clause-fits
grow_to-requires-clause-fits c = let h = c.requires.1 in h.2

pub grow_to-requires-clause-part : goal.grow_to-requires-clause-part
grow_to-requires-clause-part c = let h = c.requires.1 in h.1

pub returns-then-grow_to-clause-says : goal.returns-then-grow_to-clause-says
returns-then-grow_to-clause-says c = body_whole _ _ _ _ _ _ _ _ c.grow_to.ensures.head c.grow_to.ensures.spans (rw c.if-grow_to.true at c.grow_to.ensures.says)

pub returns-else-grow_to-clause-says : goal.returns-else-grow_to-clause-says
returns-else-grow_to-clause-says c = body_part _ _ _ _ _ _ _ _ c.grow_to.ensures.head c.grow_to.ensures.spans (rw c.if-grow_to.false at c.grow_to.ensures.says)
