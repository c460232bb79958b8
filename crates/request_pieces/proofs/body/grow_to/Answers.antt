use Rattle.std.proofs.Common.{arith, length, ◌-◌, ap, refl}
use Rattle.request_pieces.proofs.BodyLemmas.{grows}
use Rattle.request_pieces.proofs.body.grow_to.Goals as goal

pub returns-clause-says : goal.returns-clause-says
returns-clause-says c =
    grows c.args.until c.args.buffers.now.body c.push_body-2.new.self.body c.args.ahead.now c.skip.new.self c.args.piece.now c.take.new.self c.min-held.result (c.args.until - length c.body.result.now)
    c.requires.part (ap (λ l. c.args.until - length l) c.body.ensures) (omega (arith, c.min-held.ensures, c.len.ensures.count)) c.skip.ensures c.take.ensures.rest c.take.ensures.ends
    (rw (c.push_body-2.ensures, c.push_body.ensures, c.take.ensures.taken, c.as_slice.ensures) refl) _ (ap length c.body-2.ensures)
