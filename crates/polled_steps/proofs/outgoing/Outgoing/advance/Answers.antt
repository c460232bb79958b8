use Rattle.std.proofs.Common.{arith, ◌<◌, ap, length}
use Rattle.polled_steps.specs.Bytes.{body_left, tail_left}
use Rattle.polled_steps.proofs.ByteLemmas.{front_fits}
use Rattle.polled_steps.proofs.outgoing.Outgoing.advance.Goals as goal

pub overflow_add-self : goal.overflow_add-self
overflow_add-self c =
    let some : c.args.self.now.front_sent < length c.args.self.now.front = omega (arith, c.if-self-as_slice.true, ap length c.as_slice.ensures.value) in
    let fits = front_fits c.args.self.now.front_sent c.args.count c.args.self.now.front (body_left c.args.self.now) (tail_left c.args.self.now) some c.requires in
    omega (arith, fits, c.as_slice.ensures.short)
