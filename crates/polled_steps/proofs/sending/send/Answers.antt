use Rattle.std.proofs.Common.{subst, take}
use Rattle.polled_ports.specs.PollSink.{TakesSome}
use Rattle.polled_steps.specs.Bytes.{body_left, front_left, next_of, rest_of, tail_left}
use Rattle.polled_steps.proofs.ByteLemmas.{next_is_front, sent_some}
use Rattle.polled_steps.proofs.sending.send.Goals as goal

pub returns-in-Ready-Ok-clause-says : goal.returns-in-Ready-Ok-clause-says
returns-in-Ready-Ok-clause-says g c =
    let u = g.K.PollSink.takes c.args.sink.now in
    let u' = g.K.PollSink.takes c.write.new.sink in
    let wrote = subst (λ r. TakesSome r c.next.result.now u u') c.in-Ready-Ok.field-0-is c.in-Ready-Ok.ensures.says.0 in
    let out = c.args.out.now in
    let some =
    sent_some c.in-Ready-Ok.count c.next.result.now (next_of out) (rest_of out) (rest_of c.advance.new.self) c.next.ensures
    (next_is_front (front_left out) (body_left out) (tail_left out)) wrote.0 wrote.1 c.advance.ensures in
    ((take c.in-Ready-Ok.count c.next.result.now, some.0, some.1, wrote.2, wrote.3), c.in-Ready-Ok.ensures.says.1)
