use Rattle.std.proofs.Common.{inl, inr, refl, None}
use Rattle.client_exchange.proofs.feeding.talk.Goals as goal

pub returns-in-Ok : goal.returns-in-Ok
returns-in-Ok g c =
    let sent = c.in-Ok.ensures in
    (sent.input, sent.gave, inl (sent.ended, (sent.took, c.read_answer.ensures)))

pub returns-in-Err : goal.returns-in-Err
returns-in-Err g c =
    let sent = c.in-Err.ensures in (
      sent.input,
      sent.gave,
      inr (record { failure = record { fault = c.in-Err.fault; status = None }; is = refl; unread = refl; unshown = refl; part = sent.part; front = sent.front; took = sent.took; cause = sent.cause }),
    )
