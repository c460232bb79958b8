use Rattle.std.proofs.Common.{inl, inr, refl, None}
use Rattle.client_model.specs.declared.fault.Fault.TheVariants as F
use Rattle.client_exchange.proofs.connection.converse.Goals as goal

pub returns-in-Ok : goal.returns-in-Ok
returns-in-Ok g c = inl (c.in-Ok.ensures, c.read_answer.ensures)

pub returns-in-Err : goal.returns-in-Err
returns-in-Err g c =
    let w = c.in-Err.ensures in
    inr (record { failure = record { fault = F.Connection; status = None }; is = refl; unread = refl; unshown = refl; part = w.0; front = w.1; took = w.2; cause = w.3 })
