use Rattle.std.proofs.Common.{inr}
use Rattle.client_exchange.proofs.AnswerLemmas.{goes, breaks_off}
use Rattle.client_exchange.proofs.answer.go_on.Goals as goal

pub returns-in-Ok : goal.returns-in-Ok
returns-in-Ok g c = λ came h new st less has is.
    goes h c.args.status c.args.first c.in-Ok.whole c.args.taker.now.showing _ came _ _ _ less has is (c.in-Ok.ensures came h new st)

pub returns-in-Err : goal.returns-in-Err
returns-in-Err g c = λ came h new st less has is.
    inr (breaks_off h c.in-Err.fault c.args.taker.now.showing c.args.taker.now came _ _ _ less (c.in-Err.ensures came h new st))
