use Rattle.client_exchange.proofs.AnswerLemmas.{refused, refused_failed}
use Rattle.client_exchange.proofs.answer.refusal_kept.Goals as goal

pub returns-in-Ok : goal.returns-in-Ok
returns-in-Ok g c = λ came h new st more.
    refused h c.in-Ok.whole c.fault_in.result c.args.taker.now.showing _ c.kept.result.now came _ _ _ c.requires.kept more
    (c.in-Ok.ensures came h new st) c.kept.ensures c.fault_in.ensures

pub returns-in-Err : goal.returns-in-Err
returns-in-Err g c = λ came h new st more.
    refused_failed h c.in-Err.fault c.args.taker.now.showing c.args.taker.now came _ _ _ c.requires.kept more (c.in-Err.ensures came h new st)
