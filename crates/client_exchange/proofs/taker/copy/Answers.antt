use Rattle.client_exchange.proofs.OutputLemmas.{out_took, out_failed, some_bytes}
use Rattle.client_exchange.proofs.taker.copy.Goals as goal

pub returns-in-Ok-clause-written : goal.returns-in-Ok-clause-written
returns-in-Ok-clause-written g c = λ e. out_took c.args.piece.now _ _ e c.in-Ok.ensures

pub returns-in-Err-clause-written : goal.returns-in-Err-clause-written
returns-in-Err-clause-written g c = λ e. out_failed c.in-Err.field-0 c.args.piece.now _ _ e c.in-Err.ensures

pub returns-in-Err-clause-failing : goal.returns-in-Err-clause-failing
returns-in-Err-clause-failing g c = some_bytes c.args.piece.now
