use Rattle.std.proofs.Common.{inl, refl, subst}
use Rattle.std.specs.Prelude.{IfOk}
use Rattle.client_model.specs.Requests.{request_bytes}
use Rattle.engine_client.proofs.StepLemmas.{asked_step}
use Rattle.engine_client.proofs.asking.asks.Goals as goal

pub returns-in_default : goal.returns-in_default
returns-in_default c = λ r is once. inl refl

pub returns : goal.returns
returns c = λ r is once. asked_step r c.args.request c.in-Ok.request c.args.input c.args.showing c.args.place c.in-Ok.is is once
