use Rattle.std.proofs.Common.{refl, ap, ◌∙◌, inr, Some, None, Err, false}
use Rattle.client_model.specs.Commands.Health.{checked_in}
use Rattle.client_model.specs.declared.fault.Fault.TheVariants as F
use Rattle.engine_client.specs.Steps.{by_check}
use Rattle.engine_client.proofs.StepLemmas.{read_goes, read_fails}
use Rattle.engine_client.proofs.checking.asks_events_by.Goals as goal

pub returns-in-Ok-Some : goal.returns-in-Ok-Some
returns-in-Ok-Some c =
    read_goes checked_in (λ checked. by_check c.args.until.now checked) _ c.args.body.now.items (Some c.in-Ok-Some.checked) _ false c.deref.ensures.value (c.in-Ok-Some.ensures ∙ ap Some c.in-Ok-Some.field-0-is) c.asks_events.ensures

pub returns-in-Ok-None : goal.returns-in-Ok-None
returns-in-Ok-None c =
    read_goes checked_in (λ checked. by_check c.args.until.now checked) _ c.args.body.now.items None (Err F.NoCheck) false c.deref.ensures.value (c.in-Ok-None.ensures ∙ ap Some c.in-Ok-None.field-0-is) (inr refl)

pub returns-in-Err : goal.returns-in-Err
returns-in-Err c = read_fails checked_in (λ checked. by_check c.args.until.now checked) _ c.args.body.now.items c.in-Err.fault false c.deref.ensures.value c.in-Err.ensures
