use Rattle.std.proofs.Common.{refl, ap, ◌∙◌, inr, Some, None, Err, false}
use Rattle.std.specs.Option.{option_map_or}
use Rattle.client_model.specs.Plans.{ends, fails}
use Rattle.client_model.specs.Commands.Exec.{exit_code_in}
use Rattle.client_model.specs.declared.fault.Fault.TheVariants as F
use Rattle.engine_client.proofs.StepLemmas.{read_goes, read_fails}
use Rattle.engine_client.proofs.places.ends_exec.Goals as goal

pub returns-in-Ok-Some : goal.returns-in-Ok-Some
returns-in-Ok-Some c =
    read_goes exit_code_in (λ code. option_map_or ends code (fails F.NoCode)) _ c.args.body.now.items (Some c.in-Ok-Some.code) _ false c.deref.ensures.value (c.in-Ok-Some.ensures ∙ ap Some c.in-Ok-Some.field-0-is) c.ends.ensures

pub returns-in-Ok-None : goal.returns-in-Ok-None
returns-in-Ok-None c =
    read_goes exit_code_in (λ code. option_map_or ends code (fails F.NoCode)) _ c.args.body.now.items None (Err F.NoCode) false c.deref.ensures.value (c.in-Ok-None.ensures ∙ ap Some c.in-Ok-None.field-0-is) (inr refl)

pub returns-in-Err : goal.returns-in-Err
returns-in-Err c = read_fails exit_code_in (λ code. option_map_or ends code (fails F.NoCode)) _ c.args.body.now.items c.in-Err.fault false c.deref.ensures.value c.in-Err.ensures
