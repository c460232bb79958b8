use Rattle.std.proofs.Common.{ap, ◌∙◌}
use Rattle.std.specs.Result.{result_unwrap_or}
use Rattle.std.specs.Str.Parse.{digits_value}
use Rattle.api_json.specs.EventRules.{is_decimal_below}
use Rattle.event_ring.proofs.CodeLemmas.{code_read}
use Rattle.event_ring.proofs.fold.exit_code.Goals as goal

pub returns : goal.returns
returns c =
    c.unwrap_or.ensures
    ∙ ap (λ r. result_unwrap_or r 0) (code_read c.attribute.result.now c.parse.result (ap (is_decimal_below 256) c.attribute.ensures ∙ c.requires) c.parse.ensures.value.0)
    ∙ ap (digits_value 10) c.attribute.ensures
