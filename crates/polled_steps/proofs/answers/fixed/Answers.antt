use Rattle.std.proofs.Common.{◌∙◌, ap}
use Rattle.machine_model.specs.Outcome.{message_text}
use Rattle.session_model.specs.Responses.{json_bytes}
use Rattle.exchange_laws.specs.Fixed.{fixed_text}
use Rattle.polled_steps.proofs.answers.fixed.Goals as goal

pub returns : goal.returns
returns c = c.json.ensures ∙ ap (λ n. json_bytes c.args.terms n (message_text (fixed_text c.args.fixed))) c.status.ensures
