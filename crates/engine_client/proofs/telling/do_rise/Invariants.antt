use Rattle.std.proofs.Common.{◌≡◌, drop}
use Rattle.client_model.specs.Commands.Health.{do_rise}
use Rattle.engine_client.proofs.telling.do_rise.Given as goal

abbrev pub invariant-events : goal.invariant-events
invariant-events l = do_rise l.end l.from (drop l.event-index l.events) ≡ do_rise l.end 0 l.fn.events
