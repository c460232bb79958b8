use Rattle.std.proofs.Common.{refl, false}
use Rattle.client_model.specs.Commands.Remove.{remove_request}
use Rattle.engine_client.proofs.places.removes_it.Goals as goal

pub returns : goal.returns
returns c = c.asks.ensures (remove_request c.args.id.now false) c.remove_request.ensures (λ never. refl)
