use Rattle.api_routes.proofs.CallLemmas.{class-sound}
use Rattle.api_routes.proofs.laws.law_class_calls.Goals as goal

pub returns : goal.returns
returns c = class-sound
