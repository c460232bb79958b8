use Rattle.api_routes.proofs.StatusLemmas.{class-status}
use Rattle.api_routes.proofs.laws.law_direct_statuses.Goals as goal

pub returns : goal.returns
returns c = λ r answer h. class-status r answer h
