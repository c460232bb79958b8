use Rattle.client_laws.proofs.LineLemmas.{asks-calls}
use Rattle.client_laws.proofs.law_requests_are_calls.Goals as goal

pub returns : goal.returns
returns c = asks-calls
