use Rattle.client_laws.proofs.Spelled.TableLemmas.{spelled_requests}
use Rattle.client_laws.proofs.law_spelled.Goals as goal

pub returns : goal.returns
returns c = spelled_requests
