use Rattle.client_laws.proofs.Spelled.SentLemmas.{ended_calls, broken_calls}
use Rattle.client_laws.proofs.law_sent.Goals as goal

pub returns : goal.returns
returns c = record { ended = ended_calls; broken = broken_calls }
