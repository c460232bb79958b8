use Rattle.client_laws.proofs.Spelled.ReadLemmas.{read_first, read_alone}
use Rattle.client_laws.proofs.law_read.Goals as goal

pub returns : goal.returns
returns c = record { first = read_first; alone = read_alone }
