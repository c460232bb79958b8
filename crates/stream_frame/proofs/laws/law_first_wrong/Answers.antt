use Rattle.stream_frame.proofs.LawLemmas.{first_wrong}
use Rattle.stream_frame.proofs.laws.law_first_wrong.Goals as goal

pub returns : goal.returns
returns c = first_wrong
