use Rattle.stream_frame.proofs.LawLemmas.{goes_on}
use Rattle.stream_frame.proofs.laws.law_goes_on.Goals as goal

pub returns : goal.returns
returns c = goes_on
