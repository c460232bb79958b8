use Rattle.stream_frame.proofs.LawLemmas.{gives_back}
use Rattle.stream_frame.proofs.laws.law_gives_back.Goals as goal

pub returns : goal.returns
returns c = gives_back
