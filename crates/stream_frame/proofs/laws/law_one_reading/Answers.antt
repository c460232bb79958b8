use Rattle.stream_frame.proofs.LawLemmas.{one_reading}
use Rattle.stream_frame.proofs.laws.law_one_reading.Goals as goal

pub returns : goal.returns
returns c = one_reading
