use Rattle.request_pieces.proofs.LawLemmas.{pieces_next}
use Rattle.request_pieces.proofs.laws.law_pieces_are_next.Goals as goal

pub returns : goal.returns
returns c r ps qs rest fresh all reads = pieces_next r ps qs rest fresh all reads
