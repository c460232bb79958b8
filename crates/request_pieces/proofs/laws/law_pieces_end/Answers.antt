use Rattle.request_pieces.proofs.LawLemmas.{pieces_end}
use Rattle.request_pieces.proofs.laws.law_pieces_end.Goals as goal

pub returns : goal.returns
returns c r ps p qs rest fresh all push reads = pieces_end r ps p qs rest fresh all push reads
