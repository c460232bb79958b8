use Rattle.request_pieces.proofs.LawLemmas.{pieces_read}
use Rattle.request_pieces.proofs.laws.law_pieces_tell_requests.Goals as goal

pub returns : goal.returns
returns c r ps fresh all = let x = pieces_read r ps fresh all in (x.1.0, x.1.1, x.1.2)
