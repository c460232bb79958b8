use Rattle.std.proofs.Common.{◌∙◌}
use Rattle.request_pieces.proofs.HeadLemmas.{frames_body, frames_chunks, frames_none}
use Rattle.request_pieces.proofs.head.take_framed.Goals as goal

pub returns-in-Length : goal.returns-in-Length
returns-in-Length c =
    let at = c.requires.of in
    frames_body _ _ _ at.0 c.requires.small c.requires.within at.1 _ _ c.in-Length.ensures.head c.in-Length.ensures.spans (c.in-Length.ensures.body ∙ c.requires.none) c.in-Length.ensures.ahead _ c.in-Length.ensures.framing c.in-Length.ensures.fits

pub returns-in-Chunked : goal.returns-in-Chunked
returns-in-Chunked c =
    let at = c.requires.of in
    frames_chunks _ _ _ at.0 c.requires.small c.requires.within at.1 _ _ c.in-Chunked.ensures.head c.in-Chunked.ensures.spans (c.in-Chunked.ensures.body ∙ c.requires.none) c.in-Chunked.ensures.ahead c.in-Chunked.ensures.framing

pub returns-in-Refused : goal.returns-in-Refused
returns-in-Refused c =
    let at = c.requires.of in
    frames_none _ _ _ at.0 c.requires.small c.requires.within at.1 _ _ c.in-Refused.ensures.head c.in-Refused.ensures.spans (c.in-Refused.ensures.body ∙ c.requires.none) c.in-Refused.ensures.ahead _ c.in-Refused.ensures.framing
