use Rattle.client_exchange.proofs.WholeLemmas.{frames_shown, frames_end}
use Rattle.client_exchange.proofs.laws.law_frames.Goals as goal

pub returns : goal.returns
returns c = λ parts are bytes. (frames_shown parts are bytes, frames_end parts are bytes)
