use Rattle.std.proofs.Common.{arith, ap}
use Rattle.std.specs.Prelude.{Err}
use Rattle.http_edge.proofs.RoomLemmas.{trailers_have_room}
use Rattle.http_edge.proofs.PieceLemmas.{trailers_never}
use Rattle.http_edge.proofs.parts.parse_trailers.Goals as goal

-- the room is never short, so an error is one of the input
pub returns-in-Err : goal.returns-in-Err
returns-in-Err c =
    trailers_never _ (c.in-Err.ensures.invalid (λ e. trailers_have_room _ _ c.requires.small (omega arith) (c.in-Err.ensures.too_many (ap Err e))))
