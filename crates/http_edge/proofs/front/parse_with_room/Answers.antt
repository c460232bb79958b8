use Rattle.std.proofs.Common.{ap}
use Rattle.std.specs.Prelude.{Err}
use Rattle.http_edge.proofs.RoomLemmas.{fields_have_room}
use Rattle.http_edge.proofs.front.parse_with_room.Goals as goal

-- the room is never short, so an error is one of the input
pub returns-in-Err : goal.returns-in-Err
returns-in-Err c =
    c.in-Err.ensures.invalid (λ e. fields_have_room _ _ c.requires.small c.requires.room (c.in-Err.ensures.too_many (ap Err e)))
