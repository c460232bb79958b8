use Rattle.std.proofs.Common.{arith}
use Rattle.daemon_core.proofs.stored.Stored.reserve.Goals as goal

pub make_places-requires : goal.make_places-requires
make_places-requires c =
    let most = c.kept.ensures.state.counts.steps in
    let stand = c.ticket_count-places.ensures in
    omega (arith, most, stand)

-- no more tickets stand than steps were made
pub overflow_add-places : goal.overflow_add-places
overflow_add-places c =
    let most = c.kept.ensures.state.counts.steps in
    let stand = c.ticket_count-places.ensures in
    omega (arith, most, stand)
