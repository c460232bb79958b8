use Rattle.std.proofs.Common.{◌≡◌, ◌<◌, ◌≤◌, true, length, min, nat_lt, subst, arith}
use Rattle.std.specs.Prelude.{vec_capacity, vec_len}
use Rattle.std.proofs.lemmas.Bool.Decides.{nat_tests}
use Rattle.container_table.specs.Tables.{Timed}
use Rattle.container_table.specs.Timers.{with_timer}
use Rattle.container_table.proofs.TimerLemmas.{one_more}
use Rattle.container_table.proofs.timers.Timers.has_room.Goals as goal

pub returns-clause-room : goal.returns-clause-room
returns-clause-room c =
    λ t moment rank number.
    let below : nat_lt c.len.result c.min.result ≡ true = t in
    let whole : vec_len c.self.inside.listed ≡ length c.self.inside.listed.items = c.self.inside.listed.ok.0 in
    let low : length c.self.inside.listed.items < min (vec_capacity c.self.inside.listed) (vec_capacity c.self.inside.due) = grind (arith, nat_tests, below, whole) in
    subst (λ (k : Timed). length (with_timer moment rank number k.timers) ≤ k.places) c.self.view_is (one_more moment rank number c.self.inside.listed.items (min (vec_capacity c.self.inside.listed) (vec_capacity c.self.inside.due)) low)
