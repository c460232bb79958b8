use Rattle.std.proofs.Common.{◌≡◌, length, ap, arith}
use Rattle.exec_table.specs.ExecsInside.{execs_in}
use Rattle.exec_table.proofs.IdLemmas.{index_length}
use Rattle.exec_table.proofs.OwnerLemmas.{owned_length}
use Rattle.exec_table.proofs.RowLemmas.{rows_counted, on_ok}
use Rattle.exec_table.proofs.execs.Execs.reserve.Goals as goal

pub returns-clause-ok : goal.returns-clause-ok
returns-clause-ok c =
    let rows = c.self.inside.rows.items in
    let counted : length (execs_in rows) ≡ length rows = rows_counted rows in
    let ids : length c.self.inside.ids.items ≡ length (execs_in rows) = index_length (execs_in rows) c.self.inside.ids.items c.self.invariant.ids in
    let owned : length c.self.inside.owned.items ≡ length (execs_in rows) = owned_length (execs_in rows) c.self.inside.owned.items c.self.invariant.owned in
    let first = c.in_ok-reserve.ensures in
    let second = c.in_ok-reserve-2.ensures in
    on_ok c.reserve-3.result _ _
    (λ third. let kept = ap (λ l. length (execs_in l)) c.reserve.ensures.items in
    let rows' = ap length c.reserve.ensures.items in
    let ids' = ap length c.reserve-2.ensures.items in
    let owned' = ap length c.reserve-3.ensures.items in omega (arith, third, first.ok, second.ok, kept, rows', ids', owned', counted, ids, owned)) c.reserve-3.ensures.ok
