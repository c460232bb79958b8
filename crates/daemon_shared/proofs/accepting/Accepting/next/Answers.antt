use Rattle.std.proofs.Common.{ap, arith}
use Rattle.daemon_shared.proofs.RootLemmas.{passed_on}
use Rattle.daemon_shared.proofs.RunLemmas.{awaits_root, awaits_served, takes_next, takes_none, takes_none_short}
use Rattle.daemon_shared.proofs.accepting.Accepting.next.Goals as goal

pub take-requires-clause-root : goal.take-requires-clause-root
take-requires-clause-root g c κs within = awaits_root _ _ _ _ _ _ _ _ _ _ c.requires.awaits

pub take-requires-clause-number : goal.take-requires-clause-number
take-requires-clause-number g c κs within = omega (arith, c.requires.awaits.less, c.requires.awaits.few)

pub settle-requires-clause-serving : goal.settle-requires-clause-serving
settle-requires-clause-serving g c κs within = awaits_served _ _ _ _ _ _ _ _ _ _ _ _ _ _ _ c.requires.awaits c.make_room.ensures.same c.in_ok-begun.ensures.ok

pub returns-then-is_err-clause-err : goal.returns-then-is_err-clause-err
returns-then-is_err-clause-err g c = takes_none_short _ _ _ _ _ _ _ _ _ _ _ _ c.make_room.ensures.same

pub returns-in_err-begun-clause-err : goal.returns-in_err-begun-clause-err
returns-in_err-begun-clause-err g c =
    passed_on _ c.from_residual.result c.in_err-begun.field-0.0 c.from_residual.ensures.1
    (takes_none _ _ _ _ _ _ _ _ _ _ _ _ _ _ _ c.make_room.ensures.same c.in_err-begun.ensures.err.0 (ap g.H.Pass.Seated.seat c.in_err-begun.ensures.err.1))

pub returns-clause-ok : goal.returns-clause-ok
returns-clause-ok g c = takes_next _ _ _ _ _ _ _ _ _ _ _ _ _ _ _ _ _ _ _ c.make_room.ensures.same c.in_ok-begun.ensures.ok c.settle.ensures.leaves
