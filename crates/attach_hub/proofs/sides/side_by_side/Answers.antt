use Rattle.std.proofs.Common.{rules}
use Rattle.attach_hub.proofs.ViewLemmas.{by_names}
use Rattle.attach_hub.proofs.sides.side_by_side.Goals as goal

pub returns-clause-pumped : goal.returns-clause-pumped
returns-clause-pumped g c = rw (← c.conn.view_is) (search rules)

pub returns-clause-followed : goal.returns-clause-followed
returns-clause-followed g c = rw (← c.conn.view_is) (by_names c.conn.inside.number _ c.args.spec.now c.join_mut.result.1 _ _ _ _ _ _ (search rules))
