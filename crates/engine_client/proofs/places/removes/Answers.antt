use Rattle.engine_client.proofs.places.removes.Goals as goal

pub returns-then-remove : goal.returns-then-remove
returns-then-remove c = rw c.if-remove.true c.removes_it.ensures

pub returns-else-remove : goal.returns-else-remove
returns-else-remove c = rw c.if-remove.false c.ends.ensures
