use Rattle.std.proofs.Common.{length}
use Rattle.container_table.proofs.rows.+take_out.Given as goal

abbrev pub decreases-take_out : goal.decreases-take_out
decreases-take_out g l = length l.rows.now
