use Rattle.std.proofs.Common.{length}
use Rattle.container_table.proofs.rows.+put.Given as goal

abbrev pub decreases-put : goal.decreases-put
decreases-put g l = length l.rows.now
