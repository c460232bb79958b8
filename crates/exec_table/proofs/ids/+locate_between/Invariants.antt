use Rattle.std.proofs.Common.{◌-◌}
use Rattle.exec_table.proofs.ids.+locate_between.Given as goal

abbrev pub decreases-locate_between : goal.decreases-locate_between
decreases-locate_between l = l.high - l.low
