-- The statuses that a run ends with (own: the statuses of this project).
use Rattle.std.specs.Prelude.{ℕ}
use Rattle.session_model.specs.declared.ending.Ending.{Ending}
use Rattle.session_model.specs.declared.ending.Worst.{Worst}
use Rattle.session_model.specs.declared.ending.Worst.TheVariants.{NoMemory, Fault, Stopped, Refused, Closed}
use Rattle.door_model.specs.Worsts.{called_by}

-- of what the endings of all sessions call for
abbrev pub status_by : Worst → ℕ
status_by NoMemory = 6
status_by Fault = 4
status_by Stopped = 5
status_by Refused = 3
status_by Closed = 0

-- of one session alone
abbrev pub status_of : Ending → ℕ
status_of e = status_by (called_by e)
