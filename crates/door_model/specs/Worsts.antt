-- What the endings of all sessions call for: the worst of them. own: the statuses of this project.
use Rattle.std.specs.Prelude.{ℕ, ◌≤◌, List, All, Contains, nat_lt, if◌then◌else◌}
use Rattle.session_model.specs.declared.ending.Ending.{Ending}
use Rattle.session_model.specs.declared.ending.Ending.TheVariants as ending
use Rattle.session_model.specs.declared.ending.Worst.{Worst}
use Rattle.session_model.specs.declared.ending.Worst.TheVariants as worst

-- what an ending calls for
abbrev pub called_by : Ending → Worst
called_by ending.Closed = worst.Closed
called_by ending.CutShort = worst.Refused
called_by (ending.Refused status) = worst.Refused
called_by ending.Stopped = worst.Stopped
called_by ending.JournalFull = worst.Refused
called_by (ending.Lagged next first) = worst.Refused
called_by ending.ReadFault = worst.Fault
called_by ending.WriteFault = worst.Fault
called_by ending.NoMemory = worst.NoMemory

-- their order, the worst first
abbrev pub rank_of : Worst → ℕ
rank_of worst.NoMemory = 0
rank_of worst.Fault = 1
rank_of worst.Stopped = 2
rank_of worst.Refused = 3
rank_of worst.Closed = 4

abbrev pub worse_of : Worst → Worst → Worst
worse_of a b = if nat_lt (rank_of b) (rank_of a) then b else a

-- it is one of them, and none is worse
abbrev pub IsWorst : Worst → List Worst → Type 0
IsWorst w ws = Contains ws w × All (λ x. rank_of w ≤ rank_of x) ws
