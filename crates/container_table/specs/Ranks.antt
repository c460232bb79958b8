-- Ranks of what is due in one moment (own: the ops of processes, stop deadlines, removal deadlines, restart timers).
use Rattle.std.specs.Prelude.{ℕ, ◌==◌, if◌then◌else◌}
use Rattle.container_table.specs.declared.rank.Rank.{Rank}

-- The number of a rank.
abbrev pub number_of : Rank → ℕ
number_of Rank.Op = 0
number_of Rank.StopDeadline = 1
number_of Rank.RemovalDeadline = 2
number_of Rank.RestartTimer = 3

-- The rank of a number: that of a restart timer for 3 and any above.
abbrev pub rank_numbered : ℕ → Rank
rank_numbered n =
    if n == 0 then Rank.Op
    else (if n == 1 then Rank.StopDeadline else (if n == 2 then Rank.RemovalDeadline else Rank.RestartTimer))
