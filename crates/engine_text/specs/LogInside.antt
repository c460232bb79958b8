-- A log's fields as the log that they mean (own).
use Rattle.std.specs.Prelude.{◌≡◌, ◌-◌, vec_len, vec_capacity}
use Rattle.engine_text.specs.declared.open_log.OpenLog.TheInside.{Inside}
use Rattle.engine_text.specs.Logs.{Written, told_size}

-- Its records, and the places behind them.
abbrev pub written_inside : Inside → Written
written_inside l = record { records = l.items.items; room = vec_capacity l.items - vec_len l.items }

-- The size is at hand.
abbrev pub IsSoundOpenLog : Inside → Type 0
IsSoundOpenLog l = l.size ≡ told_size l.items.items
