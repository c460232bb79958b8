-- Which turns are refused, by the calls that were asked before (own: for tests).
use Rattle.std.specs.Prelude.{ℕ, ◌+◌, ◌-◌, ◌^◌, ◌==◌, ◌&&◌, min, nat_le, Bool, true, false, Option, Some, None, if◌then◌else◌}
use Rattle.engine_text.specs.declared.call.Call.{Call}
use Rattle.engine_text.specs.declared.call.Call.TheVariants as call
use Rattle.scarce_turns.specs.declared.counting.Scarcity.{Scarcity}
use Rattle.scarce_turns.specs.declared.counting.Scarcity.TheVariants.{Calls, Takes}

-- whether a call begins something: none that ends a ticket, and none that feeds standard input
abbrev pub is_begin : Call → Bool
is_begin (call.Take n) = false
is_begin (call.Drop n) = false
is_begin (call.Feed owner run bytes) = false
is_begin (call.FeedEnd owner run) = false
is_begin c = true

-- whether a call takes a ticket's answer
abbrev pub is_take : Call → Bool
is_take (call.Take n) = true
is_take c = false

-- whether a turn is one of those that are counted; one without a call never is
abbrev pub is_counted : Scarcity → Option Call → Bool
is_counted scarcity None = false
is_counted (Calls number) (Some c) = is_begin c
is_counted (Takes number) (Some c) = is_take c

-- whether one behind n others is refused: the one of that number, or each from that number on
abbrev pub is_refused_as : Scarcity → ℕ → Bool
is_refused_as (Calls number) n = n == number
is_refused_as (Takes number) n = nat_le number n

-- whether a turn is refused
abbrev pub is_refused : Scarcity → ℕ → Option Call → Bool
is_refused scarcity n c = is_counted scarcity c && is_refused_as scarcity n

-- how many were counted, behind it; the count stands still at the greatest that 64 bits hold
abbrev pub counted_on : Scarcity → ℕ → Option Call → ℕ
counted_on scarcity n c = if is_counted scarcity c then min (n + 1) (2 ^ 64 - 1) else n
