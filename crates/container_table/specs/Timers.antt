-- Timers of containers, listed by rank and number, and the least of what is due (own: in order of moment, rank and number).
use Rattle.std.specs.Prelude.{ℕ, ◌==◌, ◌&&◌, ◌||◌, not, nat_lt, List, Bool, Option, find}
use Rattle.std.specs.List.{list_any}
use Rattle.container_table.specs.Lists.{remove_first, placed}
use Rattle.engine_text.specs.declared.step.DueAction.{DueAction}

-- Whether it has that rank and number.
abbrev pub is_timer : ℕ → ℕ → DueAction → Bool
is_timer rank number d = (d.rank == rank) && (d.number == number)

-- The timer of that rank and number.
abbrev pub timer_in : ℕ → ℕ → List DueAction → Option DueAction
timer_in rank number timers = find (is_timer rank number) timers

-- The timers without it.
abbrev pub cleared : ℕ → ℕ → List DueAction → List DueAction
cleared rank number timers = remove_first (is_timer rank number) timers

-- Whether a stands before b in the list: by rank, then by number.
abbrev pub is_listed_before : DueAction → DueAction → Bool
is_listed_before a b = nat_lt a.rank b.rank || ((a.rank == b.rank) && nat_lt a.number b.number)

-- The timers with one of that rank and number at that moment, in the place of an earlier one.
abbrev pub with_timer : ℕ → ℕ → ℕ → List DueAction → List DueAction
with_timer moment rank number timers =
    placed is_listed_before (record { moment = moment; rank = rank; number = number }) (cleared rank number timers)

-- Whether a comes before b: by moment, then by rank, then by number.
abbrev pub is_before : DueAction → DueAction → Bool
is_before a b =
    nat_lt a.moment b.moment
    || ((a.moment == b.moment) && (nat_lt a.rank b.rank || ((a.rank == b.rank) && nat_lt a.number b.number)))

-- The least of these: one that none of them comes before.
abbrev pub least : List DueAction → Option DueAction
least ds = find (λ d. not (list_any (λ e. is_before e d) ds)) ds
