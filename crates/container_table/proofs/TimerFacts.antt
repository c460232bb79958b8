-- Timers by moment, rank and number, worked by hand (own: the timers of this project).
use Rattle.std.specs.Prelude.{◌≡◌, ℕ, [], ◌∷◌, Some, None, refl}
use Rattle.engine_text.specs.declared.step.DueAction.{DueAction}
use Rattle.container_table.specs.Timers.{timer_in, cleared, with_timer, least}

abbrev timer : ℕ → ℕ → ℕ → DueAction
timer moment rank number = record { moment = moment; rank = rank; number = number }

-- the moment counts first, then the rank, then the number
moment_first : least (timer 5 0 0 ∷ timer 4 9 9 ∷ []) ≡ Some (timer 4 9 9)
moment_first = refl

rank_second : least (timer 5 1 2 ∷ timer 5 0 3 ∷ []) ≡ Some (timer 5 0 3)
rank_second = refl

number_last : least (timer 5 1 3 ∷ timer 5 1 2 ∷ []) ≡ Some (timer 5 1 2)
number_last = refl

-- of two that are the same neither comes before the other
same_twice : least (timer 6 0 0 ∷ timer 5 1 2 ∷ timer 5 1 2 ∷ []) ≡ Some (timer 5 1 2)
same_twice = refl

none_due : least [] ≡ None
none_due = refl

-- a timer is set in the place of the one of its rank and number, and of no other
set_again : with_timer 9 1 2 (timer 5 1 2 ∷ timer 5 0 2 ∷ []) ≡ timer 5 0 2 ∷ timer 9 1 2 ∷ []
set_again = refl

-- timers stand in order of rank and number, whatever their moments
in_order_of_rank : with_timer 3 1 2 (timer 5 1 1 ∷ timer 1 2 0 ∷ []) ≡ timer 5 1 1 ∷ timer 3 1 2 ∷ timer 1 2 0 ∷ []
in_order_of_rank = refl

-- cleared and found by both
cleared_one : cleared 1 2 (timer 5 1 3 ∷ timer 5 1 2 ∷ []) ≡ timer 5 1 3 ∷ []
cleared_one = refl

found_one : timer_in 1 2 (timer 5 1 3 ∷ timer 6 1 2 ∷ []) ≡ Some (timer 6 1 2)
found_one = refl
