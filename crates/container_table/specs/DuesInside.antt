-- What stands inside of a list of what is due (own).
use Rattle.std.specs.Prelude.{◌≡◌, List, [], ◌∷◌, false}
use Rattle.std.specs.List.{AllByRecursion}
use Rattle.std.specs.VecDeque.{deque_capacity}
use Rattle.engine_text.specs.declared.step.DueAction.{DueAction}
use Rattle.container_table.specs.Dues.{DueList}
use Rattle.container_table.specs.Timers.{is_before}
use Rattle.container_table.specs.declared.dues.Dues.TheInside.{Inside}

-- The actions, and for how many there is memory.
abbrev pub due_list : Inside → DueList
due_list a = record { actions = a.list.items; places = deque_capacity a.list }

-- None comes before one that stands ahead of it.
abbrev pub IsUnreversed : List DueAction → Type 0
IsUnreversed [] = Unit {0}
IsUnreversed (x ∷ xs) = AllByRecursion (λ y. is_before y x ≡ false) xs × IsUnreversed xs

-- So they stand.
abbrev pub StandInOrder : Inside → Type 0
StandInOrder a = IsUnreversed a.list.items
