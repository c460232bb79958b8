-- What is due of processes (own: in order of moment, rank and number, so that the least comes first).
use Rattle.std.specs.Prelude.{ℕ, ◌==◌, ◌&&◌, Bool, false, List, Option, None, Some}
use Rattle.engine_text.specs.declared.step.DueAction.{DueAction}
use Rattle.container_table.specs.Lists.{placed, remove_first}
use Rattle.container_table.specs.Timers.{is_before}

-- The actions in order, and for how many there is memory.
pub record DueList : Type 0 where
  pub actions : List DueAction
  pub places : ℕ

-- Whether the two are one.
abbrev pub is_same : DueAction → DueAction → Bool
is_same a b = (a.moment == b.moment) && ((a.rank == b.rank) && (a.number == b.number))

-- The list with one more, in its place.
abbrev pub with_due : DueAction → List DueAction → List DueAction
with_due d ds = placed is_before d ds

-- The list without it, once.
abbrev pub without_due : DueAction → List DueAction → List DueAction
without_due d ds = remove_first (is_same d) ds

-- Whether it is the one that was found.
abbrev pub is_found : DueAction → Option DueAction → Bool
is_found d None = false
is_found d (Some found) = is_same d found
