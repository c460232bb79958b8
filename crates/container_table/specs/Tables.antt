-- What a table holds, and its containers by number, id and name (own).
use Rattle.std.specs.Prelude.{ℕ, ◌==◌, ◌&&◌, nat_lt, Bool, List, [], Option, find}
use Rattle.std.specs.List.{list_all}
use Rattle.std.specs.Option.{is_none}
use Rattle.engine_text.specs.Texts.{same_bytes}
use Rattle.engine_text.specs.declared.container.Container.{Container}
use Rattle.container_table.specs.Lists.{update_first, remove_first}
use Rattle.engine_text.specs.declared.step.DueAction.{DueAction}

-- Containers in order of number, and how many more records each one's log has room for; timers by rank and number; and for how many of
-- each there is memory.
pub record Holdings : Type 0 where
  pub containers : List Container
  pub logs : List ℕ
  pub timers : List DueAction
  pub places : ℕ
  pub timer_places : ℕ

-- The table in which nothing is.
abbrev pub no_holdings : Holdings
no_holdings = record { containers = []; logs = []; timers = []; places = 0; timer_places = 0 }

-- The container of that number.
abbrev pub numbered : ℕ → List Container → Option Container
numbered n cs = find (λ c. c.number == n) cs

-- The container of that id.
abbrev pub with_id : List ℕ → List Container → Option Container
with_id id cs = find (λ c. same_bytes c.id id) cs

-- The container of that name.
abbrev pub named : List ℕ → List Container → Option Container
named name cs = find (λ c. same_bytes c.name name) cs

-- Whether the number is above those of all.
abbrev pub is_above : ℕ → List Container → Bool
is_above n cs = list_all (λ c. nat_lt c.number n) cs

-- Whether a container of that number, id and name can be added: the number is above the others, id and name are new.
abbrev pub is_free : ℕ → List ℕ → List ℕ → List Container → Bool
is_free n id name cs = is_above n cs && (is_none (with_id id cs) && is_none (named name cs))

-- Without the container of that number.
abbrev pub without : ℕ → List Container → List Container
without n cs = remove_first (λ c. c.number == n) cs

-- The container of that number has another name.
abbrev pub renamed : ℕ → List ℕ → List Container → List Container
renamed n name cs = update_first (λ c. c.number == n) (λ c. record c { name = name }) cs

-- Timers alone, and for how many there is memory.
pub record Timed : Type 0 where
  pub timers : List DueAction
  pub places : ℕ
