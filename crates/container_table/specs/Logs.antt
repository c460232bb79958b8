-- A container that is held beside its log (own: so that a record's room is known before it comes).
use Rattle.std.specs.Prelude.{◌≡◌, ℕ, ◌-◌, ◌<◌, ◌≤◌, ◌==◌, List, [], ◌∷◌, ◌++◌, Some, ⊤, map, position, slice_index, if◌then◌else◌}
use Rattle.engine_text.specs.declared.container.Container.{Container}
use Rattle.engine_text.specs.declared.log.LogRecord.{LogRecord}
use Rattle.container_table.specs.Lists.{update_first}
use Rattle.container_table.specs.declared.held.Held.{Held}

-- The container with its log.
abbrev pub container_in : Held → Container
container_in h = record h.container { life = record h.container.life { log = h.log.records } }

-- The containers with their logs.
abbrev pub containers_in : List Held → List Container
containers_in = map container_in

-- How many more records its log has room for.
abbrev pub room_in : Held → ℕ
room_in h = h.log.room

-- The log of the container with that number has room for one more record.
abbrev pub FitsLog : ℕ → List Container → List ℕ → Type 0
FitsLog n cs rooms = (i : ℕ) → position (λ c. c.number == n) cs ≡ Some i → 0 < slice_index rooms i

-- The log of the container with that number has one more record.
abbrev pub recorded : ℕ → LogRecord → List Container → List Container
recorded n r cs = update_first (λ c. c.number == n) (λ c. record c { life = record c.life { log = c.life.log ++ r ∷ [] } }) cs

-- The rooms of these containers, that of the container of that number being less by one.
abbrev pub rooms_used : ℕ → List Container → List ℕ → List ℕ
rooms_used n [] rooms = rooms
rooms_used n (c ∷ cs) [] = []
rooms_used n (c ∷ cs) (room ∷ rooms) = if c.number == n then (room - 1) ∷ rooms else room ∷ rooms_used n cs rooms

-- The rooms of these containers without that of the container of that number.
abbrev pub rooms_without : ℕ → List Container → List ℕ → List ℕ
rooms_without n [] rooms = rooms
rooms_without n (c ∷ cs) [] = []
rooms_without n (c ∷ cs) (room ∷ rooms) = if c.number == n then rooms else room ∷ rooms_without n cs rooms

-- None of these rooms is less than it was.
abbrev pub AreNoLess : List ℕ → List ℕ → Type 0
AreNoLess [] [] = ⊤
AreNoLess [] (new ∷ news) = ⊥
AreNoLess (old ∷ olds) [] = ⊥
AreNoLess (old ∷ olds) (new ∷ news) = (old ≤ new) × AreNoLess olds news
