-- What a watch has seen and given, and what its calls say (Docker Engine API v1.43, definition Health; own: moments rise).
use Rattle.std.specs.Prelude.{ℕ, ◌≡◌, ◌≤◌, ◌<◌, List, [], ◌∷◌, ◌++◌, Option, Some, None, ⊤, nat_lt, if◌then◌else◌}
use Rattle.engine_text.specs.declared.event.Event.{Event}
use Rattle.engine_text.specs.declared.health.HealthSpec.{HealthSpec}
use Rattle.health_watch.specs.declared.health.Change.{Change}
use Rattle.health_watch.specs.declared.mark.Mark.{Mark}
use Rattle.health_watch.specs.Runs.{marks_by}
use Rattle.health_watch.specs.Health.{Standing, idle, health_at}

-- a watch: of which container, by which check, the marks that it has seen, the moment of the last event, and up to which
-- moment it has told the changes
pub record Watched : Type 0 where
  pub id : List ℕ
  pub spec : HealthSpec
  pub marks : List Mark
  pub seen : ℕ
  pub told : Option ℕ

-- the health at a moment; where there is none, before all
abbrev pub health_up_to : HealthSpec → List Mark → Option ℕ → Standing
health_up_to spec marks None = idle []
health_up_to spec marks (Some u) = health_at spec marks u

-- the health at the moment up to which it has told
abbrev pub health_told : Watched → Standing
health_told w = health_up_to w.spec w.marks w.told

-- the changes that it has given
abbrev pub given : Watched → List Change
given w = (health_told w).changes

-- it has told the changes up to that moment
abbrev pub told_to : ℕ → Watched → Watched
told_to u w = record w { told = Some u }

-- it has seen one event more
abbrev pub with_event : Event → Watched → Watched
with_event e w = record w { marks = w.marks ++ marks_by w.id e; seen = e.moment }

-- it has told nothing of that moment
abbrev pub IsUntold : Option ℕ → ℕ → Type 0
IsUntold None m = ⊤
IsUntold (Some u) m = u < m

-- an event of that moment may come: no event was later, and nothing is told of it
abbrev pub MayCome : Watched → ℕ → Type 0
MayCome w m = (w.seen ≤ m) × IsUntold w.told m

-- up to which moment it tells, asked up to u: once told stays told
abbrev pub asked_to : ℕ → Option ℕ → ℕ
asked_to u None = u
asked_to u (Some told) = if nat_lt u told then told else u

-- a change is the first up to u that it hasn't given; without one it has given all of them
abbrev pub NextSays : ℕ → Watched → Option Change → Watched → Type 0
NextSays u old None new =
    (new ≡ told_to (asked_to u old.told) old) × (given new ≡ given old)
NextSays u old (Some c) new =
    (new ≡ told_to c.moment old) × (given new ≡ given old ++ c ∷ [])
    × IsUntold old.told c.moment × (c.moment ≤ u)
