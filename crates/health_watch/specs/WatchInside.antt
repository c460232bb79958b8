-- own: what a watch holds, as what it has seen and told.
use Rattle.std.specs.Prelude.{ℕ, ◌≡◌, ◌≤◌, ◌+◌, List, Option, Some, None}
use Rattle.std.specs.List.{AllByRecursion}
use Rattle.engine_text.specs.declared.health.HealthSpec.{HealthSpec}
use Rattle.health_watch.specs.declared.mark.Mark.{Mark}
use Rattle.health_watch.specs.declared.reached.Reached.{Reached}
use Rattle.health_watch.specs.declared.watch.Watch.TheInside.{Inside}
use Rattle.health_watch.specs.Watching.{Watched, health_up_to}
use Rattle.health_watch.specs.Reaching.{standing_in}
use Rattle.health_watch.specs.Advancing.{IsTimed, IsAt}

-- its fields as what callers see
abbrev pub watch_inside : Inside → Watched
watch_inside w = record { id = w.id; spec = w.spec; marks = w.marks.items; seen = w.seen; told = w.told }

-- no mark is later than that moment
abbrev pub IsLatest : List Mark → ℕ → Type 0
IsLatest marks m = AllByRecursion (λ (k : Mark). k.moment ≤ m) marks

-- what is behind it: all up to the moment up to which it has told
abbrev pub from_by : Option ℕ → ℕ
from_by None = 0
from_by (Some u) = u + 1

abbrev pub since_by : Option ℕ → ℕ
since_by None = 0
since_by (Some u) = u

-- it stands at the moment up to which it has told, with the health of that moment
pub record StandsAt (spec : HealthSpec) (marks : List Mark) (place : ℕ) (reached : Reached) (told : Option ℕ) : Type 0 where
  pub at : IsAt spec marks place reached (health_up_to spec marks told).changes (from_by told) (since_by told)
  pub health : health_up_to spec marks told ≡ standing_in reached.tally (health_up_to spec marks told).changes

pub record IsSoundWatch (w : Inside) : Type 0 where
  pub timed : IsTimed w.spec
  pub latest : IsLatest w.marks.items w.seen
  pub stands : StandsAt w.spec w.marks.items w.position.place w.position.reached w.told
