-- `health`: the changes told between events, as these are seen (own).
use Rattle.std.specs.Prelude.{ℕ, zero, suc, ◌≡◌, ◌≤◌, ◌&&◌, List, ◌++◌, map, Option, Some, None, if◌then◌else◌}
use Rattle.std.specs.List.{AllByRecursion}
use Rattle.serde_json.specs.Written.{compact_text}
use Rattle.engine_text.specs.Texts.{same_bytes}
use Rattle.engine_text.specs.declared.event.Event.{Event}
use Rattle.engine_text.specs.declared.pairs.Pair.{Pair}
use Rattle.health_watch.specs.Runs.{is_container}
use Rattle.health_watch.specs.Watching.{Watched, health_told, given, told_to, with_event, asked_to, IsUntold}
use Rattle.health_watch.specs.declared.health.Change.{Change}
use Rattle.client_model.specs.Commands.Health.{change_data}

-- the attributes of the container's last event, behind one more
abbrev pub latest : List ℕ → List Pair → Event → List Pair
latest id found e = if is_container e.kind && same_bytes e.id id then e.attributes else found

-- a line of a change, with the image and the name of these attributes
abbrev pub line_with : List ℕ → List Pair → Change → List ℕ
line_with id attributes change = compact_text (change_data id attributes change)

-- all changes up to a moment that weren't given before were given and told
pub record Tells (id : List ℕ) (attributes : List Pair) (until : ℕ) (w w' : Watched) (lines lines' : List (List ℕ)) : Type 0 where
  pub changes : List Change
  pub is : w' ≡ told_to (asked_to until w.told) w
  pub given_so : given w' ≡ given w ++ changes
  pub lines_so : lines' ≡ lines ++ map (line_with id attributes) changes
  pub between : AllByRecursion (λ c. IsUntold w.told c.moment × (c.moment ≤ until)) changes

-- all before a moment; before the first there is none
abbrev pub TellsBefore : List ℕ → List Pair → ℕ → Watched → Watched → List (List ℕ) → List (List ℕ) → Type 0
TellsBefore id attributes zero w w' lines lines' = (w' ≡ w) × (lines' ≡ lines)
TellsBefore id attributes (suc n) w w' lines lines' = Tells id attributes n w w' lines lines'

-- up to where a watch has told that has told all before a moment
abbrev pub told_before : ℕ → Option ℕ
told_before zero = None
told_before (suc n) = Some n

-- a watch has told all before its last event, and an event of that moment may follow
abbrev pub MayFollow : Watched → ℕ → Type 0
MayFollow w moment = (w.told ≡ told_before w.seen) × (w.seen ≤ moment)

-- all before an event was told, and it was seen
pub record Sees (id : List ℕ) (attributes : List Pair) (e : Event) (w w' : Watched) (lines lines' : List (List ℕ)) : Type 0 where
  pub before : Watched
  pub tells : TellsBefore id attributes e.moment w before lines lines'
  pub is : w' ≡ with_event e before
  pub same : health_told w' ≡ health_told before
