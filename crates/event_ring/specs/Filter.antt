-- Filters of events (Docker Engine API v1.43, SystemEvents; own: how a value fits, and the two spellings of the one image).
use Rattle.std.specs.Prelude.{ℕ, List, [], Bool, true, false, ◌&&◌, ◌||◌, if◌then◌else◌, Option, Some, None, codes, find}
use Rattle.std.specs.List.{list_any, list_all}
use Rattle.engine_text.specs.Texts.{same_bytes}
use Rattle.api_json.specs.Values.{image_name}
use Rattle.api_json.specs.Event.{kind_word, action_word}
use Rattle.engine_text.specs.declared.filter.FilterRow.{FilterRow}
use Rattle.engine_text.specs.declared.filter.FilterKey.{FilterKey}
use Rattle.engine_text.specs.declared.filter.FilterKey.TheVariants as Key
use Rattle.engine_text.specs.declared.pairs.Pair.{Pair}
use Rattle.engine_text.specs.declared.event.Event.{Event}
use Rattle.engine_text.specs.declared.event.EventKind.{EventKind}
use Rattle.engine_text.specs.declared.event.EventKind.TheVariants.{Container as OfContainer, Volume as OfVolume}

-- One value fits; for Label every value.
abbrev pub row_passes : FilterKey → (List ℕ → Bool) → List (List ℕ) → Bool
row_passes Key.Label fits values = list_all fits values
row_passes _ fits values = list_any fits values

-- An item of which this tells what fits, key by key.
abbrev pub passes : (FilterKey → List ℕ → Bool) → List FilterRow → Bool
passes fits rows = list_all (λ r. row_passes r.key (fits r.key) r.values) rows

-- Either spelling.
abbrev pub is_image : List ℕ → Bool
is_image image = same_bytes image image_name || same_bytes image (codes "engine/tools")

-- Whether an event is of a container.
abbrev pub is_of_container : EventKind → Bool
is_of_container OfContainer = true
is_of_container OfVolume = false

-- The value of an attribute that was found.
abbrev pub value_of : Option Pair → List ℕ
value_of None = []
value_of (Some p) = p.value

-- The value of an event's attribute, empty where it has none.
abbrev pub attribute : List ℕ → Event → List ℕ
attribute key e = value_of (find (λ p. same_bytes p.key key) e.attributes)

-- Whether an event fits a value of a key of events.
abbrev pub event_fits : Event → FilterKey → List ℕ → Bool
event_fits e Key.Kind value = same_bytes (kind_word e.kind) value
event_fits e Key.Action value = same_bytes (action_word e.action) value
event_fits e Key.Container value =
    is_of_container e.kind && (same_bytes e.id value || same_bytes (attribute (codes "name") e) value)
event_fits e Key.Image value = is_of_container e.kind && is_image value
event_fits e Key.Volume value = if is_of_container e.kind then false else same_bytes e.id value
event_fits e _ value = false

-- Whether an event passes a filter.
abbrev pub event_passes : List FilterRow → Event → Bool
event_passes filter e = passes (event_fits e) filter
