-- What the events of containers tell (Moby manual, container events).
use Rattle.std.specs.Prelude.{ℕ, List, [], ◌∷◌, ◌++◌, true, false, codes}
use Rattle.std.specs.Str.Parse.{digits_value}
use Rattle.engine_text.specs.Lists.{update_first, remove_first}
use Rattle.engine_text.specs.Texts.{same_bytes}
use Rattle.event_ring.specs.Filter.{attribute}
use Rattle.engine_text.specs.declared.event.Event.{Event}
use Rattle.engine_text.specs.declared.event.EventKind.{EventKind}
use Rattle.engine_text.specs.declared.event.EventKind.TheVariants.{Container as OfContainer, Volume as OfVolume}
use Rattle.engine_text.specs.declared.event.FoldRow.{FoldRow}
use Rattle.engine_text.specs.declared.event.Action.{Action}

-- The row of a create.
abbrev pub new_row : Event → FoldRow
new_row e = record { id = e.id; name = attribute (codes "name") e; live = false; paused = false; code = 0 }

-- The row of the event's id, changed.
abbrev pub with_row : Event → (FoldRow → FoldRow) → List FoldRow → List FoldRow
with_row e f = update_first (λ r. same_bytes r.id e.id) f

-- The value of exitCode.
abbrev pub exit_code : Event → ℕ
exit_code e = digits_value 10 (attribute (codes "exitCode") e)

-- What an event of a container does to the rows; the others change nothing.
abbrev pub fold_action : Action → Event → List FoldRow → List FoldRow
fold_action Action.Create e rows = rows ++ new_row e ∷ []
fold_action Action.Start e rows = with_row e (λ r. record r { live = true; code = 0 }) rows
fold_action Action.Die e rows = with_row e (λ r. record r { live = false; paused = false; code = exit_code e }) rows
fold_action Action.Pause e rows = with_row e (λ r. record r { paused = true }) rows
fold_action Action.Unpause e rows = with_row e (λ r. record r { paused = false }) rows
fold_action Action.Rename e rows = with_row e (λ r. record r { name = attribute (codes "name") e }) rows
fold_action Action.Destroy e rows = remove_first (λ r. same_bytes r.id e.id) rows
fold_action _ e rows = rows

-- An event of a volume changes nothing.
abbrev pub fold_kind : EventKind → Event → List FoldRow → List FoldRow
fold_kind OfContainer e rows = fold_action e.action e rows
fold_kind OfVolume e rows = rows

-- The rows after these events, from those before.
abbrev pub fold_on : List FoldRow → List Event → List FoldRow
fold_on rows [] = rows
fold_on rows (e ∷ es) = fold_on (fold_kind e.kind e rows) es

-- The rows after all of these events.
abbrev pub fold_of : List Event → List FoldRow
fold_of = fold_on []
