-- Where a text's first line ends (own: a line ends with its line end, and has no other).
use Rattle.std.specs.Prelude.{◌≡◌, ◌==◌, ℕ, List, [], ◌∷◌, ◌++◌, All, false, Option, Some, None, Result, Ok, Err, ⊤}
use Rattle.engine_text.specs.declared.event.Event.{Event}
use Rattle.engine_text.specs.declared.event.FoldRow.{FoldRow}
use Rattle.event_ring.specs.Fold.{fold_kind}
use Rattle.client_model.specs.declared.fault.Fault.{Fault}
use Rattle.client_model.specs.declared.fault.Fault.TheVariants as F

-- no byte is a line end
abbrev pub HasNoLineEnd : List ℕ → Type 0
HasNoLineEnd bytes = All (λ b. (b == 10) ≡ false) bytes

-- a text begins with this line, and that is left
abbrev pub IsCut : List ℕ → List ℕ → List ℕ → Type 0
IsCut text line rest = (front : List ℕ) × HasNoLineEnd front × (line ≡ front ++ 10 ∷ []) × (line ++ rest ≡ text)

-- the rows behind an event; or nothing is an event, or memory was refused
abbrev pub FoldsOrFails : Result (Unit {0}) Fault → Option Event → List FoldRow → List FoldRow → Type 0
FoldsOrFails (Ok x) meaning rows rows' = (e : Event) × (meaning ≡ Some e) × (rows' ≡ fold_kind e.kind e rows)
FoldsOrFails (Err F.Answer) meaning rows rows' = meaning ≡ None
FoldsOrFails (Err F.NoMemory) meaning rows rows' = ⊤
FoldsOrFails (Err fault) meaning rows rows' = ⊥
