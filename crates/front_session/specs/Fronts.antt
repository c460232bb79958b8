-- What a front does with the bytes of a connection, in order (own).
use Rattle.std.specs.Prelude.{ℕ, ◌≡◌, ◌⊎◌, List, [], ◌∷◌, ◌++◌, map}
use Rattle.http_edge.specs.Message.{Request}
use Rattle.http_edge.specs.Spelling.{Spells, Begins, HasNoRequest}
use Rattle.json_answer.specs.Answer.{terms_of, json_answer}
use Rattle.lab_front.specs.Texts.{status_of, text_of}
use Rattle.lab_front.specs.declared.table.Row.{Row}
use Rattle.lab_handed.specs.Changes.{handed}
use Rattle.front_session.specs.Ways.{way_of}
use Rattle.front_session.specs.declared.choosing.Way.{Way}
use Rattle.front_session.specs.declared.choosing.Way.TheVariants.{Answered, Closes, HandedOn, Changed}

-- it hands a byte on, or writes an answer
pub data Deed : Type 0 where
  Hands : ℕ → Deed
  Writes : List ℕ → Deed

-- these bytes are handed on
abbrev pub handing : List ℕ → List Deed
handing bytes = map Hands bytes

-- these answers are written
abbrev pub writing : List (List ℕ) → List Deed
writing texts = map Writes texts

-- the answer of a row to the request
abbrev pub answer_by : Request → Row → List ℕ
answer_by request row = json_answer (terms_of request) (status_of row) (text_of row)

-- a request that these bytes spell is answered, or its bytes are handed on, or those of the changed request
abbrev pub deeds_by : Way → Request → List ℕ → List Deed
deeds_by (Answered row) request spelling = Writes (answer_by request row) ∷ []
deeds_by (Changed change) request spelling = handing (handed change spelling)
deeds_by way request spelling = handing spelling

-- what is behind it is looked at, too
abbrev pub GoesOn : Way → Type 0
GoesOn (Answered row) = Unit {0}
GoesOn (HandedOn count) = Unit {0}
GoesOn (Changed change) = Unit {0}
GoesOn way = ⊥

-- with the last request that is looked at, these bytes are handed on, or it is answered
abbrev pub last_deeds : Way → Request → List ℕ → List Deed
last_deeds (Closes row) request bytes = Writes (answer_by request row) ∷ []
last_deeds way request bytes = handing bytes

-- the bytes begin with no request, and all is handed on; or with the last one
abbrev pub Lasts : List ℕ → List Deed → Type 0
Lasts bytes deeds =
    (HasNoRequest bytes × (deeds ≡ handing bytes))
    ⊎ ((request : Request) × (behind : List ℕ) × Begins bytes request behind × (GoesOn (way_of request) → ⊥)
    × (deeds ≡ last_deeds (way_of request) request bytes))

-- the bytes are these requests, one after another, each treated by itself, and what comes last
abbrev pub Fronts : List Request → List ℕ → List Deed → Type 0
Fronts [] bytes deeds = Lasts bytes deeds
Fronts (r ∷ rs) bytes deeds =
    (spelling : List ℕ) × (behind : List ℕ) × (later : List Deed) × Spells spelling r × (bytes ≡ spelling ++ behind)
    × GoesOn (way_of r) × (deeds ≡ deeds_by (way_of r) r spelling ++ later) × Fronts rs behind later

-- that is what a front does with the bytes
abbrev pub IsFronted : List ℕ → List Deed → Type 0
IsFronted bytes deeds = (requests : List Request) × Fronts requests bytes deeds
