-- What an iterator over fields gives (RFC 9110, section 5.3: the order of fields is kept).
use Rattle.std.specs.Prelude.{◌≡◌, List, [], ◌∷◌, Option, Some, None}
use Rattle.http_edge.specs.Message.{Header}

-- the first of the fields is given, and the others are left; or none is left
abbrev pub GivesField : {A : Type 0} → (A → Header) → List Header → Option A → List Header → Type 0
GivesField header before (Some item) after = before ≡ header item ∷ after
GivesField header before None after = (before ≡ []) × (after ≡ [])
