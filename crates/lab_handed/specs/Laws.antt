-- What holds of requests that are handed on otherwise (RFC 9112, sections 3 and 5; own: how).
use Rattle.std.specs.Prelude.{◌≡◌, ◌⊎◌, ℕ, List, Some, not, codes}
use Rattle.http_edge.specs.Message.{Request}
use Rattle.http_edge.specs.Asks.{has_field, asks_early}
use Rattle.http_edge.specs.Spelling.{head_framing, Spells}
use Rattle.http_edge.specs.declared.asks.Want.TheVariants.{Value}
use Rattle.http_edge.specs.declared.framing.Framing.TheVariants.{Length}
use Rattle.lab_handed.specs.Early.{with_field}
use Rattle.lab_handed.specs.Changes.{change_of, changed, handed}
use Rattle.lab_handed.specs.declared.changing.Change.{Change}

-- what is handed on in the place of a head without a body spells the request as it is seen then, or, where it has no room, as it came
abbrev pub ChangedIsHanded : Type 0
ChangedIsHanded =
    (change : Change) (spelling : List ℕ) (request : Request) (spells : Spells spelling request) → head_framing spells.head ≡ Length 0
    → change_of request ≡ Some change → Spells (handed change spelling) request ⊎ Spells (handed change spelling) (changed change request)

-- a request with the field asks for an early head, where no field says no
abbrev pub AsksEarly : Type 0
AsksEarly =
    (request : Request)
    → asks_early (with_field request) ≡ not (has_field (codes "x-engine-early") Value (codes "no") request.fields)
