-- What holds of a connection behind a front, whatever comes on it (own).
use Rattle.std.specs.Prelude.{ℕ, ◌≡◌, ◌⊎◌, List, [], ◌∷◌, ◌++◌}
use Rattle.engine_ports.specs.Source.{SourceView, SourceGave}
use Rattle.engine_ports.specs.Sink.{SinkView, SinkTook}
use Rattle.http_edge.specs.Message.{Request}
use Rattle.http_edge.specs.Spelling.{ReadsRequests}
use Rattle.lab_handed.specs.Changes.{changed}
use Rattle.front_session.specs.Ways.{way_of}
use Rattle.front_session.specs.Fronts.{Deed, Hands, Writes, handing, writing, Fronts, IsFronted}
use Rattle.front_session.specs.Front.{new_front}
use Rattle.front_session.specs.Reads.{Whole, whole, Progress}
use Rattle.front_session.specs.declared.choosing.Way.{Way}
use Rattle.front_session.specs.declared.choosing.Way.TheVariants.{Answered, Closes, Changed}
use Rattle.front_session.specs.declared.standing.Stage.TheVariants.{Ended, Lost}

-- ---- bytes

-- whatever the bytes are, a front does something with them
abbrev pub HaveSomeFront : Type 0
HaveSomeFront = (bytes : List ℕ) → (deeds : List Deed) × IsFronted bytes deeds

-- and nothing else
abbrev pub HaveOneFront : Type 0
HaveOneFront = (bytes : List ℕ) (deeds others : List Deed) → IsFronted bytes deeds → IsFronted bytes others → deeds ≡ others

-- the bytes that are handed on, and those that are written
abbrev pub handed_of : List Deed → List ℕ
handed_of [] = []
handed_of (Hands byte ∷ deeds) = byte ∷ handed_of deeds
handed_of (Writes text ∷ deeds) = handed_of deeds

abbrev pub written_of : List Deed → List ℕ
written_of [] = []
written_of (Hands byte ∷ deeds) = written_of deeds
written_of (Writes text ∷ deeds) = text ++ written_of deeds

-- a request as it is seen behind the front: as it came, or changed, where its head has room
abbrev pub IsSeenAs : Way → Request → Request → Type 0
IsSeenAs (Changed change) request seen = (seen ≡ request) ⊎ (seen ≡ changed change request)
IsSeenAs way request seen = seen ≡ request

-- what is seen of a request and of others: nothing of what the front answers
abbrev pub SeenBy : Way → Request → (List Request → Type 0) → List Request → Type 0
SeenBy (Answered row) request Others seen = Others seen
SeenBy (Closes row) request Others seen = Others seen
SeenBy way request Others seen =
    (first : Request) × (others : List Request) × (seen ≡ first ∷ others) × IsSeenAs way request first × Others others

-- the requests that the front doesn't answer, as they are seen
abbrev pub AreSeen : List Request → List Request → Type 0
AreSeen [] seen = seen ≡ []
AreSeen (request ∷ requests) seen = SeenBy (way_of request) request (AreSeen requests) seen

-- what is handed on reads as the requests that the front doesn't answer, as they are seen, and the rest, or none of it behind an answer that
-- closes
abbrev pub SessionsSeeOthers : Type 0
SessionsSeeOthers =
    (requests : List Request) (bytes : List ℕ) (deeds : List Deed) → Fronts requests bytes deeds
    → (rest : List ℕ) × (left : List ℕ) × (seen : List Request) × ReadsRequests bytes requests rest
    × ReadsRequests (handed_of deeds) seen left × AreSeen requests seen × ((left ≡ rest) ⊎ (left ≡ []))

-- ---- reads

-- reads one after another, and what they did
pub data Runs : Whole → List Deed → Whole → Type 0 where
  NoneYet : (f : Whole) → Runs f [] f
  OneMore : (a b c : Whole) (deeds : List Deed) (texts : List (List ℕ)) (handed : List ℕ) → Runs a deeds b → Progress b c texts handed
      → Runs a (deeds ++ (writing texts ++ handing handed)) c

-- what they did is the first of what a front does with the bytes that it was given and those that come, until an answer is lost; where
-- the source ended none come
abbrev pub RunsAreFronts : Type 0
RunsAreFronts =
    (source : SourceView) (sink : SinkView) (deeds : List Deed) (f : Whole) → Runs (whole source sink new_front) deeds f
    → (f.front.stage ≡ Lost → ⊥) → (more : List ℕ) → (f.front.stage ≡ Ended → more ≡ [])
    → (read : List ℕ) × (later : List Deed) × SourceGave source read f.source × SinkTook sink (written_of deeds) f.sink
    × IsFronted (read ++ more) (deeds ++ later)
