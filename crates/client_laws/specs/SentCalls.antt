-- What each connection of the client is sent, as the daemon reads and classifies it (RFC 9112, section 9.3).
use Rattle.std.specs.Prelude.{ℕ, ◌≡◌, ◌⊎◌, List, [], ◌∷◌, map, if◌then◌else◌, ⊤}
use Rattle.std.specs.List.{AllZip}
use Rattle.engine_ports.specs.Sink.{IsFront}
use Rattle.http_edge.specs.Message.{Request}
use Rattle.http_edge.specs.Spelling.{Begins}
use Rattle.response_reader.specs.Answers.{Answer}
use Rattle.api_routes.specs.Class.{class_of}
use Rattle.client_model.specs.Runs.{Outside, IsEnded, IsBrokenOff}
use Rattle.client_laws.specs.Spelled.{IsShortLine}
use Rattle.client_laws.specs.Table.{Entry, calls_for}
use Rattle.client_laws.specs.Asked.{AreAnsweredFirst, AreToldSoFar}

-- one spelling of a request that has this class, and behind it the input where it follows, else nothing
abbrev pub IsSentAs : List ℕ → List ℕ → Entry → Type 0
IsSentAs input sent entry =
    (request : Request) × (class_of request ≡ entry.class) × Begins sent request (if entry.input then input else [])

-- each connection was sent so, but the last may have been sent a front of it
abbrev pub AreSentAsUpTo : List ℕ → List (List ℕ) → List Entry → Type 0
AreSentAsUpTo input [] entries = ⊤
AreSentAsUpTo input (sent ∷ []) (entry ∷ more) = (whole : List ℕ) × IsFront sent whole × IsSentAs input whole entry
AreSentAsUpTo input (sent ∷ sents) (entry ∷ more) = IsSentAs input sent entry × AreSentAsUpTo input sents more
AreSentAsUpTo input sents [] = ⊥

-- ---- of words that have, with one byte more for each, at most 4,096 bytes

-- The connections of a run that came to its end were sent, one each and in order, the requests of the table, by the line's words
-- and by the answers that they gave.
abbrev pub SendsCalls : List (List ℕ) → Type 0
SendsCalls words = (status : ℕ) (o o' : Outside) (run : IsEnded words status o o') → IsShortLine words
    → AllZip (IsSentAs run.input) (map (λ x. x.sent) run.xs) (calls_for words run.answers)

-- so were those of a run that was broken off, as far as they came, by the answers so far
abbrev pub SendsCallsSoFar : List (List ℕ) → Type 0
SendsCallsSoFar words = (status : ℕ) (o o' : Outside) (run : IsBrokenOff words status o o') → IsShortLine words
    → (answers : List Answer)
    × (AreAnsweredFirst run.course.xs run.course.said.asked answers ⊎ AreToldSoFar run.course.xs run.course.said.asked answers)
    × AreSentAsUpTo run.course.input (map (λ x. x.sent) run.course.xs) (calls_for words answers)
