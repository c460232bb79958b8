-- What the client's connections are sent, as a daemon reads it (RFC 9112, section 9.3: requests follow one another).
use Rattle.std.specs.Prelude.{ℕ, ◌≡◌, IsFalse, List, [], ◌∷◌, map, if◌then◌else◌, ⊤}
use Rattle.std.specs.List.{AllZip}
use Rattle.engine_ports.specs.Sink.{IsFront}
use Rattle.http_edge.specs.Message.{Request}
use Rattle.http_edge.specs.Spelling.{Begins, ReadsAll}
use Rattle.client_model.specs.Plans.{Asked}
use Rattle.client_model.specs.Runs.{Outside, IsEnded, IsBrokenOff}
use Rattle.client_laws.specs.Spelled.{IsShortLine}

-- the bytes are one spelling of the request, and behind it stands the input where that follows, else nothing
abbrev pub IsSent : List ℕ → List ℕ → Asked → Type 0
IsSent input sent asked = Begins sent asked.request (if asked.input then input else [])

-- each connection was sent so, but the last may have been sent a front of it
abbrev pub AreSentUpTo : List ℕ → List (List ℕ) → List Asked → Type 0
AreSentUpTo input [] asked = ⊤
AreSentUpTo input (sent ∷ []) (asked ∷ more) = (whole : List ℕ) × IsFront sent whole × IsSent input whole asked
AreSentUpTo input (sent ∷ sents) (asked ∷ more) = IsSent input sent asked × AreSentUpTo input sents more
AreSentUpTo input sents [] = ⊥

-- of a call that came to its end: each connection was sent one request of the plan, in order
abbrev pub EndedCallsSend : Type 0
EndedCallsSend =
    (words : List (List ℕ)) (status : ℕ) (o o' : Outside) (call : IsEnded words status o o')
    → IsShortLine words
    → AllZip (IsSent call.input) (map (λ x. x.sent) call.xs) call.said.asked

-- of a call that was broken off: all but the last, which may have been sent a front
abbrev pub BrokenCallsSend : Type 0
BrokenCallsSend =
    (words : List (List ℕ)) (status : ℕ) (o o' : Outside) (call : IsBrokenOff words status o o')
    → IsShortLine words
    → AreSentUpTo call.course.input (map (λ x. x.sent) call.course.xs) call.course.said.asked

-- what was sent so is read as that request first
abbrev pub AreReadFirst : Type 0
AreReadFirst =
    (input sent rest : List ℕ) (asked : Asked) (requests : List Request)
    → IsSent input sent asked → ReadsAll sent requests rest
    → (more : List Request) × (requests ≡ asked.request ∷ more)

-- and where no input follows, as that request alone
abbrev pub AreReadAlone : Type 0
AreReadAlone =
    (input sent : List ℕ) (asked : Asked) → IsFalse asked.input
    → IsSent input sent asked → ReadsAll sent (asked.request ∷ []) []
