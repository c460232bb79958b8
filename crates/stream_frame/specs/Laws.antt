-- What holds of every stream of frames (Docker Engine API v1.43, ContainerAttach, "Stream format").
use Rattle.std.specs.Prelude.{ℕ, ◌≡◌, List, []}
use Rattle.engine_text.specs.declared.script.Stream.{Stream}
use Rattle.stream_frame.specs.declared.fault.FrameFault.{FrameFault}
use Rattle.stream_frame.specs.Frames.{Part, frames_of, AreParts, tagged, IsFront, IsFirstWrong}
use Rattle.stream_frame.specs.Demuxing.{Rest, Header, EndsInHeader, EndsInPayload, EndsWrong, HasTaken}

-- a stream is of one list of parts
abbrev pub OneReading : Type 0
OneReading = (parts others : List Part) → AreParts parts → AreParts others
    → frames_of parts ≡ frames_of others → parts ≡ others

-- what isn't faulted begins a stream of frames
abbrev pub GoesOn : Type 0
GoesOn =
    ((stream : List ℕ) (given : List (Stream × ℕ)) (part : List ℕ)
    → EndsInHeader stream given part → IsFront stream)
    × ((stream : List ℕ) (given : List (Stream × ℕ)) (kind : Stream) (missing : ℕ)
    → EndsInPayload stream given kind missing → IsFront stream)

-- a fault is told at the first byte with which no stream of frames goes on
abbrev pub FirstWrong : Type 0
FirstWrong = (stream : List ℕ) (given : List (Stream × ℕ)) (fault : FrameFault)
    (e : EndsWrong stream given fault) → IsFirstWrong e.front e.wrong

-- whoever has taken a whole stream has handed all of its payloads on, and nothing is cut
abbrev pub GivesBack : Type 0
GivesBack = (parts : List Part) (given : List (Stream × ℕ)) (rest : Rest) (at : ℕ) → AreParts parts
    → HasTaken (frames_of parts) given rest at → (given ≡ tagged parts) × (rest ≡ Header [])
