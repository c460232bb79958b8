-- What a demultiplexer holds, and of which streams (own: the rest of a stream behind its whole frames).
use Rattle.std.specs.Prelude.{ℕ, zero, suc, ◌≡◌, ◌<◌, ◌≤◌, ◌+◌, ◌-◌, ◌^◌, min, List, [], ◌∷◌, ◌++◌, length, map, Result, Ok, Err}
use Rattle.engine_text.specs.declared.script.Stream.{Stream}
use Rattle.stream_frame.specs.Frames.{Part, header_of, frames_of, AreParts, tagged}
use Rattle.stream_frame.specs.declared.fault.FrameFault.{FrameFault}
use Rattle.stream_frame.specs.declared.fault.FrameFault.TheVariants.{BadType, BadPad}
use Rattle.stream_frame.specs.declared.fault.Ended.{Ended}
use Rattle.stream_frame.specs.declared.fault.Ended.TheVariants as ended

-- what stands behind the whole frames: a part of a header; a header whose payload lacks so many
-- bytes, at least one; or a wrong byte
pub data Rest : Type 0 where
  Header : List ℕ → Rest
  Payload : Stream → ℕ → Rest
  Faulted : FrameFault → Rest

-- a demultiplexer: that rest, and how many bytes came, up to the greatest u64
pub record Held : Type 0 where
  pub rest : Rest
  pub at : ℕ

-- bytes, each below 256
abbrev pub AreBytes : List ℕ → Type 0
AreBytes [] = Unit {0}
AreBytes (b ∷ bytes) = (b < 256) × AreBytes bytes

-- so many zero bytes, as far as they have come, and then bytes
abbrev pub ArePads : ℕ → List ℕ → Type 0
ArePads zero sizes = AreBytes sizes
ArePads (suc n) [] = Unit {0}
ArePads (suc n) (pad ∷ rest) = (pad ≡ 0) × ArePads n rest

-- a header as far as it has come: a stream's number, three zero bytes, bytes of a size
abbrev pub IsHeaderPart : List ℕ → Type 0
IsHeaderPart [] = Unit {0}
IsHeaderPart (kind ∷ rest) = (kind ≤ 2) × ArePads 3 rest

-- a byte that can't stand behind this part of a header, and the fault that tells its place
abbrev pub IsWrong : List ℕ → ℕ → FrameFault → ℕ → Type 0
IsWrong part byte (BadType at) place = (part ≡ []) × (2 < byte) × (at ≡ place)
IsWrong part byte (BadPad at) place =
    (0 < length part) × (length part < 4) × (0 < byte) × (at ≡ place)

-- the place of the byte behind these, counted up to the greatest u64
abbrev pub place_behind : List ℕ → ℕ
place_behind bytes = min (length bytes) (2 ^ 64 - 1)

-- whole frames, and then a part of a header
pub record EndsInHeader (stream : List ℕ) (given : List (Stream × ℕ)) (part : List ℕ) : Type 0 where
  pub parts : List Part
  pub are_parts : AreParts parts
  pub stream_is : stream ≡ frames_of parts ++ part
  pub short : length part < 8
  pub begins : IsHeaderPart part
  pub given_is : given ≡ tagged parts

-- whole frames, and then a header and a payload that lacks so many bytes, at least one
pub record EndsInPayload (stream : List ℕ) (given : List (Stream × ℕ)) (kind : Stream) (missing : ℕ)
    : Type 0 where
  pub parts : List Part
  pub are_parts : AreParts parts
  pub got : List ℕ
  pub stream_is : stream ≡ frames_of parts ++ header_of kind (length got + missing) ++ got
  pub size : length got + missing < 2 ^ 32
  pub lacks : 0 < missing
  pub given_is : given ≡ tagged parts ++ map (λ byte. (kind, byte)) got

-- whole frames, a part of a header, a byte that can't stand behind it, and any bytes
pub record EndsWrong (stream : List ℕ) (given : List (Stream × ℕ)) (fault : FrameFault) : Type 0 where
  pub front : List ℕ
  pub part : List ℕ
  pub wrong : ℕ
  pub more : List ℕ
  pub stream_is : stream ≡ front ++ wrong ∷ more
  pub right : EndsInHeader front given part
  pub is_wrong : IsWrong part wrong fault (place_behind front)

-- the demultiplexer has taken this stream, and handed these bytes of payloads on
abbrev pub HasTaken : List ℕ → List (Stream × ℕ) → Rest → ℕ → Type 0
HasTaken stream given (Header part) at = EndsInHeader stream given part × (at ≡ place_behind stream)
HasTaken stream given (Payload kind missing) at =
    EndsInPayload stream given kind missing × (at ≡ place_behind stream)
HasTaken stream given (Faulted fault) at = EndsWrong stream given fault

abbrev pub Demuxed : List ℕ → List (Stream × ℕ) → Held → Type 0
Demuxed stream given held = HasTaken stream given held.rest held.at

-- how a stream ends there
abbrev pub ended_of : Rest → Ended
ended_of (Header []) = ended.Whole
ended_of (Header (b ∷ part)) = ended.CutHeader (length (b ∷ part))
ended_of (Payload kind missing) = ended.CutPayload missing
ended_of (Faulted fault) = ended.Faulted fault

-- one item: bytes of a payload, or the fault
abbrev pub Item : Type 0
Item = Result Part FrameFault

-- a fault is told as the last item
abbrev pub told_by : Rest → List Item
told_by (Header part) = []
told_by (Payload kind missing) = []
told_by (Faulted fault) = Err fault ∷ []

-- none of the parts is empty
abbrev pub AreFull : List Part → Type 0
AreFull [] = Unit {0}
AreFull (part ∷ parts) = (0 < length part.1) × AreFull parts

-- what a piece adds: its items are parts, none empty, and at last the fault, if there is one; with
-- all before, the parts are the payload bytes of the frames so far, in order
pub record Adds (old : Held) (piece : List ℕ) (items : List Item) (new : Held) : Type 0 where
  pub parts : List Part
  pub items_are : items ≡ map Ok parts ++ told_by new.rest
  pub full : AreFull parts
  pub goes_on : (stream : List ℕ) (given : List (Stream × ℕ)) → Demuxed stream given old
      → Demuxed (stream ++ piece) (given ++ tagged parts) new
