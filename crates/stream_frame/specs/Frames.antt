-- The frames of a multiplexed stream (Docker Engine API v1.43, ContainerAttach, "Stream format").
use Rattle.std.specs.Prelude.{ℕ, ◌≡◌, ◌<◌, ◌^◌, List, [], ◌∷◌, ◌++◌, length, map, Bool, true, false}
use Rattle.std.specs.List.{flat_map, filter}
use Rattle.std.specs.Int.{w32, to_be_bytes}
use Rattle.engine_text.specs.declared.script.Stream.{Stream}
use Rattle.engine_text.specs.declared.script.Stream.TheVariants.{Stdin, Stdout, Stderr}

-- what one frame carries: its stream, and the payload
abbrev pub Part : Type 0
Part = Stream × List ℕ

-- the number of a stream
abbrev pub stream_byte : Stream → ℕ
stream_byte Stdin = 0
stream_byte Stdout = 1
stream_byte Stderr = 2

-- a header: the stream's number, three zero bytes, and the size, its most significant byte first
abbrev pub header_of : Stream → ℕ → List ℕ
header_of kind size = stream_byte kind ∷ 0 ∷ 0 ∷ 0 ∷ to_be_bytes w32 size

abbrev pub frame_of : Part → List ℕ
frame_of part = header_of part.0 (length part.1) ++ part.1

-- the stream of these parts, a frame each
abbrev pub frames_of : List Part → List ℕ
frames_of [] = []
frames_of (part ∷ parts) = frame_of part ++ frames_of parts

-- a payload that a header can announce
abbrev pub AreParts : List Part → Type 0
AreParts [] = Unit {0}
AreParts (part ∷ parts) = (length part.1 < 2 ^ 32) × AreParts parts

-- the bytes that parts carry, each with its stream, in order
abbrev pub tagged : List Part → List (Stream × ℕ)
tagged parts = flat_map (λ part. map (λ byte. (part.0, byte)) part.1) parts

abbrev pub same_stream : Stream → Stream → Bool
same_stream Stdin Stdin = true
same_stream Stdout Stdout = true
same_stream Stderr Stderr = true
same_stream a b = false

-- what parts carry of one stream, joined
abbrev pub payload_of : Stream → List Part → List ℕ
payload_of kind parts = map (λ tag. tag.1) (filter (λ tag. same_stream kind tag.0) (tagged parts))

-- some stream of frames begins with these bytes
abbrev pub IsFront : List ℕ → Type 0
IsFront bytes = (parts : List Part) × (more : List ℕ) × AreParts parts × (bytes ++ more ≡ frames_of parts)

-- the byte behind these is the first with which no stream of frames goes on
abbrev pub IsFirstWrong : List ℕ → ℕ → Type 0
IsFirstWrong bytes wrong = IsFront bytes × (IsFront (bytes ++ wrong ∷ []) → ⊥)
