-- What one byte does to a demultiplexer, and the items of a piece (own: for the code below).
use Rattle.std.specs.Prelude.{ℕ, zero, suc, ◌≡◌, ◌<◌, ◌≤◌, ◌+◌, ◌-◌, ◌^◌, ◌==◌, min, nat_le, slice_index, List, [], ◌∷◌, ◌++◌, length, take, drop, if◌then◌else◌, Ok, Err}
use Rattle.std.specs.Int.{w32, from_be_bytes}
use Rattle.engine_text.specs.declared.script.Stream.{Stream}
use Rattle.engine_text.specs.declared.script.Stream.TheVariants.{Stdin, Stdout, Stderr}
use Rattle.stream_frame.specs.Demuxing.{Rest, Header, Payload, Faulted, Held, Item, told_by}
use Rattle.stream_frame.specs.declared.fault.FrameFault.TheVariants.{BadType, BadPad}
use Rattle.stream_frame.specs.declared.demux.Next.{Next}
use Rattle.stream_frame.specs.declared.demux.Next.TheVariants as next

-- what a demultiplexer of the code stands for
abbrev pub rest_of : List ℕ → Next → Rest
rest_of header (next.Header have) = Header (take have header)
rest_of header (next.Payload kind missing) = Payload kind missing
rest_of header (next.Faulted fault) = Faulted fault

-- one byte more has come
abbrev pub counted : ℕ → ℕ → ℕ
counted n at = min (at + n) (2 ^ 64 - 1)

-- the stream of a number up to 2
abbrev pub stream_of : ℕ → Stream
stream_of zero = Stdin
stream_of (suc zero) = Stdout
stream_of (suc (suc n)) = Stderr

-- behind a whole header: its payload, or the next header where that is empty
abbrev pub behind_header : ℕ → ℕ → Rest
behind_header kind zero = Header []
behind_header kind (suc size) = Payload (stream_of kind) (suc size)

-- a byte behind a part of a header
abbrev pub header_byte : List ℕ → ℕ → ℕ → Rest
header_byte part byte at =
    if nat_le (length part) 0
    then (if nat_le byte 2 then Header (part ++ byte ∷ []) else Faulted (BadType at))
    else (if nat_le (length part) 3
    then (if byte == 0 then Header (part ++ byte ∷ []) else Faulted (BadPad at))
    else (if nat_le (length part) 6
    then Header (part ++ byte ∷ [])
    else behind_header (slice_index part 0) (from_be_bytes w32 (drop 4 (part ++ byte ∷ [])))))

-- behind so many bytes of a payload
abbrev pub payload_rest : Stream → ℕ → ℕ → Rest
payload_rest kind missing n = if nat_le missing n then Header [] else Payload kind (missing - n)

-- one byte more
abbrev pub by_byte : Rest → ℕ → ℕ → Held
by_byte (Header part) byte at = record { rest = header_byte part byte at; at = counted 1 at }
by_byte (Payload kind missing) byte at = record { rest = payload_rest kind missing 1; at = counted 1 at }
by_byte (Faulted fault) byte at = record { rest = Faulted fault; at = at }

-- so many bytes of a payload more
abbrev pub by_payload : Stream → ℕ → ℕ → ℕ → Held
by_payload kind missing n at = record { rest = payload_rest kind missing n; at = counted n at }

-- a whole piece more
abbrev pub held_after : Held → List ℕ → Held
held_after held [] = held
held_after held (byte ∷ piece) = held_after (by_byte held.rest byte held.at) piece

-- a byte of a payload before the items that follow it
abbrev pub extend : Stream → ℕ → List Item → List Item
extend kind byte [] = Ok (kind, byte ∷ []) ∷ []
extend kind byte (Ok part ∷ items) = Ok (part.0, byte ∷ part.1) ∷ items
extend kind byte (Err fault ∷ items) = Ok (kind, byte ∷ []) ∷ Err fault ∷ items

-- the last byte of a payload is an item's last; another goes on with the items that follow
abbrev pub put_byte : Rest → ℕ → List Item → List Item
put_byte (Header part) byte items = items
put_byte (Payload kind missing) byte items =
    if nat_le missing 1 then Ok (kind, byte ∷ []) ∷ items else extend kind byte items
put_byte (Faulted fault) byte items = items

-- the items of a piece
abbrev pub items_of : Held → List ℕ → List Item
items_of held [] = told_by held.rest
items_of held (byte ∷ piece) =
    put_byte held.rest byte (items_of (by_byte held.rest byte held.at) piece)

-- fewer than eight bytes of a header, or at least one byte of a payload
abbrev pub IsSoundNext : Next → Type 0
IsSoundNext (next.Header have) = have < 8
IsSoundNext (next.Payload kind missing) = 0 < missing
IsSoundNext (next.Faulted fault) = Unit {0}

-- what comes next, as the rest has it
abbrev pub IsNextOf : Next → Rest → Type 0
IsNextOf (next.Header have) rest = (part : List ℕ) × (rest ≡ Header part)
IsNextOf (next.Payload kind missing) rest = (rest ≡ Payload kind missing) × (0 < missing)
IsNextOf (next.Faulted fault) rest = rest ≡ Faulted fault

-- no header goes on with these bytes
abbrev pub IsPastHeader : Rest → List ℕ → Type 0
IsPastHeader (Header part) bytes = bytes ≡ []
IsPastHeader rest bytes = Unit {0}

-- a payload lacks at least so many bytes
abbrev pub PayloadHas : Rest → ℕ → Type 0
PayloadHas (Header part) count = ⊥
PayloadHas (Payload kind missing) count = count ≤ missing
PayloadHas (Faulted fault) count = ⊥
