-- The bytes of a body by chunks (RFC 9112, section 7.1).
use Rattle.std.specs.Prelude.{ℕ, ◌≡◌, ◌<◌, ◌+◌, nat_lt, if◌then◌else◌, List, ◌++◌, length, map, codes}
use Rattle.std.specs.List.{flat_map, All}
use Rattle.std.specs.Int.Digits.{digits_of}

-- a hexadecimal digit, in lower case
abbrev pub hex_digit : ℕ → ℕ
hex_digit d = if nat_lt d 10 then 48 + d else 87 + d

-- a number in hexadecimal; none for 0
abbrev pub hex_text : ℕ → List ℕ
hex_text n = map hex_digit (digits_of 16 n)

-- a piece as a chunk
abbrev pub chunk_text : List ℕ → List ℕ
chunk_text piece = hex_text (length piece) ++ codes "\r\n" ++ piece ++ codes "\r\n"

-- the chunk that ends a body
abbrev pub last_chunk : List ℕ
last_chunk = codes "0\r\n\r\n"

-- the bytes are the chunks of some pieces, none empty, that join to the body
abbrev pub IsChunked : List ℕ → List ℕ → Type 0
IsChunked body bytes =
    (pieces : List (List ℕ)) × All (λ piece. 0 < length piece) pieces
    × (flat_map (λ piece. piece) pieces ≡ body) × (flat_map chunk_text pieces ≡ bytes)
