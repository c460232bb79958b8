-- The greatest sizes of a request. own: RFC 9112 leaves them to the server.
use Rattle.std.specs.Prelude.{ℕ}

-- the greatest head, in bytes
abbrev pub head_limit : ℕ
head_limit = 16384

-- the most fields
abbrev pub field_limit : ℕ
field_limit = 64

-- the most fields that can stand in a head of the greatest size
abbrev pub field_places : ℕ
field_places = 5462

-- the greatest body, in bytes
abbrev pub body_limit : ℕ
body_limit = 1048576

-- the most digits of a length
abbrev pub digit_limit : ℕ
digit_limit = 18

-- the greatest line of a chunk, in bytes, with its line end
abbrev pub line_limit : ℕ
line_limit = 256

-- the greatest trailers, in bytes, with the empty line that ends them
abbrev pub trailer_limit : ℕ
trailer_limit = 4096

-- the most fields that can stand in trailers of the greatest size
abbrev pub trailer_places : ℕ
trailer_places = 1366
