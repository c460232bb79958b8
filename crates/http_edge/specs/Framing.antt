-- How a request's body is framed (RFC 9112, section 6.3), and the rules that refuse a head, in order.
use Rattle.std.specs.Prelude.{ℕ, ◌≤◌, Bool, ◌&&◌, ◌==◌, not, nat_lt, nat_le, if◌then◌else◌, List, [], ◌∷◌, length, codes}
use Rattle.std.specs.List.{list_all}
use Rattle.std.specs.Char.{is_ascii_digit}
use Rattle.std.specs.Str.Parse.{digits_value}
use Rattle.http_edge.specs.Limits.{field_limit, body_limit, digit_limit}
use Rattle.http_edge.specs.Message.{Header, is_same_text, values_named}
use Rattle.http_edge.specs.declared.framing.Framing.{Framing}
use Rattle.http_edge.specs.declared.framing.Framing.TheVariants.{Length, Chunked, Refused}

-- 1 to 18 digits
abbrev pub is_length : List ℕ → Bool
is_length digits =
    nat_lt 0 (length digits) && nat_le (length digits) digit_limit && list_all is_ascii_digit digits

-- a body of the length that the digits write: 400 if they write none, 413 above the greatest
abbrev pub length_framing : List ℕ → Framing
length_framing digits =
    if is_length digits then
    (if nat_le (digits_value 10 digits) body_limit then Length (digits_value 10 digits) else Refused 413)
    else Refused 400

-- the body by the values of Transfer-Encoding and of Content-Length: of both together at most one
abbrev pub body_framing : List (List ℕ) → List (List ℕ) → Framing
body_framing [] [] = Length 0
body_framing [] (digits ∷ []) = length_framing digits
body_framing (coding ∷ []) [] = if is_same_text coding (codes "chunked") then Chunked else Refused 400
body_framing codings lengths = Refused 400

-- a body of that length is at most the greatest
abbrev pub IsWithinLimit : Framing → Type 0
IsWithinLimit (Length n) = n ≤ body_limit
IsWithinLimit framing = Unit {0}

-- how often a field stands
abbrev pub times : List ℕ → List Header → ℕ
times name fields = length (values_named name fields)

-- The framing of a head: HTTP/1.0 is refused by 505, too many fields by 431, no Host or two by 400,
-- Expect by 417, and then as the body is framed.
abbrev pub framing_of : ℕ → List Header → Framing
framing_of minor fields =
    if minor == 0 then Refused 505 else
    if nat_lt field_limit (length fields) then Refused 431 else
    if not (times (codes "host") fields == 1) then Refused 400 else
    if not (times (codes "expect") fields == 0) then Refused 417 else
    body_framing (values_named (codes "transfer-encoding") fields) (values_named (codes "content-length") fields)
