-- What a request asks of its connection (RFC 9110, sections 5.6.1, 7.6.1 and 7.8).
use Rattle.std.specs.Prelude.{ℕ, Bool, not, ◌==◌, ◌&&◌, ◌||◌, if◌then◌else◌, List, [], ◌∷◌, length, take, codes}
use Rattle.std.specs.List.{list_any}
use Rattle.std.specs.Str.{bytes_eq}
use Rattle.httparse.specs.Grammar.{trim_ows}
use Rattle.http_edge.specs.Message.{Header, Request, is_same_text, is_named}
use Rattle.http_edge.specs.declared.asks.Want.{Want}
use Rattle.http_edge.specs.declared.asks.Want.TheVariants.{Value, Front, Token}

-- its method is HEAD
abbrev pub is_head : Request → Bool
is_head request = bytes_eq request.method (codes "HEAD")

-- one byte before the first of the parts
abbrev pub joined_first : ℕ → List (List ℕ) → List (List ℕ)
joined_first b [] = (b ∷ []) ∷ []
joined_first b (part ∷ parts) = (b ∷ part) ∷ parts

-- the parts between commas
abbrev pub parts_of : List ℕ → List (List ℕ)
parts_of [] = [] ∷ []
parts_of (b ∷ bytes) = if b == 44 then [] ∷ parts_of bytes else joined_first b (parts_of bytes)

-- one of the parts is the token, in any case of its letters
abbrev pub has_token : List ℕ → List ℕ → Bool
has_token token value = list_any (λ part. is_same_text (trim_ows part) token) (parts_of value)

-- the value is this one, begins with it, or holds it as a token
abbrev pub fits : Want → List ℕ → List ℕ → Bool
fits Value want value = is_same_text value want
fits Front want value = is_same_text (take (length want) value) want
fits Token want value = has_token want value

-- a field of this name has such a value
abbrev pub has_field : List ℕ → Want → List ℕ → List Header → Bool
has_field name kind want fields = list_any (λ field. is_named name field && fits kind want field.1) fields

-- it asks to close the connection: a Connection field holds the token
abbrev pub closes : Request → Bool
closes request = has_field (codes "connection") Token (codes "close") request.fields

-- it asks to upgrade the connection: `Upgrade: tcp`, and a Connection field holds the token
abbrev pub asks_upgrade : Request → Bool
asks_upgrade request =
    has_field (codes "upgrade") Value (codes "tcp") request.fields
    && has_field (codes "connection") Token (codes "upgrade") request.fields

-- its client starts a container only once it has the head of its wait: Docker's own, or one on Moby's Go library (own)
abbrev pub starts_on_head : Request → Bool
starts_on_head request =
    has_field (codes "user-agent") Front (codes "Docker-Client/") request.fields
    || has_field (codes "user-agent") Front (codes "Go-http-client/") request.fields

-- it asks for the head of a wait's answer before the wait is over: by `X-Engine-Early: wait`, or by who its client is;
-- never with `X-Engine-Early: no` (own)
abbrev pub asks_early : Request → Bool
asks_early request =
    not (has_field (codes "x-engine-early") Value (codes "no") request.fields)
    && (has_field (codes "x-engine-early") Value (codes "wait") request.fields || starts_on_head request)
