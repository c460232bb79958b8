-- What RFC 9112 says of the definitions, and examples that were worked out by hand.
use Rattle.std.proofs.Common.{◌≡◌, ℕ, List, [], ◌∷◌, refl}
use Rattle.std.specs.Prelude.{codes}
use Rattle.http_edge.specs.Framing.{framing_of, body_framing, length_framing}
use Rattle.http_edge.specs.Asks.{parts_of}
use Rattle.http_edge.specs.Chunks.{hex_text, chunk_text}
use Rattle.http_edge.specs.declared.framing.Framing.TheVariants.{Length, Chunked, Refused}

-- "If this is a request message and none of the above are true, then the message body length is
-- zero" (section 6.3)
no_body : body_framing [] [] ≡ Length 0
no_body = refl

-- "If a message is received with both a Transfer-Encoding and a Content-Length header field .. ought
-- to be handled as an error" (section 6.3)
both : (coding length : List ℕ) → body_framing (coding ∷ []) (length ∷ []) ≡ Refused 400
both coding length = refl

-- "A server MUST respond with a 400 (Bad Request) status code to any HTTP/1.1 request message that
-- lacks a Host header field" (section 3.2)
no_host : framing_of 1 [] ≡ Refused 400
no_host = refl

host_in_capitals : framing_of 1 ((codes "HOST", codes "a") ∷ []) ≡ Length 0
host_in_capitals = refl

-- "all transfer-coding names are case-insensitive" (section 7)
coding_in_capitals : body_framing (codes "CHUNKED" ∷ []) [] ≡ Chunked
coding_in_capitals = refl

-- the greatest length, and one more
lengths : length_framing (codes "1048576") ≡ Length 1048576
lengths = refl

too_long : length_framing (codes "1048577") ≡ Refused 413
too_long = refl

no_digits : length_framing (codes "1 ") ≡ Refused 400
no_digits = refl

-- "a, b" has two parts (RFC 9110, section 5.6.1)
two_parts : parts_of (codes "a, b") ≡ codes "a" ∷ codes " b" ∷ []
two_parts = refl

-- "chunk-size = 1*HEXDIG" (section 7.1)
sizes : hex_text 5000 ≡ codes "1388"
sizes = refl

a_chunk : chunk_text (codes "hello") ≡ codes "5\r\nhello\r\n"
a_chunk = refl
