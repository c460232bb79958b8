-- The heads that a client takes (RFC 9112, section 4; own: exactly those that the daemon writes).
use Rattle.std.specs.Prelude.{ℕ, ◌≡◌, ◌<◌, ◌≤◌, ◌^◌, ◌==◌, ◌||◌, Bool, true, false, IsTrue, IsFalse, List, Option, Some, None, ⊤}
use Rattle.http_edge.specs.Response.{head_text}
use Rattle.http_edge.specs.declared.head.Head.{Head}
use Rattle.http_edge.specs.declared.head.Form.{Form}
use Rattle.http_edge.specs.declared.head.Form.TheVariants.{Json, Plain, Empty, ChunkedFrames, ChunkedJson, ChunkedPlain, Takeover}

-- a final status (RFC 9110, section 15)
abbrev pub IsFinal : ℕ → Type 0
IsFinal status = (200 ≤ status) × (status < 600)

-- 204 and 304 have no body (RFC 9110, sections 15.3.5 and 15.4.5)
abbrev pub is_bare : ℕ → Bool
is_bare status = (status == 204) || (status == 304)

-- a final status with a body
abbrev pub HasBody : ℕ → Type 0
HasBody status = IsFinal status × IsFalse (is_bare status)

-- the number of the first event, where it is told
abbrev pub IsFirst : Option ℕ → Type 0
IsFirst None = ⊤
IsFirst (Some n) = n < 2 ^ 64

-- the form goes with the status; one that takes over has a status of its own
abbrev pub Fits : Form → ℕ → Bool → Type 0
Fits (Json n) status close = HasBody status × (n < 2 ^ 64)
Fits (Plain n) status close = HasBody status × (n < 2 ^ 64)
Fits Empty status close = IsTrue (is_bare status)
Fits ChunkedFrames status close = HasBody status
Fits (ChunkedJson first) status close = HasBody status × IsFirst first
Fits ChunkedPlain status close = HasBody status
Fits (Takeover true) status close = (status ≡ 101) × (close ≡ false)
Fits (Takeover false) status close = (status ≡ 200) × (close ≡ false)

-- the text is this head's, as the daemon writes it
abbrev pub IsTextOf : Head → List ℕ → Type 0
IsTextOf h text = Fits h.form h.status h.close × (text ≡ head_text h)

-- it is a head's
abbrev pub IsHead : List ℕ → Type 0
IsHead text = (h : Head) × IsTextOf h text

-- the number of the first event that a head tells
abbrev pub first_in : Form → Option ℕ
first_in (ChunkedJson first) = first
first_in form = None
