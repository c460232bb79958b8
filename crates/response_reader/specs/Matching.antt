-- What comparing heads with the front of bytes came to (own: for the code that compares them).
use Rattle.std.specs.Prelude.{ℕ, ◌≡◌, ◌<◌, ◌≤◌, ◌⊎◌, Bool, true, false, IsTrue, List, ◌++◌, Option, Some, None, length, take, decimal, if◌then◌else◌}
use Rattle.http_edge.specs.Limits.{head_limit}
use Rattle.http_edge.specs.declared.head.Head.{Head}
use Rattle.http_edge.specs.declared.head.Form.{Form}
use Rattle.http_edge.specs.declared.head.Form.TheVariants.{Json, Plain, ChunkedFrames, ChunkedJson, ChunkedPlain, Takeover}
use Rattle.response_reader.specs.Fronts.{NeverHas, IsPartOf}
use Rattle.response_reader.specs.Heads.{IsFinal, IsTextOf}
use Rattle.response_reader.specs.declared.heads.Front.{Front}
use Rattle.response_reader.specs.declared.heads.Front.TheVariants as front
use Rattle.response_reader.specs.declared.heads.Numbered.{Numbered}
use Rattle.response_reader.specs.declared.heads.Numbered.TheVariants as numbered

-- some heads and their texts
abbrev pub Family : Type 1
Family = Head → List ℕ → Type 0

-- the text is one of these heads'
abbrev pub IsTextIn : Family → List ℕ → Type 0
IsTextIn Is text = (h : Head) × Is h text

-- the bytes begin with such a head, of so many bytes; or are a part of one; or begin with none, whatever follows
abbrev pub FrontSays : Family → Front → List ℕ → Type 0
FrontSays Is (front.Head h len) bytes = (len ≤ length bytes) × Is h (take len bytes)
FrontSays Is front.Part bytes = IsPartOf (IsTextIn Is) bytes × (length bytes < head_limit)
FrontSays Is front.Never bytes = NeverHas (IsTextIn Is) bytes

-- a head counts before a part, and that before none
abbrev pub either : Front → Front → Front
either (front.Head h len) other = front.Head h len
either front.Never other = other
either front.Part (front.Head h len) = front.Head h len
either front.Part other = front.Part

-- this head alone
abbrev pub IsOne : Head → Family
IsOne one h text = (h ≡ one) × IsTextOf h text

-- the head that takes the connection over, upgraded or as it is
abbrev pub takeover : Bool → Head
takeover upgrade = record { status = if upgrade then 101 else 200; form = Takeover upgrade; close = false }

-- one of these, or of those
abbrev pub IsEither : Family → Family → Family
IsEither These Those h text = These h text ⊎ Those h text

-- ---- heads that tell a number

-- the form that tells this number
abbrev pub form_with : Numbered → ℕ → Form
form_with numbered.Json n = Json n
form_with numbered.Plain n = Plain n
form_with numbered.Events n = ChunkedJson (Some n)

-- the head of this form
abbrev pub head_with : Numbered → ℕ → Bool → ℕ → Head
head_with kind status close n = record { status = status; form = form_with kind n; close = close }

-- the heads of this form, whatever they tell
abbrev pub IsNumbered : Numbered → ℕ → Bool → Family
IsNumbered kind status close h text = (n : ℕ) × IsOne (head_with kind status close n) h text

-- ---- heads of a status

-- it is a stream's
abbrev pub is_stream : Form → Bool
is_stream ChunkedFrames = true
is_stream ChunkedPlain = true
is_stream (ChunkedJson first) = true
is_stream form = false

-- it leaves the connection to the next response
abbrev pub is_framed : Form → Bool
is_framed (Takeover upgrade) = false
is_framed form = true

-- the heads of this status that close the connection, or those that don't
abbrev pub IsFramedWith : ℕ → Bool → Family
IsFramedWith status close h text = IsTrue (is_framed h.form) × (h.status ≡ status) × (h.close ≡ close) × IsTextOf h text

-- those of streams
abbrev pub IsStreaming : ℕ → Bool → Family
IsStreaming status close h text = IsTrue (is_stream h.form) × (h.status ≡ status) × (h.close ≡ close) × IsTextOf h text

-- all heads of this status
abbrev pub IsFramed : ℕ → Family
IsFramed status h text = IsTrue (is_framed h.form) × (h.status ≡ status) × IsTextOf h text

-- ---- the status

-- some bytes can follow both, so that they are the same
abbrev pub MayMeet : List ℕ → List ℕ → Type 0
MayMeet bytes text = (more : List ℕ) × (behind : List ℕ) × (bytes ++ more ≡ text ++ behind)

-- the bytes may begin with the status, or can't
abbrev pub StatusFacts : Bool → ℕ → List ℕ → Type 0
StatusFacts true status bytes = MayMeet bytes (decimal status)
StatusFacts false status bytes = ¬ (MayMeet bytes (decimal status))

-- a final status that they may begin with, or there is none
abbrev pub StatusSays : Option ℕ → List ℕ → Type 0
StatusSays (Some status) bytes = IsFinal status × MayMeet bytes (decimal status)
StatusSays None bytes = (status : ℕ) → IsFinal status → ¬ (MayMeet bytes (decimal status))
