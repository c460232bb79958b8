-- What a push says (RFC 9112, section 9.3: requests follow one another).
use Rattle.std.specs.Prelude.{ℕ, ◌≡◌, ◌≤◌, ◌+◌, Bool, true, false, List, [], ◌++◌, length, take, Option, Some, None, IsSome}
use Rattle.http_edge.specs.Message.{Request}
use Rattle.http_edge.specs.Reader.{place_after}
use Rattle.http_edge.specs.Refusal.{IsRefused, IsUnfinished}
use Rattle.http_edge.specs.Spelling.{Begins}
use Rattle.http_edge.specs.Stored.{Stored}
use Rattle.request_pieces.specs.Standing.{HasTaken}
use Rattle.request_pieces.specs.Taking.{stored_at}
use Rattle.request_pieces.specs.Begun.{Begun}
use Rattle.request_pieces.specs.declared.reader.Shown.{Shown}
use Rattle.request_pieces.specs.declared.reader.Pushed.{Pushed}
use Rattle.request_pieces.specs.declared.reader.Pushed.TheVariants.{Request as Tells, More, End, Bad, CutShort}

-- the request that was told; where none was, an empty one
abbrev pub shown_in : Option Shown → Stored → Request
shown_in (Some s) b = stored_at b s.found
shown_in None b = record { method = []; target = []; fields = []; body = [] }

abbrev pub request_in : Begun → Request
request_in r = shown_in r.shown r.intake.buffers

-- how many bytes spell it
abbrev pub counted_in : Option Shown → ℕ
counted_in (Some s) = s.found.len + s.coded
counted_in None = 0

abbrev pub count_in : Begun → ℕ
count_in r = counted_in r.shown

-- it has taken nothing, and told nothing
abbrev pub IsFresh : Begun → Type 0
IsFresh r = HasTaken r.intake [] × (r.taken ≡ 0) × (r.stopped ≡ None) × (r.shown ≡ None)

-- what a push tells of the bytes taken before and the piece, and where the reader then stands
abbrev pub PushOf : Pushed → Begun → Begun → List ℕ → List ℕ → Bool → Type 0
PushOf More old new bytes piece end =
    (end ≡ false) × HasTaken new.intake (bytes ++ piece) × (new.taken ≡ old.taken)
PushOf (Tells n) old new bytes piece end =
    Begins (bytes ++ take n piece) (request_in new) [] × HasTaken new.intake []
    × (new.taken ≡ place_after old.taken (length bytes + n)) × (count_in new ≡ place_after 0 (length bytes + n))
PushOf End old new bytes piece end =
    (end ≡ true) × (bytes ++ piece ≡ []) × HasTaken new.intake [] × (new.taken ≡ old.taken)
PushOf (Bad status at) old new bytes piece end =
    IsRefused (bytes ++ piece) status × (at ≡ old.taken) × (new.taken ≡ old.taken)
PushOf CutShort old new bytes piece end =
    (end ≡ true) × IsUnfinished (bytes ++ piece) × (new.taken ≡ old.taken)

-- behind a refusal, and an end inside a request, it reads no more
abbrev pub stopped_by : Pushed → Option Pushed
stopped_by (Bad status at) = Some (Bad status at)
stopped_by CutShort = Some CutShort
stopped_by result = None

-- a request, and nothing else, is shown, and has no more bytes of the piece than there are
abbrev pub CanBeTold : Pushed → Option Shown → List ℕ → Type 0
CanBeTold (Tells n) shown piece = IsSome shown × (n ≤ length piece)
CanBeTold result shown piece = shown ≡ None

-- what a reader says that has stopped, and what one that hasn't says of whatever bytes it took before
abbrev pub PushFrom : Option Pushed → Begun → Begun → List ℕ → Bool → Pushed → Type 0
PushFrom (Some told) old new piece end result = (new ≡ old) × (result ≡ told)
PushFrom None old new piece end result =
    (new.stopped ≡ stopped_by result)
    × ((bytes : List ℕ) → HasTaken old.intake bytes → PushOf result old new bytes piece end)

-- what a push says
abbrev pub PushSays : Begun → Begun → List ℕ → Bool → Pushed → Type 0
PushSays old new piece end result = CanBeTold result new.shown piece × PushFrom old.stopped old new piece end result
