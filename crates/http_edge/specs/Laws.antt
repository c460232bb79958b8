-- What holds of every connection's bytes (RFC 9112, section 9.3: requests follow one another).
use Rattle.std.specs.Prelude.{ℕ, ◌≡◌, List, ◌++◌}
use Rattle.http_edge.specs.Message.{Request}
use Rattle.http_edge.specs.Spelling.{HasNoRequest, ReadsRequests, ReadsAll}
use Rattle.httparse.specs.Grammar.{EndsInTarget}
use Rattle.http_edge.specs.Refusal.{AwaitsMore, IsRefused, IsUnfinished}

-- bytes are one list of requests and one rest
abbrev pub HaveOneReading : Type 0
HaveOneReading =
    (bytes rest other : List ℕ) (rs qs : List Request) → ReadsAll bytes rs rest → ReadsAll bytes qs other
    → (rs ≡ qs) × (rest ≡ other)

-- requests that were read are the first of all that the bytes are
abbrev pub HaveSomeReading : Type 0
HaveSomeReading =
    (bytes rest : List ℕ) (rs : List Request) → ReadsRequests bytes rs rest
    → (more : List Request) × (last : List ℕ) × ReadsAll bytes (rs ++ more) last

-- what is refused begins with no request
abbrev pub RefusedHaveNone : Type 0
RefusedHaveNone = (bytes : List ℕ) (status : ℕ) → IsRefused bytes status → HasNoRequest bytes

-- what is unfinished begins with no request
abbrev pub UnfinishedHaveNone : Type 0
UnfinishedHaveNone = (bytes : List ℕ) → IsUnfinished bytes → HasNoRequest bytes

-- what is refused stays refused, whatever follows
abbrev pub RefusedStay : Type 0
RefusedStay = (bytes more : List ℕ) (status : ℕ) → IsRefused bytes status → IsRefused (bytes ++ more) status

-- what is refused awaits nothing more, but the end of a target
abbrev pub RefusedAwaitNone : Type 0
RefusedAwaitNone = (bytes : List ℕ) (status : ℕ) → IsRefused bytes status → AwaitsMore bytes → EndsInTarget bytes
