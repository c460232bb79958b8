-- When bytes are refused, and when they are part of a request (own: the order of the rules).
use Rattle.std.specs.Prelude.{ℕ, ◌≡◌, ◌<◌, ◌≤◌, ◌⊎◌, List, [], length, take}
use Rattle.httparse.specs.Grammar.{RequestHead, print_request, ReadsRequest, NeverHasRequest, MayBecomeRequest, HasNoRequest as HasNoHead}
use Rattle.http_edge.specs.Limits.{head_limit}
use Rattle.http_edge.specs.Chunked.{RefusesChunks, CutsChunks}
use Rattle.http_edge.specs.Spelling.{head_framing}
use Rattle.http_edge.specs.declared.framing.Framing.{Framing}
use Rattle.http_edge.specs.declared.framing.Framing.TheVariants.{Length, Chunked, Refused}

-- the bytes in which a head has to stand
abbrev pub window : List ℕ → List ℕ
window bytes = take head_limit bytes

-- the bytes begin with the head, within its limit, and behind it stand these
abbrev pub BeginsWithHead : List ℕ → RequestHead → List ℕ → Type 0
BeginsWithHead bytes h behind = ReadsRequest bytes h behind × (length (print_request h) ≤ head_limit)

-- the framing, or the bytes behind the head, are refused
abbrev pub RefusesBody : Framing → List ℕ → ℕ → Type 0
RefusesBody (Length n) behind status = ⊥
RefusesBody Chunked behind status = RefusesChunks behind status
RefusesBody (Refused s) behind status = status ≡ s

-- the bytes behind the head are part of a body
abbrev pub CutsBody : Framing → List ℕ → Type 0
CutsBody (Length n) behind = length behind < n
CutsBody Chunked behind = CutsChunks behind
CutsBody (Refused s) behind = ⊥

-- the first rule that decides on the bytes refuses them with the status
pub data IsRefused (bytes : List ℕ) (status : ℕ) : Type 0 where
  -- no head can come of the first bytes
  never : status ≡ 400 → NeverHasRequest (window bytes) → IsRefused bytes status
  -- as many bytes as a head may have, and no head
  too_long : status ≡ 431 → head_limit ≤ length bytes → HasNoHead (window bytes) → MayBecomeRequest (window bytes) → IsRefused bytes status
  -- a head, and its framing or what stands behind it is refused
  by_framing : (h : RequestHead) (behind : List ℕ) → BeginsWithHead bytes h behind → RefusesBody (head_framing h) behind status → IsRefused bytes status

-- something stands there, no request is whole, and no rule refuses it yet
pub data IsUnfinished (bytes : List ℕ) : Type 0 where
  in_head : 0 < length bytes → length bytes < head_limit → HasNoHead bytes → MayBecomeRequest bytes → IsUnfinished bytes
  in_body : (h : RequestHead) (behind : List ℕ) → BeginsWithHead bytes h behind → CutsBody (head_framing h) behind → IsUnfinished bytes

-- nothing stands there, or it is unfinished: more is to come before any rule decides
abbrev pub AwaitsMore : List ℕ → Type 0
AwaitsMore bytes = (bytes ≡ []) ⊎ IsUnfinished bytes
