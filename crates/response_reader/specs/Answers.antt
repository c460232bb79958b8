-- What a client has read of a connection (own: a head, and its body as far as it came).
use Rattle.std.specs.Prelude.{ℕ, ◌≡◌, ◌⊎◌, Bool, true, false, IsTrue, List, ◌++◌}
use Rattle.http_edge.specs.Chunked.{Chunk}
use Rattle.http_edge.specs.Response.{head_text}
use Rattle.http_edge.specs.declared.head.Head.{Head}
use Rattle.response_reader.specs.Fronts.{NeverHas, IsPartOf}
use Rattle.response_reader.specs.Heads.{Fits, IsHead}
use Rattle.response_reader.specs.Bodies.{framing_of, Carries, IsWhole, Breaks, Lacks, MayGoOn}
use Rattle.response_reader.specs.declared.framing.Left.{Left}

-- no head of this API; or a head, so much of its body, and whether that is all of it
pub data Answer : Type 0 where
  NoHead : Answer
  Answered : Head → List ℕ → Bool → Answer

-- the bytes are a head's, and behind it those that carry the bytes given of its body; this is left of it
pub record Tells (bytes : List ℕ) (h : Head) (given : List ℕ) (left : Left) : Type 0 where
  pub chunks : List Chunk
  pub coded : List ℕ
  pub fits : Fits h.form h.status h.close
  pub bytes_are : bytes ≡ head_text h ++ coded
  pub carries : Carries (framing_of h.form) chunks coded given left

-- what is behind them ends the body: it is whole; or a chunk is none; or the input has ended, and more of it is left
abbrev pub EndsSo : Bool → Left → List ℕ → Bool → Type 0
EndsSo true left behind ended = IsWhole left behind ended
EndsSo false left behind ended = Breaks left behind ⊎ (Lacks left behind × IsTrue ended)

-- the bytes of a connection, whose source gave its end or not, are this answer
abbrev pub IsAnswer : List ℕ → Bool → Answer → Type 0
IsAnswer bytes ended NoHead = NeverHas IsHead bytes ⊎ (IsPartOf IsHead bytes × IsTrue ended)
IsAnswer bytes ended (Answered h given whole) =
    (front : List ℕ) × (behind : List ℕ) × (left : Left) × (bytes ≡ front ++ behind)
    × Tells front h given left × EndsSo whole left behind ended

-- the bytes tell at least so much of an answer: a part of its head; or its head, and these bytes of its body
abbrev pub TellsSoFar : List ℕ → Answer → Type 0
TellsSoFar bytes NoHead = IsPartOf IsHead bytes
TellsSoFar bytes (Answered h given true) = ⊥
TellsSoFar bytes (Answered h given false) =
    (front : List ℕ) × (behind : List ℕ) × (left : Left) × (bytes ≡ front ++ behind) × Tells front h given left

-- the bytes tell just so much of an answer, of which more may come
abbrev pub TellsAll : List ℕ → Answer → Type 0
TellsAll bytes NoHead = IsPartOf IsHead bytes
TellsAll bytes (Answered h given true) = ⊥
TellsAll bytes (Answered h given false) =
    (front : List ℕ) × (behind : List ℕ) × (left : Left) × (bytes ≡ front ++ behind)
    × Tells front h given left × MayGoOn left behind
