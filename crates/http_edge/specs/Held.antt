-- A reader of requests, as its caller sees it (own: its buffers are not seen).
use Rattle.std.specs.Prelude.{ℕ, List, Option}
use Rattle.http_edge.specs.declared.reader.Stopped.{Stopped}

-- the bytes read ahead, how many bytes the requests before took, and why it reads no more
pub record Reading : Type 0 where
  pub ahead : List ℕ
  pub taken : ℕ
  pub stopped : Option Stopped
