-- What stands in a reader's buffers, as who reads into them sees it (own: their room is not seen).
use Rattle.std.specs.Prelude.{◌≡◌, ◌≤◌, ℕ, List, [], length}
use Rattle.httparse.specs.declared.spans.HeaderSpan.{HeaderSpan}
use Rattle.http_edge.specs.Limits.{field_limit}

-- a head, the places of its fields, and a body as far as it was read
pub record Stored : Type 0 where
  pub head : List ℕ
  pub spans : List HeaderSpan
  pub body : List ℕ

-- no byte of a request, and places for as many fields as a request may have, at most
pub record HoldsNothing (b : Stored) : Type 0 where
  pub head : b.head ≡ []
  pub spans : length b.spans ≤ field_limit
  pub body : b.body ≡ []
