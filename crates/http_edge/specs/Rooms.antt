-- The room that a reader's buffers keep, so that no request takes memory (own).
use Rattle.std.specs.Prelude.{◌≤◌}
use Rattle.std.specs.Vec.{vec_capacity}
use Rattle.http_edge.specs.Limits.{head_limit, body_limit, field_places}
use Rattle.http_edge.specs.declared.stored.Buffers.TheInside.{Inside}

-- a head, the fields and a body have room, whatever comes
pub record HaveRoom (buffers : Inside) : Type 0 where
  pub head : head_limit ≤ vec_capacity buffers.head
  pub spans : field_places ≤ vec_capacity buffers.spans
  pub body : body_limit ≤ vec_capacity buffers.body
