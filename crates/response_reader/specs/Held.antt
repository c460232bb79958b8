-- A reader of one response, as its caller sees it (own: its buffer is not seen).
use Rattle.std.specs.Prelude.{ℕ, List}
use Rattle.response_reader.specs.declared.got.Stage.{Stage}

-- the bytes read ahead, the places of the first of them and of the chunk that they go on with, and what is read next
pub record Reading : Type 0 where
  pub ahead : List ℕ
  pub taken : ℕ
  pub from : ℕ
  pub stage : Stage
