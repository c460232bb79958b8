-- A reader of pieces, as its caller sees it (own: how it is kept).
use Rattle.std.specs.Prelude.{ℕ, Option}
use Rattle.request_pieces.specs.declared.taking.Intake.{Intake}
use Rattle.request_pieces.specs.declared.reader.Shown.{Shown}
use Rattle.request_pieces.specs.declared.reader.Pushed.{Pushed}

-- the bytes that it took since the last request, where this one stands if the last push told one, how many bytes
-- the requests took, and what it tells once it reads no more
pub record Begun : Type 0 where
  pub intake : Intake
  pub shown : Option Shown
  pub taken : ℕ
  pub stopped : Option Pushed
