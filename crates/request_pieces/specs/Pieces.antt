-- A piece of the input as a source (own: it ends where the piece ends).
use Rattle.std.specs.Prelude.{ℕ, ◌+◌, List, length, Some}
use Rattle.engine_ports.specs.Source.{SourceView}
use Rattle.request_pieces.specs.declared.source.Piece.{Piece}

-- it tells its bytes, and never fails
abbrev pub view_of : Piece → SourceView
view_of p = record { left = Some p.rest.now; faults = 0; ends = p.ends }

-- how many bytes stand ahead and are left of the piece
abbrev pub left_of : List ℕ → Piece → ℕ
left_of ahead p = length ahead + length p.rest.now
