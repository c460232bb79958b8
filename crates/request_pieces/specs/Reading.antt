-- What holds of every reader of pieces (own: so that each request can be shown).
use Rattle.std.specs.Prelude.{ℕ, ◌≡◌, List, take, Option, Some, None}
use Rattle.http_edge.specs.Shown.{IsShown}
use Rattle.http_edge.specs.Stored.{Stored}
use Rattle.request_pieces.specs.Standing.{HasTaken}
use Rattle.request_pieces.specs.declared.reader.Shown.{Shown}
use Rattle.request_pieces.specs.declared.reader.Pushed.{Pushed}
use Rattle.request_pieces.specs.declared.reader.Pushed.TheVariants.{Request as Tells}
use Rattle.request_pieces.specs.declared.reader.PieceReader.TheInside.{Inside}

-- a request that is whole can be shown
abbrev pub CanShow : Option Shown → Stored → Type 0
CanShow (Some s) b = IsShown (take s.found.len b.head) b.spans s.found
CanShow None b = Unit {0}

-- what it tells once it reads no more is no request, and none is shown then
abbrev pub ShowsNone : Option Pushed → Option Shown → Type 0
ShowsNone None shown = Unit {0}
ShowsNone (Some (Tells n)) shown = ⊥
ShowsNone (Some told) shown = shown ≡ None

-- some bytes brought it to where it stands
pub record IsSound (r : Inside) : Type 0 where
  pub bytes : List ℕ
  pub taken : HasTaken r.intake bytes
  pub shows : CanShow r.shown r.intake.buffers
  pub stops : ShowsNone r.stopped r.shown
