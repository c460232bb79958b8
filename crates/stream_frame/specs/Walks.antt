-- The items that are left of a piece (own: for its iterator).
use Rattle.std.specs.Prelude.{ℕ, List, [], if◌then◌else◌, Result, Ok, Err}
use Rattle.std.specs.Borrow.{Bor}
use Rattle.engine_text.specs.declared.script.Stream.{Stream}
use Rattle.stream_frame.specs.Demuxing.{Item}
use Rattle.stream_frame.specs.Steps.{items_of}
use Rattle.stream_frame.specs.declared.fault.FrameFault.{FrameFault}
use Rattle.stream_frame.specs.declared.pieces.Pieces.{Pieces}

-- an item with the bytes of its slice
abbrev pub seen_item : Result (Stream × Bor (List ℕ)) FrameFault → Item
seen_item (Ok part) = Ok (part.0, part.1.now)
seen_item (Err fault) = Err fault

-- the items that are left
abbrev pub items_left : Pieces → List Item
items_left pieces = if pieces.told then [] else items_of pieces.demux pieces.piece.now
