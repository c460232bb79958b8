use Rattle.std.proofs.Common.{◌≡◌, ◌≤◌, length}
use Rattle.stream_frame.specs.Steps.{held_after, items_of}
use Rattle.stream_frame.proofs.pieces.past_headers.Given as goal

abbrev pub invariant-loop-byte : goal.invariant-loop-byte
invariant-loop-byte l =
    (items_of l.demux l.rest ≡ items_of l.fn.demux l.fn.piece) × (held_after l.demux l.rest ≡ held_after l.fn.demux l.fn.piece)
    × (length l.rest ≤ length l.fn.piece)

abbrev pub decreases-loop-byte : goal.decreases-loop-byte
decreases-loop-byte l = length l.rest
