use Rattle.std.proofs.Common.{◌≡◌, ◌++◌, length}
use Rattle.stream_frame.specs.Frames.{frames_of}
use Rattle.machine_model.specs.Frames.{cut}
use Rattle.daemon_core.specs.Framing.{Longer}
use Rattle.daemon_core.proofs.frames.put_rest.Given as goal

abbrev pub invariant-loop-left : goal.invariant-loop-left
invariant-loop-left l =
    (l.out.items ++ frames_of (cut (l.fn.kind, l.left)) ≡ l.fn.out.items ++ frames_of (cut (l.fn.kind, l.fn.payload)))
    × Longer l.fn.out.items l.out.items

abbrev pub decreases-loop-left : goal.decreases-loop-left
decreases-loop-left l = length l.left
