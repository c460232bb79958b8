use Rattle.std.proofs.Common.{◌≡◌, length}
use Rattle.stream_frame.specs.Steps.{held_after, IsPastHeader}
use Rattle.stream_frame.proofs.demux.Demux.pass.Given as goal

abbrev pub invariant-loop-missing : goal.invariant-loop-missing
invariant-loop-missing l =
    (held_after l.self l.rest ≡ held_after l.fn.self l.fn.piece) × IsPastHeader l.self.rest l.rest

abbrev pub decreases-loop-missing : goal.decreases-loop-missing
decreases-loop-missing l = length l.rest
