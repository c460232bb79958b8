use Rattle.std.proofs.Common.{◌≡◌, List, ℕ, ◌++◌, length}
use Rattle.std.specs.Io.KnownBytes.{Appends}
use Rattle.engine_ports.proofs.adapters.output.WriteSinkSink.write.Given as goal

-- a front of the piece was written, the rest is to be, and no fault was counted
abbrev pub invariant-loop-rest : goal.invariant-loop-rest
invariant-loop-rest g l =
    (l.self.faults ≡ l.fn.self.faults)
    × (part : List ℕ) × (part ++ l.rest ≡ l.fn.piece)
    × Appends (g.W.Write.contents l.fn.self.writer) (g.W.Write.contents l.self.writer) part

abbrev pub decreases-loop-rest : goal.decreases-loop-rest
decreases-loop-rest g l = length l.rest
