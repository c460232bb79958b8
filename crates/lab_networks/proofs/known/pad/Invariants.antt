use Rattle.std.proofs.Common.{◌≡◌, ◌-◌, length}
use Rattle.std.specs.Prelude.{string_bytes}
use Rattle.lab_networks.specs.Known.{padded}
use Rattle.lab_networks.proofs.known.pad.Given as goal

-- zeros change nothing of what they are padded to
abbrev pub invariant-loop-digits : goal.invariant-loop-digits
invariant-loop-digits l = padded (string_bytes l.digits) ≡ padded (string_bytes l.fn.digits)

abbrev pub decreases-loop-digits : goal.decreases-loop-digits
decreases-loop-digits l = 64 - length (string_bytes l.digits)
