use Rattle.std.proofs.Common.{◌≡◌, length}
use Rattle.api_routes.specs.Path.{escapes_well}
use Rattle.api_routes.proofs.path.escapes_well.Given as goal

-- what is left tells what the segment tells
abbrev pub invariant-loop-left : goal.invariant-loop-left
invariant-loop-left l = escapes_well l.left ≡ escapes_well l.segment

-- what is left is shorter
abbrev pub decreases-loop-left : goal.decreases-loop-left
decreases-loop-left l = length l.left
