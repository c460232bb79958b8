use Rattle.std.proofs.Common.{◌≡◌, length}
use Rattle.lab_front.specs.Queries.{spells}
use Rattle.lab_front.proofs.query.spells.Given as goal

-- so far they are the same
abbrev pub invariant-bytes : goal.invariant-bytes
invariant-bytes l = spells l.left l.wanted ≡ spells l.value l.text

abbrev pub decreases-bytes : goal.decreases-bytes
decreases-bytes l = length l.left
