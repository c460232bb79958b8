use Rattle.std.proofs.Common.{◌≡◌, ◌==◌, length}
use Rattle.std.specs.List.{slice_split}
use Rattle.lab_front.specs.Queries.{first_value}
use Rattle.lab_front.proofs.query.value_of.Given as goal

-- no pair before the rest had this name
abbrev pub invariant-pairs : goal.invariant-pairs
invariant-pairs l = first_value l.name (slice_split (λ b. b == 38) l.rest) ≡ first_value l.name (slice_split (λ b. b == 38) l.query)

abbrev pub decreases-pairs : goal.decreases-pairs
decreases-pairs l = length l.rest
