use Rattle.both_ends.proofs.SessionLemmas.{ones_are_served}
use Rattle.both_ends.proofs.StepLemmas.{both_ends}
use Rattle.both_ends.proofs.law_both_ends.Goals as goal

pub returns : goal.returns
returns c = record { both = both_ends; served = ones_are_served }
