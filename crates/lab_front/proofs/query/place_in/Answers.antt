use Rattle.std.proofs.Common.{◌==◌}
use Rattle.lab_front.proofs.QueryLemmas.{found_place, no_place}
use Rattle.lab_front.proofs.query.place_in.Goals as goal

pub returns-in-Some-clause-place : goal.returns-in-Some-clause-place
returns-in-Some-clause-place c = (found_place (λ b. b == c.args.mark) c.args.bytes.now c.in-Some.place c.in-Some.ensures).0

pub returns-in-Some-clause-within : goal.returns-in-Some-clause-within
returns-in-Some-clause-within c = (found_place (λ b. b == c.args.mark) c.args.bytes.now c.in-Some.place c.in-Some.ensures).1

pub returns-in-None-clause-place : goal.returns-in-None-clause-place
returns-in-None-clause-place c = no_place (λ b. b == c.args.mark) c.args.bytes.now c.in-None.ensures
