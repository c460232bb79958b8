use Rattle.std.proofs.Common.{◌==◌}
use Rattle.lab_shown.proofs.SearchLemmas.{no_place}
use Rattle.lab_shown.proofs.searching.bracket_in.Goals as goal

pub returns-in-None-clause-place : goal.returns-in-None-clause-place
returns-in-None-clause-place c = no_place (λ b. b == 91) c.args.piece.now c.in-None.ensures
