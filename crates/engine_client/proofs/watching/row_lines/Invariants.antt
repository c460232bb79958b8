use Rattle.std.proofs.Common.{◌≡◌, map, take}
use Rattle.client_model.specs.Commands.Watch.{row_line}
use Rattle.engine_client.specs.Rows.{joined}
use Rattle.engine_client.proofs.watching.row_lines.Given as goal

abbrev pub invariant-folds : goal.invariant-folds
invariant-folds l = l.lines ≡ map row_line (joined (take l.fold-index l.folds))
