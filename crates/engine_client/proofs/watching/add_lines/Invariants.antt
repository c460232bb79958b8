use Rattle.std.proofs.Common.{◌≡◌, ◌++◌, map, take}
use Rattle.client_model.specs.Commands.Watch.{row_line}
use Rattle.engine_client.proofs.watching.add_lines.Given as goal

abbrev pub invariant-rows : goal.invariant-rows
invariant-rows l = l.lines ≡ l.fn.lines ++ map row_line (take l.row-index l.rows)
