use Rattle.std.proofs.Common.{rules}
use Rattle.http_edge.proofs.PieceLemmas.{line_piece}
use Rattle.http_edge.proofs.parts.parse_line.Goals as goal

pub returns-in-Ok-Partial : goal.returns-in-Ok-Partial
returns-in-Ok-Partial c = line_piece c.args.bytes.now (search rules) (search rules)
