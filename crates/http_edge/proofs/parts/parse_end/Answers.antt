use Rattle.std.proofs.Common.{arith, ◌≡◌, get_or}
use Rattle.std.proofs.lemmas.Bool.Decides.{nat_tests}
use Rattle.http_edge.proofs.PieceLemmas.{end_of_none, end_of_one}
use Rattle.http_edge.proofs.parts.parse_end.Goals as goal

pub returns-in-empty : goal.returns-in-empty
returns-in-empty c = end_of_none _ c.in-empty.len_below

pub returns-in-empty-2 : goal.returns-in-empty-2
returns-in-empty-2 c =
    let first : get_or c.args.bytes.now 0 0 ≡ 13 = grind (arith, nat_tests) in
    end_of_one _ c.in-empty.len_at_least c.in-empty.len_below first
