use Rattle.std.proofs.Common.{◌∙◌, ap, take, length-take, arith}
use Rattle.std.proofs.lemmas.List.{take-append-le, take-take}
use Rattle.http_edge.proofs.ahead.widen.Goals as goal

pub returns-clause-before : goal.returns-clause-before
returns-clause-before c n le =
    ap (take n) c.in-Ok.ensures.items
    ∙ take-append-le n (take 16384 c.args.bytes.now.items) _ (omega (arith, le, c.requires.within, length-take 16384 c.args.bytes.now.items))
    ∙ take-take n 16384 c.args.bytes.now.items (omega (arith, le, c.requires.within))
