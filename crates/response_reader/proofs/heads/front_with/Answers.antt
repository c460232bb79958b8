use Rattle.std.proofs.Common.{sym, ◌∙◌}
use Rattle.response_reader.proofs.FamilyLemmas.{bares, bodies}
use Rattle.response_reader.proofs.heads.front_with.Goals as goal

pub returns-then-is_bare : goal.returns-then-is_bare
returns-then-is_bare c =
    bares c.args.status c.args.close c.args.bytes.now c.front_by.result (sym c.is_bare.ensures ∙ c.if-is_bare.true) c.front_by.ensures

pub returns : goal.returns
returns c =
    rw (c.either-2.ensures, c.either.ensures)
    (bodies c.args.status c.args.close c.args.bytes.now c.numbered_front.result c.numbered_front-2.result c.stream_front.result
    (sym c.is_bare.ensures ∙ c.if-is_bare.false) c.numbered_front.ensures c.numbered_front-2.ensures c.stream_front.ensures)
