use Rattle.response_reader.proofs.FamilyLemmas.{streams}
use Rattle.response_reader.proofs.heads.stream_front.Goals as goal

pub returns : goal.returns
returns c =
    rw (c.either-3.ensures, c.either.ensures, c.either-2.ensures)
    (streams c.args.status c.args.close c.args.bytes.now c.front_by.result c.front_by-2.result c.front_by-3.result c.numbered_front.result
    c.front_by.ensures c.front_by-2.ensures c.front_by-3.ensures c.numbered_front.ensures)
