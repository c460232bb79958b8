use Rattle.response_reader.proofs.FamilyLemmas.{both}
use Rattle.response_reader.proofs.heads.framed_front.Goals as goal

pub returns : goal.returns
returns c =
    rw c.either.ensures (both c.args.status c.args.bytes.now c.front_with.result c.front_with-2.result c.front_with.ensures c.front_with-2.ensures)
