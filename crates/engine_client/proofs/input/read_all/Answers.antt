use Rattle.engine_client.proofs.InputLemmas.{read_lacks}
use Rattle.engine_client.proofs.input.read_all.Goals as goal

pub returns-in-Err : goal.returns-in-Err
returns-in-Err g c = read_lacks _ _ _ _ _ _ c.loop.invariant.so c.in-Bytes.ensures.2
