use Rattle.one_program.proofs.ReadLemmas.{read_less}
use Rattle.one_program.proofs.reading.read_through.Goals as goal

pub returns-in-Err : goal.returns-in-Err
returns-in-Err g c = read_less c.in-Err.why c.more.text.items _ c.add.new.text.items _ _ _ c.more.invariant.gave c.in-Bytes.ensures.2 c.in-Err.ensures
