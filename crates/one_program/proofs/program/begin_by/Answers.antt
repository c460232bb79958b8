use Rattle.std.proofs.Common.{refl}
use Rattle.one_program.proofs.RebootLemmas.{begins_by}
use Rattle.one_program.proofs.program.begin_by.Goals as goal

pub returns-in-New : goal.returns-in-New
returns-in-New g c = begins_by _ _ _ _ _ _ _ _ _ _ _ c.in-New.is (refl, refl, c.listen_new.ensures)
