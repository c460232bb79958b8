use Rattle.std.proofs.Common.{refl}
use Rattle.one_program.proofs.RebootLemmas.{continues_by}
use Rattle.one_program.proofs.rebooting.go_on.Goals as goal

pub returns-in-Ready : goal.returns-in-Ready
returns-in-Ready g c = continues_by _ _ _ _ _ _ _ _ _ _ _ _ _ c.remake.result _ c.remake.ensures c.in-Ready.is (refl, c.listen_on.ensures)

pub returns-in-Old : goal.returns-in-Old
returns-in-Old g c = continues_by _ _ _ _ _ _ _ _ _ _ _ _ _ c.remake.result _ c.remake.ensures c.in-Old.is (c.refuse.ensures, (refl, refl, refl))

pub returns-in-NotLegal : goal.returns-in-NotLegal
returns-in-NotLegal g c = continues_by _ _ _ _ _ _ _ _ _ _ _ _ _ c.remake.result _ c.remake.ensures c.in-NotLegal.is (c.tell_verdict.ensures, (refl, refl, refl))

pub returns-in-Full : goal.returns-in-Full
returns-in-Full g c = continues_by _ _ _ _ _ _ _ _ _ _ _ _ _ c.remake.result _ c.remake.ensures c.in-Full.is (c.refuse-in-Full.ensures, (refl, refl, refl))
