use Rattle.std.proofs.Common.{inr, refl}
use Rattle.engine_client.proofs.PerformLemmas.{lines_print}
use Rattle.engine_client.proofs.writing.write_lines.Goals as goal

pub returns-in-Ok : goal.returns-in-Ok
returns-in-Ok g c = λ link e. lines_print c.args.lines.now c.args.status _ c.in-Ok.text.items c.write_all.result _ _ c.deref.ensures.value c.in-Ok.ensures (c.write_all.ensures link e)

pub returns-in-Err : goal.returns-in-Err
returns-in-Err g c = λ link e. inr (refl, refl)
