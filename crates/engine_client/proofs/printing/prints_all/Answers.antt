use Rattle.std.proofs.Common.{inl, refl}
use Rattle.engine_client.proofs.PrintLemmas.{lines_written}
use Rattle.engine_client.proofs.printing.prints_all.Goals as goal

pub returns-in-Ok : goal.returns-in-Ok
returns-in-Ok c = (lines_written c.args.lines.now c.in-Ok.text.items c.in-Ok.ensures, refl)

pub returns-in-Err : goal.returns-in-Err
returns-in-Err c = inl refl
