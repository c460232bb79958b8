use Rattle.std.proofs.Common.{inr, rules}
use Rattle.lab_program.proofs.starting.tell.Goals as goal

pub returns-in-Err : goal.returns-in-Err
returns-in-Err g c = inr (c.in-Err.field-0, c.in-Some-Some.listening, (c.in-Some-Some.asked, search rules))
