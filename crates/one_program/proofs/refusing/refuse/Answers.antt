use Rattle.std.proofs.Common.{subst}
use Rattle.program_parts.specs.Telling.{Tells}
use Rattle.one_program.proofs.refusing.refuse.Goals as goal

pub returns : goal.returns
returns g c = (c.status_by.ensures, subst (λ l. Tells l (g.K.Sink.takes c.args.sink.now) (g.K.Sink.takes c.tell.new.sink)) c.as_bytes.ensures.value c.tell.ensures)
