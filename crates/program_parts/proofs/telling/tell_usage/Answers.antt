use Rattle.std.proofs.Common.{refl, subst}
use Rattle.program_parts.specs.Telling.{Tells}
use Rattle.program_parts.proofs.telling.tell_usage.Goals as goal

pub returns : goal.returns
returns g c = (refl, subst (λ l. Tells l (g.K.Sink.takes c.args.sink.now) (g.K.Sink.takes c.tell.new.sink)) c.as_bytes.ensures.value c.tell.ensures)
