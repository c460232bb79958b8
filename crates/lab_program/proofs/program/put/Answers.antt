use Rattle.std.proofs.Common.{subst}
use Rattle.engine_ports.specs.Sink.{WriteSays}
use Rattle.lab_program.proofs.program.put.Goals as goal

pub returns : goal.returns
returns g c = (
  c.write.result,
  subst (λ text. WriteSays c.write.result text (g.K.Sink.takes c.args.into.now) (g.K.Sink.takes c.write.new.self)) c.as_bytes.ensures.value
      c.write.ensures,
)
