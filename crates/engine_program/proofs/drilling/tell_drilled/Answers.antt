use Rattle.std.proofs.Common.{◌∙◌, ℕ, List, subst, sym}
use Rattle.std.specs.Prelude.{Result, Ok}
use Rattle.engine_ports.specs.Sink.{WriteSays}
use Rattle.engine_text.specs.declared.memory.NoMemory.{NoMemory}
use Rattle.drill_session.specs.declared.drill.Drilled.{Drilled}
use Rattle.engine_program.specs.Drilling.{TellsDrilled}
use Rattle.engine_program.proofs.drilling.tell_drilled.Goals as goal

pub returns-in-Ok-Reported : goal.returns-in-Ok-Reported
returns-in-Ok-Reported g c =
    let u = g.K.Sink.takes c.args.sink.now in
    let u' = g.K.Sink.takes c.write.new.self in
    subst (λ (r : Result Drilled NoMemory). TellsDrilled r c.status_written.result u u') (sym c.in-Ok-Reported.is)
    (subst (λ (x : Drilled). TellsDrilled (Ok x) c.status_written.result u u') (sym c.in-Ok-Reported.field-0-is) (
      c.write.result,
      c.status_written.ensures,
      subst (λ (l : List ℕ). WriteSays c.write.result l u u') (c.as_bytes.ensures.value ∙ c.as_str.ensures) c.write.ensures,
    ))
