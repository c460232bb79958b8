use Rattle.std.proofs.Common.{◌++◌, ◌∙◌, subst}
use Rattle.engine_ports.specs.Sink.{WriteSays}
use Rattle.engine_ports.proofs.PortLemmas.{written_on}
use Rattle.lab_shown.specs.Shown.{more}
use Rattle.lab_shown.proofs.writing.write_behind.Goals as goal

pub returns : goal.returns
returns g c =
    subst (λ head. WriteSays c.write_body.result (head ++ more c.args.before.now c.args.behind.now) (g.W.Taking.takes c.args.sink.now)
    (g.W.Taking.takes c.write_body.new.sink)) (c.as_slice.ensures ∙ c.head_line-line.ensures.text)
    (written_on tt c.write_body.result _ _ _ _ _ c.in_ok-take.ensures c.write_body.ensures)
