use Rattle.std.proofs.Common.{◌++◌, ◌∙◌, subst}
use Rattle.engine_ports.specs.Sink.{WriteSays}
use Rattle.engine_ports.proofs.PortLemmas.{written_on}
use Rattle.lab_shown.proofs.refusing.write_under.Goals as goal

pub returns : goal.returns
returns g c =
    subst (λ head. WriteSays c.write_two.result (head ++ (c.args.front.now ++ c.args.back.now)) (g.W.Taking.takes c.args.sink.now)
    (g.W.Taking.takes c.write_two.new.sink)) (c.as_slice.ensures ∙ c.head_line-line.ensures.text)
    (written_on tt c.write_two.result _ _ _ _ _ c.in_ok-take.ensures c.write_two.ensures)
