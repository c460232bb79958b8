use Rattle.std.proofs.Common.{◌++◌, ◌∙◌, subst}
use Rattle.engine_ports.specs.Sink.{WriteSays}
use Rattle.engine_ports.proofs.PortLemmas.{written_on}
use Rattle.lab_shown.specs.Listed.{list_of}
use Rattle.lab_shown.proofs.listing.write_behind.Goals as goal

pub returns : goal.returns
returns g c =
    subst (λ head. WriteSays c.write_item.result (head ++ list_of c.args.item.now) (g.W.Taking.takes c.args.sink.now)
    (g.W.Taking.takes c.write_item.new.sink)) (c.as_slice.ensures ∙ c.head_line-line.ensures.text)
    (written_on tt c.write_item.result _ _ _ _ _ c.in_ok-take.ensures c.write_item.ensures)
