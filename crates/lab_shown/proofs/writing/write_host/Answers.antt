use Rattle.std.proofs.Common.{◌++◌, subst}
use Rattle.engine_ports.specs.Sink.{WriteSays}
use Rattle.engine_ports.proofs.PortLemmas.{written_on}
use Rattle.lab_shown.specs.Texts.{host_members}
use Rattle.lab_shown.proofs.writing.write_host.Goals as goal

pub returns : goal.returns
returns g c =
    subst (λ key. WriteSays c.write_two.result (key ++ (host_members ++ c.args.behind.now)) (g.W.Taking.takes c.args.sink.now) (g.W.Taking.takes c.write_two.new.sink))
    c.host_key.ensures.text
    (subst (λ members. WriteSays c.write_two.result (c.host_key.result.now ++ (members ++ c.args.behind.now)) (g.W.Taking.takes c.args.sink.now) (g.W.Taking.takes c.write_two.new.sink))
    c.host_members.ensures.text (written_on tt c.write_two.result _ _ _ _ _ c.in_ok-take.ensures c.write_two.ensures))
