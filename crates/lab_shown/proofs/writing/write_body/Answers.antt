use Rattle.std.proofs.Common.{◌++◌, subst}
use Rattle.engine_ports.specs.Sink.{WriteSays}
use Rattle.engine_ports.proofs.PortLemmas.{written_on}
use Rattle.lab_shown.specs.Texts.{host_key, host_members}
use Rattle.lab_shown.proofs.writing.write_body.Goals as goal

pub returns : goal.returns
returns g c =
    subst (λ own. WriteSays c.write_rest.result (own ++ (c.args.before.now ++ (host_key ++ (host_members ++ c.args.behind.now)))) (g.W.Taking.takes c.args.sink.now)
    (g.W.Taking.takes c.write_rest.new.sink)) c.own_members.ensures.text
    (written_on tt c.write_rest.result _ _ _ _ _ c.in_ok-take.ensures c.write_rest.ensures)
