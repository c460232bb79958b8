use Rattle.std.proofs.Common.{◌++◌, ◌∙◌, ap, subst}
use Rattle.engine_ports.specs.Sink.{WriteSays}
use Rattle.http_edge.specs.Response.{head_text}
use Rattle.lab_shown.specs.Shown.{head_by}
use Rattle.lab_shown.specs.Refused.{not_found}
use Rattle.lab_shown.proofs.refusing.write_not_found.Goals as goal

pub returns : goal.returns
returns g c =
    subst (λ head. WriteSays c.write_under.result (head_text head ++ (c.args.front.now ++ not_found)) (g.W.Taking.takes c.args.sink.now)
    (g.W.Taking.takes c.write_under.new.sink)) (c.head_of.ensures ∙ ap (λ n. head_by 400 n c.args.close) c.size_of-size.ensures)
    (subst (λ back. WriteSays c.write_under.result (head_text c.head_of.result ++ (c.args.front.now ++ back)) (g.W.Taking.takes c.args.sink.now)
    (g.W.Taking.takes c.write_under.new.sink)) c.not_found.ensures.text c.write_under.ensures)
