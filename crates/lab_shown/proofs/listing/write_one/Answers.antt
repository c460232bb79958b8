use Rattle.std.proofs.Common.{◌++◌, ◌∙◌, ap, subst}
use Rattle.engine_ports.specs.Sink.{WriteSays}
use Rattle.http_edge.specs.Response.{head_text}
use Rattle.lab_shown.specs.Shown.{head_by}
use Rattle.lab_shown.specs.Listed.{list_of}
use Rattle.lab_shown.proofs.listing.write_one.Goals as goal

pub returns : goal.returns
returns g c =
    subst (λ head. WriteSays c.write_behind.result (head_text head ++ list_of c.args.item.now) (g.W.Taking.takes c.args.sink.now)
    (g.W.Taking.takes c.write_behind.new.sink)) (c.head_of.ensures ∙ ap (λ n. head_by 200 n c.args.close) c.size_of-size.ensures)
    c.write_behind.ensures
