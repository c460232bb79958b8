use Rattle.std.proofs.Common.{◌++◌, ◌∙◌, List, ℕ, subst}
use Rattle.std.specs.Prelude.{codes}
use Rattle.engine_ports.specs.Sink.{WriteSays}
use Rattle.engine_ports.proofs.PortLemmas.{written_on}
use Rattle.http_edge.proofs.chunk.write_chunk.Goals as goal

pub returns : goal.returns
returns g c =
    let all = written_on tt c.write-2.result _ (codes "\r\n") _ _ _ c.in_ok-write_both.ensures c.write-2.ensures in
    let line = c.as_slice-2.ensures ∙ c.push_size.ensures.text in
    subst (λ (l : List ℕ). WriteSays c.write-2.result (l ++ c.args.piece.now ++ codes "\r\n") (g.K.Sink.takes c.args.sink.now) (g.K.Sink.takes c.write-2.new.self)) line all
