use Rattle.std.proofs.Common.{◌∙◌, subst}
use Rattle.engine_ports.specs.Sink.{WriteSays}
use Rattle.front_session.proofs.ReadLemmas.{row_bare, row_whole}
use Rattle.front_session.proofs.fronting.write_row.Goals as goal

pub returns-then-terms-clause-says : goal.returns-then-terms-clause-says
returns-then-terms-clause-says g c =
    subst (λ t. WriteSays c.write.result t (g.W.TwoWays.sink c.args.ways.now) (g.W.TwoWays.sink c.write.new.self))
    (row_bare c.args.terms c.args.row c.as_bytes-text.result.now c.as_slice.result.now c.status_of.result
    (c.as_bytes-text.ensures.value ∙ c.text_of.ensures) c.status_of.ensures (c.as_slice.ensures ∙ c.head_line-head.ensures.text) c.if-terms.true)
    c.write.ensures.says

pub returns-clause-says : goal.returns-clause-says
returns-clause-says g c =
    subst (λ t. WriteSays c.write_both.result t (g.W.TwoWays.sink c.args.ways.now) (g.W.TwoWays.sink c.write_both.new.ways))
    (row_whole c.args.terms c.args.row c.as_bytes-text.result.now c.as_slice-2.result.now c.status_of.result
    (c.as_bytes-text.ensures.value ∙ c.text_of.ensures) c.status_of.ensures (c.as_slice-2.ensures ∙ c.head_line-head.ensures.text) c.if-terms.false)
    c.write_both.ensures.says
