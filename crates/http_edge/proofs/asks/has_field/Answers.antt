use Rattle.std.proofs.Common.{◌∙◌, ap, sym}
use Rattle.http_edge.specs.Message.{is_same_text}
use Rattle.http_edge.specs.Asks.{fits}
use Rattle.http_edge.proofs.AskLemmas.{any_at, both_true}
use Rattle.http_edge.proofs.asks.has_field.Goals as goal

pub returns-then-fits : goal.returns-then-fits
returns-then-fits c =
    let name = ap (λ p. is_same_text p c.args.name.now) (sym c.of.ensures) ∙ sym c.if-is_same_text.ensures in
    let value = ap (λ p. fits c.args.kind c.args.want.now p) (sym c.of-then-is_same_text.ensures) ∙ sym c.if-fits.ensures in
    sym (any_at _ _ c.args.fields.now c.loop-field.field-index _ c.loop-field-test.true (both_true _ _ name value))
