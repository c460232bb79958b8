use Rattle.std.proofs.Common.{sym, subst}
use Rattle.http_edge.specs.Reading.{FillSays}
use Rattle.http_edge.proofs.ReadLemmas.{fill_says}
use Rattle.http_edge.proofs.fill.fill.Goals as goal

pub returns : goal.returns
returns g c =
    subst (λ a. FillSays c.fill_on-filled.result.0 c.args.ahead.now a c.fill_on-filled.new.buffer (g.S.Source.gives c.args.source.now) (g.S.Source.gives c.fill_on-filled.new.source))
    (sym c.take-start.ensures.left)
    (fill_says c.args.ahead.now c.take-start.new.into c.fill_on-filled.new.buffer c.take-start.result _ _ c.take-start.ensures.count c.take-start.ensures.front
    c.fill_on-filled.result.0 c.fill_on-filled.result.1 c.fill_on-filled.ensures.fills c.fill_on-filled.auto.buffer c.fill_on-filled.ensures.facts)
