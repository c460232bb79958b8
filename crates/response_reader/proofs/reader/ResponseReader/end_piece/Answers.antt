use Rattle.std.proofs.Common.{[], ap, refl, sym, ◌∙◌}
use Rattle.response_reader.specs.contracts.reader.ResponseReader.{the_view}
use Rattle.response_reader.specs.declared.framing.Left.TheVariants as left
use Rattle.response_reader.proofs.StepLemmas.{stays, at_line_end, ended, seen, seen_broken, seen_cut, seen_unended, end_breaks, end_lacks}
use Rattle.response_reader.proofs.reader.ResponseReader.end_piece.Goals as goal

pub returns-then-not-is_line_end-clause-says : goal.returns-then-not-is_line_end-clause-says
returns-then-not-is_line_end-clause-says g c = stays _ _

pub returns-in-Whole-clause-says : goal.returns-in-Whole-clause-says
returns-in-Whole-clause-says g c =
    let is = at_line_end c.args.self.now c.left.result c.left.ensures (sym c.is_line_end.ensures ∙ c.if-not-is_line_end.false) in
    seen (the_view c.self.inside) c.args.self.now _ _ c.self.view_is _ []
    (ended (the_view c.self.inside) _ _ _ c.in-Whole.field-0 c.in-Whole.count (ap (λ r. r.stage) c.self.view_is ∙ is) refl c.saturating_add-self-inside.ensures refl c.in-Whole.ensures)

pub returns-in-Refused-clause-says : goal.returns-in-Refused-clause-says
returns-in-Refused-clause-says g c =
    let is = at_line_end c.args.self.now c.left.result c.left.ensures (sym c.is_line_end.ensures ∙ c.if-not-is_line_end.false) in
    seen_broken (the_view c.self.inside) c.args.self.now _ _ c.self.view_is (left.Piece 0) is (end_breaks _ _ _ c.in-Refused.ensures)

pub returns-in-CutShort-clause-says : goal.returns-in-CutShort-clause-says
returns-in-CutShort-clause-says g c =
    let is = at_line_end c.args.self.now c.left.result c.left.ensures (sym c.is_line_end.ensures ∙ c.if-not-is_line_end.false) in
    (seen_cut (the_view c.self.inside) c.args.self.now _ _ c.self.view_is (left.Piece 0) is (end_lacks _ _ _ c.in-CutShort.ensures.0), c.in-CutShort.ensures.1)

pub returns-in-Failed-clause-says : goal.returns-in-Failed-clause-says
returns-in-Failed-clause-says g c =
    let is = at_line_end c.args.self.now c.left.result c.left.ensures (sym c.is_line_end.ensures ∙ c.if-not-is_line_end.false) in
    (seen_unended (the_view c.self.inside) c.args.self.now _ _ c.self.view_is (left.Piece 0) is (end_lacks _ _ _ c.in-Failed.ensures.0), c.in-Failed.ensures.1)
