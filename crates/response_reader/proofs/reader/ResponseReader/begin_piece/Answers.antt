use Rattle.std.proofs.Common.{[], ap, refl, sym, ◌∙◌}
use Rattle.response_reader.specs.contracts.reader.ResponseReader.{the_view}
use Rattle.response_reader.specs.declared.framing.Left.TheVariants as left
use Rattle.response_reader.proofs.StepLemmas.{stays, at_line, begun, over, seen, seen_broken, seen_cut, seen_unended}
use Rattle.response_reader.proofs.reader.ResponseReader.begin_piece.Goals as goal

pub returns-then-not-is_line-clause-says : goal.returns-then-not-is_line-clause-says
returns-then-not-is_line-clause-says g c = stays _ _

pub returns-in-Piece-clause-says : goal.returns-in-Piece-clause-says
returns-in-Piece-clause-says g c =
    let is = at_line c.args.self.now c.left.result c.left.ensures (sym c.is_line.ensures ∙ c.if-not-is_line.false) in
    seen (the_view c.self.inside) c.args.self.now _ _ c.self.view_is _ []
    (begun (the_view c.self.inside) _ _ _ c.in-Piece.size c.in-Piece.count (ap (λ r. r.stage) c.self.view_is ∙ is) refl c.saturating_add-self-inside.ensures refl c.in-Piece.ensures.0 c.in-Piece.ensures.1)

pub returns-in-Last-clause-says : goal.returns-in-Last-clause-says
returns-in-Last-clause-says g c =
    let is = at_line c.args.self.now c.left.result c.left.ensures (sym c.is_line.ensures ∙ c.if-not-is_line.false) in
    seen (the_view c.self.inside) c.args.self.now _ _ c.self.view_is _ []
    (over (the_view c.self.inside) _ _ _ c.in-Last.count (ap (λ r. r.stage) c.self.view_is ∙ is) refl c.saturating_add-self-inside-in-Last.ensures refl c.in-Last.ensures)

pub returns-in-Refused-clause-says : goal.returns-in-Refused-clause-says
returns-in-Refused-clause-says g c =
    let is = at_line c.args.self.now c.left.result c.left.ensures (sym c.is_line.ensures ∙ c.if-not-is_line.false) in
    seen_broken (the_view c.self.inside) c.args.self.now _ _ c.self.view_is left.Chunk is c.in-Refused.ensures

pub returns-in-CutShort-clause-says : goal.returns-in-CutShort-clause-says
returns-in-CutShort-clause-says g c =
    let is = at_line c.args.self.now c.left.result c.left.ensures (sym c.is_line.ensures ∙ c.if-not-is_line.false) in
    (seen_cut (the_view c.self.inside) c.args.self.now _ _ c.self.view_is left.Chunk is c.in-CutShort.ensures.0, c.in-CutShort.ensures.1)

pub returns-in-Failed-clause-says : goal.returns-in-Failed-clause-says
returns-in-Failed-clause-says g c =
    let is = at_line c.args.self.now c.left.result c.left.ensures (sym c.is_line.ensures ∙ c.if-not-is_line.false) in
    (seen_unended (the_view c.self.inside) c.args.self.now _ _ c.self.view_is left.Chunk is c.in-Failed.ensures.0, c.in-Failed.ensures.1)
