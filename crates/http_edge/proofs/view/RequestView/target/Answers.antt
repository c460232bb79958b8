use Rattle.std.proofs.Common.{◌∙◌, sym, ap, subst, slice_range}
use Rattle.std.specs.Prelude.{IsUtf8}
use Rattle.std.proofs.Math.Logic.{∥∥₁_map}
use Rattle.std.proofs.lemmas.Str.{IsUtf8-had}
use Rattle.http_edge.proofs.view.RequestView.target.Goals as goal

pub text-requires : goal.text-requires
text-requires c =
    let here = c.of.ensures ∙ ap (λ b. slice_range b c.args.self.now.found.path.start c.args.self.now.found.path.end) c.head.ensures in
    subst IsUtf8 (sym here) (IsUtf8-had _ (∥∥₁_map c.args.self.now.shown (λ s. s.target)))
