use Rattle.std.proofs.Common.{ap, sym, ◌∙◌}
use Rattle.engine_text.specs.Lists.{remove_first}
use Rattle.engine_text.specs.Texts.{same_bytes}
use Rattle.engine_text.proofs.PlaceLemmas.{seen, remove_at, remove_nowhere}
use Rattle.engine_text.specs.declared.event.FoldRow.{FoldRow}
use Rattle.event_ring.proofs.fold.Fold.destroy.Goals as goal

pub returns-in-Some : goal.returns-in-Some
returns-in-Some c =
    let p = λ (r : FoldRow). same_bytes r.id c.args.id.now in
    let at = seen p c.as_slice.result.now c.self.inside.rows.items c.place_of.result _ c.place_of.ensures c.as_slice.ensures.value c.in-Some.is in
    c.remove.ensures.items ∙ remove_at p c.self.inside.rows.items c.in-Some.i c.remove.result at ∙ ap (remove_first p) c.self.view_is

pub returns-in_default : goal.returns-in_default
returns-in_default c =
    let p = λ (r : FoldRow). same_bytes r.id c.args.id.now in
    let at = seen p c.as_slice.result.now c.self.inside.rows.items c.place_of.result _ c.place_of.ensures c.as_slice.ensures.value c.in_default.is in
    sym c.self.view_is ∙ sym (remove_nowhere p c.self.inside.rows.items at) ∙ ap (remove_first p) c.self.view_is
