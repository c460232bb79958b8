use Rattle.std.proofs.Common.{true}
use Rattle.engine_text.specs.Texts.{same_bytes}
use Rattle.engine_text.proofs.PlaceLemmas.{seen, updated, not_updated}
use Rattle.engine_text.specs.declared.event.FoldRow.{FoldRow}
use Rattle.event_ring.proofs.fold.Fold.start.Goals as goal

pub returns-in-Some : goal.returns-in-Some
returns-in-Some c =
    let p = λ (r : FoldRow). same_bytes r.id c.args.id.now in
    let at = seen p c.as_slice.result.now c.self.inside.rows.items c.place_of.result _ c.place_of.ensures c.as_slice.ensures.value c.in-Some.is in
    updated p (λ (r : FoldRow). record r { live = true; code = 0 }) c.self.inside.rows.items _ c.in-Some.i c.index_mut-row.result.now at c.index_mut-row.ensures.value c.self.view_is

pub returns-in_default : goal.returns-in_default
returns-in_default c =
    let p = λ (r : FoldRow). same_bytes r.id c.args.id.now in
    let at = seen p c.as_slice.result.now c.self.inside.rows.items c.place_of.result _ c.place_of.ensures c.as_slice.ensures.value c.in_default.is in
    not_updated p (λ (r : FoldRow). record r { live = true; code = 0 }) c.self.inside.rows.items _ at c.self.view_is
