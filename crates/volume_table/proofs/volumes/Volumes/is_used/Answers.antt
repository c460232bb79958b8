use Rattle.std.proofs.Common.{ap, sym, ◌∙◌, eqb}
use Rattle.std.specs.List.{list_any}
use Rattle.std.specs.Result.{result_ok}
use Rattle.engine_text.proofs.PlaceLemmas.{seen}
use Rattle.volume_table.specs.declared.references.Reference.{Reference}
use Rattle.volume_table.specs.Volumes.{VolumeTable, is_named, is_in_use}
use Rattle.volume_table.proofs.ReferenceLemmas.{in_use, unused}
use Rattle.volume_table.proofs.volumes.Volumes.is_used.Goals as goal

pub returns-in-Ok : goal.returns-in-Ok
returns-in-Ok c =
    let vs = c.self.inside.volumes.items in
    let rs = c.self.inside.references.items in
    let at = seen (is_named c.args.name.now) c.as_slice.result.now vs _ _ c.place_of.ensures.found c.as_slice.ensures.value (ap result_ok c.in-Ok.is) in
    c.is_referred.ensures ∙ ap (list_any (λ (r : Reference). eqb r.place c.in-Ok.place)) c.as_slice-in-Ok.ensures.value
    ∙ sym (in_use c.args.name.now vs c.self.invariant.ordered c.in-Ok.place at rs c.self.invariant.within)
    ∙ ap (λ (t : VolumeTable). is_in_use c.args.name.now t.uses) c.self.view_is

pub returns-in-Err : goal.returns-in-Err
returns-in-Err c =
    let vs = c.self.inside.volumes.items in
    let at = seen (is_named c.args.name.now) c.as_slice.result.now vs _ _ c.place_of.ensures.found c.as_slice.ensures.value (ap result_ok c.in-Err.is) in
    sym (unused c.args.name.now vs c.self.inside.references.items at c.self.invariant.within)
    ∙ ap (λ (t : VolumeTable). is_in_use c.args.name.now t.uses) c.self.view_is
