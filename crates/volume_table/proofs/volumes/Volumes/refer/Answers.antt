use Rattle.std.proofs.Common.{◌∷◌, [], ◌++◌, map, ap, ◌∙◌}
use Rattle.std.specs.Result.{result_ok}
use Rattle.std.proofs.lemmas.Bool.{false≢true}
use Rattle.engine_text.proofs.PlaceLemmas.{seen, not_found}
use Rattle.volume_table.specs.Volumes.{VolumeTable, is_named, use_of}
use Rattle.volume_table.specs.VolumesInside.{use_in}
use Rattle.volume_table.proofs.ReferenceLemmas.{uses_push, name_there}
use Rattle.volume_table.proofs.volumes.Volumes.refer.Goals as goal

pub returns-in-Ok-clause-uses : goal.returns-in-Ok-clause-uses
returns-in-Ok-clause-uses c =
    let vs = c.self.inside.volumes.items in
    let at = seen (is_named c.args.name.now) c.as_slice.result.now vs _ _ c.place_of.ensures.found c.as_slice.ensures.value (ap result_ok c.in-Ok.is) in
    ap (map (use_in vs)) c.push_reserved.ensures.items
    ∙ uses_push vs (record { place = c.in-Ok.place; container = c.args.container }) c.self.inside.references.items
    ∙ ap (λ name. map (use_in vs) c.self.inside.references.items ++ use_of name c.args.container ∷ []) (name_there c.args.name.now vs c.in-Ok.place at)
    ∙ ap (λ (t : VolumeTable). t.uses ++ use_of c.args.name.now c.args.container ∷ []) c.self.view_is

pub returns-in_default-clause-uses : goal.returns-in_default-clause-uses
returns-in_default-clause-uses c =
    let p = is_named c.args.name.now in
    let at = seen p c.as_slice.result.now c.self.inside.volumes.items _ _ c.place_of.ensures.found c.as_slice.ensures.value (ap result_ok c.in_default.is) in
    let none = not_found p c.self.inside.volumes.items _ at (ap (λ (t : VolumeTable). t.volumes) c.self.view_is) in
    absurd (false≢true (rw (← none) at c.requires.stands))
