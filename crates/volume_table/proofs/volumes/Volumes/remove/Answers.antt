use Rattle.std.proofs.Common.{◌≡◌, ◌<◌, [], List, false, Some, map, length, position, eqb, ap, sym, ◌∙◌}
use Rattle.std.specs.List.{remove, list_any}
use Rattle.std.specs.Result.{result_ok}
use Rattle.std.proofs.lemmas.List.Elements.{All-same}
use Rattle.std.proofs.lemmas.List.Quantifiers.{position-Some}
use Rattle.engine_text.specs.Lists.{remove_first}
use Rattle.engine_text.proofs.PlaceLemmas.{seen, find_at, not_found, remove_at}
use Rattle.engine_text.specs.declared.volume.Volume.{Volume}
use Rattle.volume_table.specs.declared.references.Reference.{Reference}
use Rattle.volume_table.specs.Volumes.{VolumeTable, is_named, volume_named, is_in_use, removal}
use Rattle.volume_table.specs.VolumesInside.{IsWithin, use_in}
use Rattle.volume_table.proofs.OrderLemmas.{sorted_remove}
use Rattle.volume_table.proofs.ReferenceLemmas.{down_uses, down_within, in_use}
use Rattle.volume_table.proofs.volumes.Volumes.remove.Goals as goal

pub returns-in_default-clause-answer : goal.returns-in_default-clause-answer
returns-in_default-clause-answer c =
    let p = is_named c.args.name.now in
    let at = seen p c.as_slice.result.now c.self.inside.volumes.items _ _ c.place_of.ensures.found c.as_slice.ensures.value (ap result_ok c.in_default.is) in
    ap (λ o. removal o (is_in_use c.args.name.now c.args.self.now.uses)) (not_found p c.self.inside.volumes.items _ at (ap (λ (t : VolumeTable). t.volumes) c.self.view_is))

pub returns-then-is_referred-clause-answer : goal.returns-then-is_referred-clause-answer
returns-then-is_referred-clause-answer c =
    let p = is_named c.args.name.now in
    let vs = c.self.inside.volumes.items in
    let rs = c.self.inside.references.items in
    let at = seen p c.as_slice.result.now vs _ _ c.place_of.ensures.found c.as_slice.ensures.value (ap result_ok c.in-Ok.is) in
    let used = sym c.if-is_referred.true ∙ c.is_referred.ensures ∙ ap (list_any (λ (r : Reference). eqb r.place c.in-Ok.place)) c.as_slice-2.ensures.value
    ∙ sym (in_use c.args.name.now vs c.self.invariant.ordered c.in-Ok.place at rs c.self.invariant.within)
    ∙ ap (λ (t : VolumeTable). is_in_use c.args.name.now t.uses) c.self.view_is in
    let there = sym (find_at p vs c.in-Ok.place (record { name = []; labels = []; created = 0 }) at) ∙ ap (λ (t : VolumeTable). volume_named c.args.name.now t.volumes) c.self.view_is in
    (λ j. removal (there j) (used j))

-- where the volume stands
at_place : (c : goal.After-drop-remove-2) → position (is_named c.args.name.now) c.self.inside.volumes.items ≡ Some c.in-Ok.place
at_place c = seen (is_named c.args.name.now) c.as_slice.result.now c.self.inside.volumes.items _ _ c.place_of.ensures.found c.as_slice.ensures.value (ap result_ok c.in-Ok.is)

within : (c : goal.After-drop-remove-2) → c.in-Ok.place < length c.self.inside.volumes.items
within c = (position-Some (is_named c.args.name.now) c.self.inside.volumes.items c.in-Ok.place c.remove.result (at_place c)).0

-- no reference has its place
free : (c : goal.After-drop-remove-2) → list_any (λ (r : Reference). eqb r.place c.in-Ok.place) c.self.inside.references.items ≡ false
free c = ap (list_any (λ (r : Reference). eqb r.place c.in-Ok.place)) (sym c.as_slice-2.ensures.value) ∙ sym c.is_referred.ensures ∙ c.if-is_referred.false

pub invariant_of-self : goal.invariant_of-self
invariant_of-self c =
    let old = c.self.inside.volumes.items in
    record {
      ordered = rw c.remove.ensures.items (sorted_remove old c.in-Ok.place c.self.invariant.ordered);
      within = rw c.remove.ensures.items (All-same (IsWithin (remove old c.in-Ok.place)) _ _ c.move_down.ensures.items
          (down_within old c.in-Ok.place c.self.inside.references.items (free c) (within c) c.self.invariant.within));
    }

pub returns-clause-answer : goal.returns-clause-answer
returns-clause-answer c =
    let p = is_named c.args.name.now in
    let vs = c.self.inside.volumes.items in
    let rs = c.self.inside.references.items in
    let unused = sym (free c) ∙ sym (in_use c.args.name.now vs c.self.invariant.ordered c.in-Ok.place (at_place c) rs c.self.invariant.within)
    ∙ ap (λ (t : VolumeTable). is_in_use c.args.name.now t.uses) c.self.view_is in
    let there = sym (find_at p vs c.in-Ok.place c.remove.result (at_place c)) ∙ ap (λ (t : VolumeTable). volume_named c.args.name.now t.volumes) c.self.view_is in
    (λ j. removal (there j) (unused j))

pub returns-clause-volumes : goal.returns-clause-volumes
returns-clause-volumes c =
    c.remove.ensures.items ∙ remove_at (is_named c.args.name.now) c.self.inside.volumes.items c.in-Ok.place c.remove.result (at_place c)
    ∙ ap (λ (t : VolumeTable). remove_first (is_named c.args.name.now) t.volumes) c.self.view_is

pub returns-clause-uses : goal.returns-clause-uses
returns-clause-uses c =
    let old = c.self.inside.volumes.items in
    ap (λ (us : List Volume). map (use_in us) c.move_down.new.references.items) c.remove.ensures.items
    ∙ ap (map (use_in (remove old c.in-Ok.place))) c.move_down.ensures.items
    ∙ sym (down_uses old c.in-Ok.place c.self.inside.references.items (free c) (within c))
    ∙ ap (λ (t : VolumeTable). t.uses) c.self.view_is
