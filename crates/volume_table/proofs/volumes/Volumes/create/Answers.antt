use Rattle.std.proofs.Common.{◌≡◌, ◌<◌, List, map, length, vec_len, vec_capacity, ap, sym, ◌∙◌, arith}
use Rattle.std.specs.List.{insert}
use Rattle.std.specs.Result.{result_ok}
use Rattle.std.proofs.lemmas.List.Elements.{All-same}
use Rattle.engine_text.proofs.PlaceLemmas.{seen, find_at, not_found}
use Rattle.engine_text.specs.declared.volume.Volume.{Volume}
use Rattle.volume_table.specs.Volumes.{VolumeTable, is_named, volume_named, creation, new_volume, placed}
use Rattle.volume_table.specs.VolumesInside.{IsGapFor, IsWithin, use_in}
use Rattle.volume_table.proofs.OrderLemmas.{gives, sorted_insert}
use Rattle.volume_table.proofs.ReferenceLemmas.{up_uses, up_within, put_in}
use Rattle.volume_table.proofs.volumes.Volumes.create.Goals as goal

-- its place
gap : (c : goal.Joined-insert) → IsGapFor c.args.name c.self.inside.volumes.items c.in-Err.place
gap c = rw (c.as_str.ensures, c.as_slice.ensures.value) at c.in-Err.ensures.free

-- it stands there
stands : (c : goal.Joined-insert) → c.insert.new.self.items ≡ insert c.self.inside.volumes.items c.in-Err.place (new_volume c.args.name c.args.labels c.args.moment)
stands c =
    let old = c.self.inside.volumes in
    let shown = ap (λ (t : VolumeTable). length t.volumes) c.self.view_is in
    let room = ap (λ (t : VolumeTable). t.room) c.self.view_is in
    let lent = ap length c.as_slice.ensures.value in
    let within : vec_len old < vec_capacity old = omega (arith, shown, room, lent, c.as_slice.ensures.len, c.requires) in
    put_in c.insert.result old.items _ c.in-Err.place _ c.insert.ensures.items (c.insert.ensures.succeeds within)

pub returns-in_default-clause-answer : goal.returns-in_default-clause-answer
returns-in_default-clause-answer c =
    let p = is_named c.as_str.result.now in
    let at = seen p c.as_slice.result.now c.self.inside.volumes.items _ _ c.place_of.ensures.found c.as_slice.ensures.value (ap result_ok c.in_default.is) in
    let there = find_at p c.self.inside.volumes.items c.in_default.field-0 (new_volume c.args.name c.args.labels c.args.moment) at in
    let shown = rw (c.as_str.ensures, ap (λ (t : VolumeTable). t.volumes) c.self.view_is) at there in
    ap creation (sym shown)

pub invariant_of-self : goal.invariant_of-self
invariant_of-self c =
    let old = c.self.inside.volumes.items in
    record {
      ordered = rw (stands c) (sorted_insert (new_volume c.args.name c.args.labels c.args.moment) old c.in-Err.place (gap c) c.self.invariant.ordered);
      within = rw (stands c) (All-same (IsWithin (insert old c.in-Err.place (new_volume c.args.name c.args.labels c.args.moment))) _ _ c.move_up.ensures.items
          (up_within (new_volume c.args.name c.args.labels c.args.moment) old c.in-Err.place c.self.inside.references.items (gap c).within c.self.invariant.within));
    }

pub returns-clause-answer : goal.returns-clause-answer
returns-clause-answer c =
    let p = is_named c.as_str.result.now in
    let at = seen p c.as_slice.result.now c.self.inside.volumes.items _ _ c.place_of.ensures.found c.as_slice.ensures.value (ap result_ok c.in-Err.is) in
    let missing = not_found p c.self.inside.volumes.items _ at (ap (λ (t : VolumeTable). t.volumes) c.self.view_is) in
    ap creation (missing ∙ ap (λ name. volume_named name c.args.self.now.volumes) c.as_str.ensures)

pub returns-clause-volumes : goal.returns-clause-volumes
returns-clause-volumes c =
    stands c ∙ gives (new_volume c.args.name c.args.labels c.args.moment) c.self.inside.volumes.items c.in-Err.place (gap c)
    ∙ ap (λ (t : VolumeTable). placed (new_volume c.args.name c.args.labels c.args.moment) t.volumes) c.self.view_is

pub returns-clause-uses : goal.returns-clause-uses
returns-clause-uses c =
    let old = c.self.inside.volumes.items in
    let new = insert old c.in-Err.place (new_volume c.args.name c.args.labels c.args.moment) in
    ap (λ (us : List Volume). map (use_in us) c.move_up.new.references.items) (stands c)
    ∙ ap (map (use_in new)) c.move_up.ensures.items
    ∙ sym (up_uses (new_volume c.args.name c.args.labels c.args.moment) old c.in-Err.place c.self.inside.references.items (gap c).within)
    ∙ ap (λ (t : VolumeTable). t.uses) c.self.view_is
