use Rattle.std.proofs.Common.{◌≡◌, ◌<◌, List, ap, sym, subst, ◌∙◌, arith, length}
use Rattle.std.specs.List.{remove}
use Rattle.engine_text.specs.declared.volume.Volume.{Volume}
use Rattle.machine_model.specs.Calls.Create.{placed}
use Rattle.machine_events.specs.NewVolumes.{AreMissing, with_volumes}
use Rattle.machine_events.proofs.CreateLemmas.{IsRest, created, first_made, placed_length}
use Rattle.machine_events.proofs.new_volumes.make_volumes.Goals as goal

pub loop-made-preserved : goal.loop-made-preserved
loop-made-preserved c =
    let vs : List Volume = c.loop-made.volumes.volumes in
    let v : Volume = c.remove-name.result in
    let low : 0 < length c.loop-made.made.items = omega arith in
    let left : IsRest c.loop-made.made.items v vs = first_made c.loop-made.made.items v _ vs low c.remove-name.ensures.value c.loop-made.invariant.missing in
    let is : c.create.new.self.volumes ≡ placed v vs = created c.create.result v vs c.create.new.self.volumes left.fresh c.create.ensures.answer c.create.ensures.volumes in
    let more : length c.create.new.self.volumes ≡ length (placed v vs) = ap length is in
    let most = placed_length v vs in
    record {
      volumes = ap (λ l. with_volumes l c.create.new.self.volumes) c.remove-name.ensures.items
          ∙ (ap (with_volumes (remove c.loop-made.made.items 0)) is ∙ (left.same ∙ c.loop-made.invariant.volumes));
      missing = subst (λ (l : List Volume). AreMissing l c.create.new.self.volumes) (sym c.remove-name.ensures.items)
          (subst (λ (l : List Volume). AreMissing (remove c.loop-made.made.items 0) l) (sym is) left.rest);
      room = omega (arith, more, most, c.create.ensures.room, c.remove-name.ensures.len, c.loop-made.invariant.room);
      uses = c.create.ensures.uses ∙ c.loop-made.invariant.uses;
      use_room = c.create.ensures.use_room ∙ c.loop-made.invariant.use_room;
    }
