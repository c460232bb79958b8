use Rattle.std.proofs.Common.{◌≡◌, ◌<◌, None, List, ◌++◌, ap, sym, ◌∙◌, subst, arith, find, length, map}
use Rattle.std.specs.List.{AllByRecursion}
use Rattle.std.specs.Prelude.{IsTrue}
use Rattle.container_table.specs.Tables.{named, with_id}
use Rattle.engine_text.specs.Texts.{same_bytes}
use Rattle.engine_text.specs.declared.container.Container.{Container}
use Rattle.engine_text.specs.declared.mounts.Mount.{Mount}
use Rattle.engine_text.specs.declared.volume.Volume.{Volume}
use Rattle.engine_text.specs.declared.volume.VolumeUse.{VolumeUse}
use Rattle.volume_table.specs.Volumes.{use_of}
use Rattle.machine_model.specs.Calls.Create.{add}
use Rattle.machine_model.specs.Consistency.{is_there}
use Rattle.machine_model.specs.State.{State}
use Rattle.container_table.specs.Logs.{container_in}
use Rattle.machine_events.specs.Memory.{Memory}
use Rattle.machine_events.specs.NewVolumes.{AreMissing, missing_volumes, with_volumes}
use Rattle.machine_effects.specs.Views.Tables.{state_of}
use Rattle.machine_events.proofs.CreateLemmas.{added_parts, all_stand, are_missing, few_missing, new_volumes}
use Rattle.machine_effects.proofs.tables.Tables.add.Goals as goal

pub make_volumes-requires-clause-missing : goal.make_volumes-requires-clause-missing
make_volumes-requires-clause-missing c =
    let s : State = c.args.self.now.state in
    subst (λ (l : List Volume). AreMissing l c.self.inside.volumes.volumes) (sym c.requires.volumes)
    (subst (λ (m : Memory). AreMissing (missing_volumes s.clock c.args.held.container.life.mounts s.volumes) m.state.volumes) (sym c.self.view_is) (are_missing s.clock c.args.held.container.life.mounts s.volumes))

pub make_volumes-requires-clause-room : goal.make_volumes-requires-clause-room
make_volumes-requires-clause-room c =
    let s : State = c.args.self.now.state in
    let ms : List Mount = c.args.held.container.life.mounts in
    let stood : length c.self.inside.volumes.volumes ≡ length s.volumes = ap (λ (m : Memory). length m.state.volumes) c.self.view_is in
    let room : c.self.inside.volumes.room ≡ c.args.self.now.volumes = ap (λ (m : Memory). m.volumes) c.self.view_is in
    let made : length c.args.volumes.items ≡ length (missing_volumes s.clock ms s.volumes) = ap length c.requires.volumes in
    let few = few_missing s.clock ms s.volumes in
    let most = c.requires.room.volumes in
    omega (arith, stood, room, made, few, most)

pub refer_to-requires-clause-stand : goal.refer_to-requires-clause-stand
refer_to-requires-clause-stand c =
    let s : State = c.args.self.now.state in
    let ms : List Mount = c.args.held.container.life.mounts in
    let made : List Volume = missing_volumes s.clock ms s.volumes in
    let same : c.make_volumes.new.volumes.volumes ≡ with_volumes made s.volumes =
    c.make_volumes.ensures.volumes ∙ (ap (λ l. with_volumes l c.self.inside.volumes.volumes) c.requires.volumes ∙ ap (λ (m : Memory). with_volumes made m.state.volumes) c.self.view_is) in
    subst (λ (vs : List Volume). AllByRecursion (λ (m : Mount). IsTrue (is_there (find (λ v. same_bytes v.name m.volume) vs))) c.as_slice.result.now) (sym same)
    (subst (λ (l : List Mount). AllByRecursion (λ (m : Mount). IsTrue (is_there (find (λ v. same_bytes v.name m.volume) (with_volumes made s.volumes)))) l) (sym c.as_slice.ensures) (all_stand ms s))

pub insert-requires-clause-above : goal.insert-requires-clause-above
insert-requires-clause-above c = subst (λ (m : Memory). AllByRecursion (λ (d : Container). d.number < c.args.held.container.number) m.state.containers) (sym c.self.view_is) c.requires.above

pub insert-requires-clause-id : goal.insert-requires-clause-id
insert-requires-clause-id c = subst (λ (m : Memory). with_id c.args.held.container.id m.state.containers ≡ None) (sym c.self.view_is) c.requires.id

pub insert-requires-clause-name : goal.insert-requires-clause-name
insert-requires-clause-name c = subst (λ (m : Memory). named c.args.held.container.name m.state.containers ≡ None) (sym c.self.view_is) c.requires.name

pub insert-requires-clause-room : goal.insert-requires-clause-room
insert-requires-clause-room c = subst (λ (m : Memory). length m.state.containers < m.containers) (sym c.self.view_is) c.requires.room.place

pub returns-clause-state : goal.returns-clause-state
returns-clause-state c =
    let s : State = state_of c.self.inside in
    let d : Container = container_in c.args.held in
    let made : c.args.volumes.items ≡ new_volumes d s = c.requires.volumes ∙ sym (ap (λ (m : Memory). new_volumes d m.state) c.self.view_is) in
    let uses : c.refer_to.new.volumes.uses ≡ s.uses ++ map (λ (m : Mount). use_of m.volume d.number) d.life.mounts =
    c.refer_to.ensures.uses
    ∙ (ap (λ (l : List VolumeUse). l ++ map (λ (m : Mount). use_of m.volume d.number) c.as_slice.result.now) c.make_volumes.ensures.uses
    ∙ ap (λ (l : List Mount). s.uses ++ map (λ (m : Mount). use_of m.volume d.number) l) c.as_slice.ensures) in
    added_parts d s c.insert.new.self.containers c.insert.new.self.timers c.refer_to.new.volumes.volumes c.refer_to.new.volumes.uses
    c.insert.ensures.containers c.insert.ensures.timers
    (c.refer_to.ensures.volumes ∙ (c.make_volumes.ensures.volumes ∙ ap (λ l. with_volumes l s.volumes) made)) uses
    ∙ ap (λ (m : Memory). (add d m.state).state) c.self.view_is
