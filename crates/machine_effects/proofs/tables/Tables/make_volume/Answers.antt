use Rattle.std.proofs.Common.{◌≡◌, None, ap, ◌∙◌, arith, find, length}
use Rattle.engine_text.specs.Texts.{same_bytes}
use Rattle.engine_text.specs.declared.volume.Volume.{Volume}
use Rattle.machine_model.specs.Calls.Create.{make_volume, new_volume, volume_named}
use Rattle.machine_model.specs.State.{State}
use Rattle.machine_events.specs.Memory.{Memory}
use Rattle.machine_effects.specs.Views.Tables.{state_of}
use Rattle.machine_events.proofs.VolumeLemmas.{made_new, made_state}
use Rattle.machine_effects.proofs.tables.Tables.make_volume.Goals as goal

pub create-requires : goal.create-requires
create-requires c =
    let stood : length c.self.inside.volumes.volumes ≡ length c.args.self.now.state.volumes = ap (λ (m : Memory). length m.state.volumes) c.self.view_is in
    let room : c.self.inside.volumes.room ≡ c.args.self.now.volumes = ap (λ (m : Memory). m.volumes) c.self.view_is in
    omega (arith, stood, room, c.requires.room)

pub returns-clause-state : goal.returns-clause-state
returns-clause-state c =
    let s : State = state_of c.self.inside in
    let v : Volume = new_volume c.args.name c.args.labels s.clock in
    let free : find (λ (w : Volume). same_bytes w.name v.name) s.volumes ≡ None = ap (λ (m : Memory). volume_named c.args.name m.state) c.self.view_is ∙ c.requires.free in
    made_state s c.args.name c.args.labels c.create.new.self.volumes c.create.new.self.uses
    (made_new c.create.result v s.volumes c.create.new.self.volumes free c.create.ensures.answer c.create.ensures.volumes) c.create.ensures.uses
    ∙ ap (λ (m : Memory). (make_volume c.args.name c.args.labels m.state).state) c.self.view_is
