use Rattle.std.proofs.Common.{◌≡◌, false, ap, ◌∙◌, subst, sym}
use Rattle.std.specs.Prelude.{IsSome}
use Rattle.machine_model.specs.Calls.Create.{volume_named}
use Rattle.machine_model.specs.Calls.Volumes.{is_in_use, without_volume}
use Rattle.machine_model.specs.State.{State}
use Rattle.machine_events.specs.Memory.{Memory}
use Rattle.machine_effects.specs.Views.Tables.{state_of}
use Rattle.machine_events.proofs.VolumeLemmas.{taken, taken_state}
use Rattle.machine_effects.proofs.tables.Tables.remove_volume.Goals as goal

pub returns-clause-state : goal.returns-clause-state
returns-clause-state c =
    let s : State = state_of c.self.inside in
    let unused : is_in_use c.args.name.now s ≡ false = ap (λ (m : Memory). is_in_use c.args.name.now m.state) c.self.view_is ∙ c.requires.unused in
    let stands : IsSome (volume_named c.args.name.now s) = subst (λ (m : Memory). IsSome (volume_named c.args.name.now m.state)) (sym c.self.view_is) c.requires.stands in
    taken_state s c.args.name.now c.remove.new.self.volumes c.remove.new.self.uses
    (taken c.remove.result c.args.name.now s.volumes c.remove.new.self.volumes (is_in_use c.args.name.now s) stands unused c.remove.ensures.answer c.remove.ensures.volumes) c.remove.ensures.uses
    ∙ ap (λ (m : Memory). without_volume c.args.name.now m.state) c.self.view_is
