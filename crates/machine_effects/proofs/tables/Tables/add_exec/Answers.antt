use Rattle.std.proofs.Common.{◌≡◌, ◌<◌, None, refl, ap, sym, subst, ◌∙◌, length}
use Rattle.std.specs.List.{AllByRecursion}
use Rattle.exec_table.specs.Execs.{empty_output, exec_with_id}
use Rattle.machine_model.specs.Calls.ExecCreate.{with_exec}
use Rattle.machine_model.specs.State.{State}
use Rattle.machine_events.specs.Memory.{Memory}
use Rattle.machine_effects.specs.Views.Tables.{state_of}
use Rattle.machine_events.proofs.NewExecLemmas.{added_exec}
use Rattle.machine_effects.proofs.tables.Tables.add_exec.Goals as goal

pub create-requires-clause-above : goal.create-requires-clause-above
create-requires-clause-above c = subst (λ (m : Memory). AllByRecursion (λ x. x.number < c.args.exec.number) m.state.execs) (sym c.self.view_is) c.requires.above

pub create-requires-clause-fresh : goal.create-requires-clause-fresh
create-requires-clause-fresh c = subst (λ (m : Memory). exec_with_id c.args.exec.id m.state.execs ≡ None) (sym c.self.view_is) c.requires.id

pub create-requires-clause-room : goal.create-requires-clause-room
create-requires-clause-room c = subst (λ (m : Memory). length m.state.execs < m.execs) (sym c.self.view_is) c.requires.room

pub returns-clause-state : goal.returns-clause-state
returns-clause-state c =
    let s : State = state_of c.self.inside in
    added_exec c.args.exec s c.create.new.self.execs c.create.new.self.outputs (empty_output c.args.exec.number) c.create.ensures.execs c.create.ensures.outputs refl
    ∙ ap (λ (m : Memory). with_exec c.args.exec m.state) c.self.view_is
