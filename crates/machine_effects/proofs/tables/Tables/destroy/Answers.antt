use Rattle.std.proofs.Common.{◌≡◌, ℕ, ◌==◌, List, [], ◌∷◌, ◌++◌, Some, None, ap, sym, ◌∙◌}
use Rattle.std.specs.Prelude.{option_map}
use Rattle.container_table.specs.Lists.{last_of}
use Rattle.engine_text.specs.declared.container.Container.{Container}
use Rattle.engine_text.specs.declared.log.LogRecord.{LogRecord}
use Rattle.engine_text.specs.declared.log.OwnedLog.{OwnedLog}
use Rattle.engine_text.specs.declared.owner.Owner.{Owner}
use Rattle.engine_text.specs.declared.step.DueAction.{DueAction}
use Rattle.machine_model.specs.State.{State, container_numbered}
use Rattle.machine_model.specs.Effects.Destroy.{destroy}
use Rattle.machine_events.specs.Fit.{exec_numbers, outputs_of}
use Rattle.container_table.specs.Logs.{container_in}
use Rattle.machine_tables.specs.Held.{tickets_in}
use Rattle.machine_events.specs.Memory.{Memory}
use Rattle.machine_effects.specs.Views.Tables.{state_of}
use Rattle.machine_effects.proofs.DestroyLemmas.{IsWithout, without_parts, destroyed, destroyed_none, tickets_last}
use Rattle.machine_model.proofs.RemoveLemmas.{removed_none}
use Rattle.machine_effects.proofs.tables.Tables.destroy.Goals as goal

pub returns-in_default-clause-state : goal.returns-in_default-clause-state
returns-in_default-clause-state c =
    let s : State = state_of c.self.inside in
    let none : container_numbered c.args.number s ≡ None = sym c.remove.ensures.value ∙ ap (option_map container_in) c.in_default.is in
    ap (λ (cs : List Container). record s { containers = cs; timers = c.remove.new.self.timers }) (c.remove.ensures.containers ∙ sym (removed_none (λ (d : Container). d.number == c.args.number) s.containers none))
    ∙ (ap (λ (ts : List DueAction). record s { timers = ts }) c.remove.ensures.timers
    ∙ (destroyed_none c.args.number s none ∙ ap (λ (m : Memory). (destroy c.args.number m.state).state) c.self.view_is))

pub returns-clause-state : goal.returns-clause-state
returns-clause-state c =
    let s : State = state_of c.self.inside in
    let n : ℕ = c.args.number in
    let d : Container = container_in c.in-Some.h in
    let found : container_numbered n s ≡ Some d = sym c.remove.ensures.value ∙ ap (option_map container_in) c.in-Some.is in
    let numbers : c.args.brought.execs ≡ exec_numbers n s = c.requires.numbers ∙ sym (ap (λ (m : Memory). exec_numbers n m.state) c.self.view_is) in
    let first : c.push_reserved.new.self.items ≡ record { owner = Owner.Container n; log = c.in-Some.h.log.records } ∷ [] =
    c.push_reserved.ensures.items ∙ (ap (λ (l : List OwnedLog). l ++ record { owner = Owner.Container n; log = c.close.result } ∷ []) c.requires.empty
    ∙ ap (λ (l : List LogRecord). record { owner = Owner.Container n; log = l } ∷ []) c.close.ensures) in
    let logs : c.from_vec.result ≡ record { owner = Owner.Container n; log = d.life.log } ∷ outputs_of n s =
    c.from_vec.ensures ∙ (c.remove_container.ensures.into ∙ ap (λ (l : List OwnedLog). l ++ outputs_of n s) first) in
    let t : State = record s {
      containers = c.remove.new.self.containers;
      timers = c.remove.new.self.timers;
      execs = c.remove_container.new.self.execs;
      outputs = c.remove_container.new.self.outputs;
      volumes = c.release.new.self.volumes;
      uses = c.release.new.self.uses;
      tickets = tickets_in c.self.inside.seed c.answer.new.self.tickets;
      removed = c.add.new.self.removed;
      kept = c.add.new.self.kept;
    } in
    let parts : IsWithout n d s t = record {
      containers = c.remove.ensures.containers;
      timers = c.remove.ensures.timers;
      execs = c.remove_container.ensures.execs;
      outputs = c.remove_container.ensures.outputs;
      volumes = c.release.ensures.volumes;
      uses = c.release.ensures.uses;
      tickets = ap (tickets_in c.self.inside.seed) c.answer.ensures.tickets ∙ tickets_last c.self.inside.seed n d.life.code c.self.inside.tickets.tickets;
      removed = c.add.ensures.removed ∙ ap (λ (l : List ℕ). s.removed ++ record { number = n; execs = l } ∷ []) numbers;
      kept = c.add.ensures.kept ∙ ap (λ (l : List OwnedLog). last_of 64 (s.kept ++ record { number = n; logs = l } ∷ [])) logs;
    } in
    without_parts n d s t parts
    ∙ (destroyed n s d found ∙ ap (λ (m : Memory). (destroy n m.state).state) c.self.view_is)
