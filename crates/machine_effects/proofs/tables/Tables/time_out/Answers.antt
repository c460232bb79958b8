use Rattle.std.proofs.Common.{ℕ, List, refl, ap, sym, subst, ◌∙◌}
use Rattle.machine_model.specs.Consistency.{is_there}
use Rattle.machine_model.specs.State.{State, container_numbered}
use Rattle.machine_events.specs.Deadlines.{HasId, timed_out_at}
use Rattle.machine_tables.specs.Held.{tickets_in}
use Rattle.machine_events.specs.Memory.{Memory}
use Rattle.machine_effects.specs.Views.Tables.{state_of}
use Rattle.machine_tables.specs.declared.held.HeldTicket.{HeldTicket}
use Rattle.machine_effects.proofs.DueLemmas.{timed_out_found, some_there}
use Rattle.machine_effects.proofs.tables.Tables.time_out.Goals as goal

pub returns-then-has-clause-state : goal.returns-then-has-clause-state
returns-then-has-clause-state c =
    let s : State = state_of c.self.inside in
    let seed : List ℕ = c.self.inside.seed in
    let ts : List HeldTicket = c.self.inside.tickets.tickets in
    let found = some_there (container_numbered c.args.number s) (ap (λ (m : Memory). is_there (container_numbered c.args.number m.state)) c.self.view_is ∙ sym c.has.ensures ∙ c.if-has.true) in
    let id : HasId c.args.number s = subst (λ (m : Memory). HasId c.args.number m.state) (sym c.self.view_is) c.requires in
    ap (λ (l : List HeldTicket). record s { tickets = tickets_in seed l }) c.answer.ensures.tickets
    ∙ (timed_out_found c.args.number s seed ts (container_numbered c.args.number s) refl refl refl id found.0 found.1
    ∙ ap (λ (m : Memory). (timed_out_at c.args.number m.state).state) c.self.view_is)
