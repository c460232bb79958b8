use Rattle.std.proofs.Common.{◌≡◌, ℕ, ◌<◌, None, refl, ap, sym, subst, ◌∙◌, length, List}
use Rattle.std.specs.Prelude.{slice_get}
use Rattle.std.proofs.lemmas.List.{length-map}
use Rattle.engine_text.specs.declared.ticket.Asked.{Asked}
use Rattle.engine_text.specs.declared.ticket.Ticket.{Ticket}
use Rattle.machine_model.specs.State.{State}
use Rattle.machine_tables.specs.Held.{tickets_in}
use Rattle.machine_effects.specs.Views.Tables.{state_of}
use Rattle.machine_events.specs.Memory.{Memory}
use Rattle.machine_tables.specs.Settled.{deaths, settled_at, settled_place, replies_for}
use Rattle.machine_tables.specs.declared.held.HeldTicket.{HeldTicket}
use Rattle.machine_tables.proofs.TicketLemmas.{settled_here}
use Rattle.machine_effects.proofs.tables.Tables.settle_at.Goals as goal

nothing : HeldTicket
nothing = record { number = 0; connection = 0; container = 0; asked = Asked.Stop; ready = None }

pub returns-clause-state : goal.returns-clause-state
returns-clause-state c =
    let s : State = state_of c.self.inside in
    let seed : List ℕ = c.self.inside.seed in
    let items : List HeldTicket = c.self.inside.tickets.tickets in
    let k : c.args.place < length (tickets_in seed items) = subst (λ (m : Memory). c.args.place < length m.state.tickets) (sym c.self.view_is) c.requires in
    let low : c.args.place < length items = simp length-map at k in
    let h : settled_at (slice_get s.tickets c.args.place) (deaths c.args.death) s ≡ replies_for (slice_get s.tickets c.args.place) s c.ready_at-ready.result =
    subst (λ (m : Memory). settled_at (slice_get m.state.tickets c.args.place) (deaths c.args.death) m.state ≡ replies_for (slice_get m.state.tickets c.args.place) m.state c.ready_at-ready.result) (sym c.self.view_is) c.ready_at-ready.ensures in
    ap (λ (l : List HeldTicket). record s { tickets = tickets_in seed l }) c.put.ensures.tickets
    ∙ (ap (λ (ts : List Ticket). record s { tickets = ts }) (settled_here seed items c.args.place nothing c.ready_at-ready.result (deaths c.args.death) s low refl refl h)
    ∙ ap (λ (m : Memory). settled_place c.args.place (deaths c.args.death) m.state) c.self.view_is)
