-- Names, volumes and tickets are kept by every step.
use Rattle.std.specs.Option.{unwrap_or}
use Rattle.std.proofs.Common.{◌^◌, ◌<◌, List, Option, Some, None}
use Rattle.machine_model.specs.State.{State}
use Rattle.machine_model.specs.Chain.{Effect, Died, still}
use Rattle.machine_model.specs.Call.{outcome_of}
use Rattle.machine_model.specs.Consistency.{HasVolumes}
use Rattle.machine_model.specs.Due.{least_due, due_effect}
use Rattle.machine_model.specs.Effects.Settle.{settle_tickets}
use Rattle.machine_model.specs.Step.{at_moment, step_of}
use Rattle.machine_model.specs.History.{after_step}
use Rattle.machine_model.proofs.SettleLemmas.{settle-tickets}
use Rattle.machine_model.proofs.Kept.NameLemmas.{Names, names_closed}
use Rattle.machine_model.proofs.Kept.TicketLemmas.{TicketsOf, tickets_closed, tickets_of, has_tickets}
use Rattle.machine_model.proofs.Kept.VolumeLemmas.{VolumesOf, volumes_closed}
use Rattle.engine_text.specs.declared.step.DueAction.{DueAction}
use Rattle.engine_text.specs.declared.step.Step.{Step}
use Rattle.machine_model.proofs.ClosureLemmas.{runs_call, runs_due}

-- ---- names

due_names : (s : State) (o : Option DueAction) → (unwrap_or (step_of o s) (still s)).state.next_number < 2 ^ 64 → Names s → Names (unwrap_or (step_of o s) (still s)).state
due_names s None most h = h
due_names s (Some d) most h = (runs_due names_closed d (at_moment d.moment s)).1 most h

pub names_step : (s : State) (x : Step) → (after_step s x).next_number < 2 ^ 64 → Names s → Names (after_step s x)
names_step s Step.Due most h = due_names s (least_due s) most h
names_step s (Step.Call connection moment c) most h = (runs_call names_closed c connection (at_moment moment s)).1 most h

-- ---- volumes

abbrev pub Volumes : State → Type 0
Volumes s = VolumesOf s.containers s.volumes s.uses s.next_number

due_volumes : (s : State) (o : Option DueAction) → Volumes s → Volumes (unwrap_or (step_of o s) (still s)).state
due_volumes s None h = h
due_volumes s (Some d) h = runs_due volumes_closed d (at_moment d.moment s) h

pub volumes_step : (s : State) (x : Step) → Volumes s → Volumes (after_step s x)
volumes_step s Step.Due h = due_volumes s (least_due s) h
volumes_step s (Step.Call connection moment c) h = runs_call volumes_closed c connection (at_moment moment s) h

pub has_volumes : (s : State) → Volumes s → HasVolumes s
has_volumes s h = record { stand = h.0; uses = h.1 }

-- ---- tickets

abbrev pub Tickets : State → Type 0
Tickets s = TicketsOf s.containers s.tickets s.next_ticket

settled : (s : State) (died : List Died) → Tickets s → Tickets (settle_tickets died s)
settled s died h = tickets_of (settle_tickets died s) (settle-tickets s died (has_tickets s h))

due_tickets : (s : State) (o : Option DueAction) → Tickets s → Tickets (unwrap_or (step_of o s) (still s)).state
due_tickets s None h = h
due_tickets s (Some d) h =
    let e : Effect = due_effect d (at_moment d.moment s) in
    settled e.state e.died (runs_due tickets_closed d (at_moment d.moment s) h)

pub tickets_step : (s : State) (x : Step) → Tickets s → Tickets (after_step s x)
tickets_step s Step.Due h = due_tickets s (least_due s) h
tickets_step s (Step.Call connection moment c) h =
    let e : Effect = (outcome_of c connection (at_moment moment s)).effect in
    settled e.state e.died (runs_call tickets_closed c connection (at_moment moment s) h)
