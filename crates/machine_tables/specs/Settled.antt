-- own: tickets one after the other, by their places.
use Rattle.std.specs.Prelude.{ℕ, List, [], ◌∷◌, Option, Some, None}
use Rattle.machine_tables.specs.Places.{at_place}
use Rattle.engine_text.specs.declared.reply.Reply.{Reply}
use Rattle.engine_text.specs.declared.ticket.Ticket.{Ticket}
use Rattle.machine_model.specs.State.{State}
use Rattle.machine_model.specs.Chain.{Died}
use Rattle.machine_model.specs.Effects.Settle.{settled}
use Rattle.machine_tables.specs.Held.{replies_in}
use Rattle.machine_tables.specs.declared.death.Death.{Death}
use Rattle.machine_tables.specs.declared.held.Ready.{Ready}

-- The end of a main process, as the effects tell it.
abbrev pub died_in : Death → Died
died_in d = record { number = d.number; code = d.code }

-- The end of a main process in this step, if there was one.
abbrev pub deaths : Option Death → List Died
deaths None = []
deaths (Some d) = died_in d ∷ []

-- Its code, else that one.
abbrev pub code_else : Option Died → ℕ → ℕ
code_else None code = code
code_else (Some d) code = d.code

-- The reply that the ticket has at the end of the step.
abbrev pub settled_at : Option Ticket → List Died → State → Option Reply
settled_at None died s = None
settled_at (Some t) died s = (settled t.reply t died s).reply

-- What is ready for that ticket, as its reply.
abbrev pub replies_for : Option Ticket → State → Option Ready → Option Reply
replies_for None s r = None
replies_for (Some t) s r = replies_in s.seed t.container r

-- The ticket at a place settled.
abbrev pub settled_place : ℕ → List Died → State → State
settled_place i died s = record s { tickets = at_place (λ t. settled t.reply t died s) i s.tickets }
