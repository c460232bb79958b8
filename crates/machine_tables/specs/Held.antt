-- own: what stands in memory, as what it means.
use Rattle.std.specs.Prelude.{ℕ, ◌==◌, List, Option, Some, None, map, if◌then◌else◌}
use Rattle.engine_text.specs.Id.{id_of}
use Rattle.engine_text.specs.declared.reply.Reply.{Reply}
use Rattle.engine_text.specs.declared.reply.Reply.TheVariants.{Answer}
use Rattle.engine_text.specs.declared.ticket.Asked.{Asked}
use Rattle.engine_text.specs.declared.ticket.Asked.TheVariants.{Stop, Restart, Remove, Wait}
use Rattle.engine_text.specs.declared.ticket.Ticket.{Ticket}
use Rattle.machine_model.specs.Effects.Destroy.{done, waited}
use Rattle.machine_model.specs.Outcome.{message_text}
use Rattle.machine_model.specs.Refusals.{removal_timed_out}
use Rattle.machine_tables.specs.declared.held.RemovalResult.{RemovalResult}
use Rattle.machine_tables.specs.declared.held.HeldTicket.{HeldTicket}
use Rattle.machine_tables.specs.declared.held.Ready.{Ready}

-- The reply that is ready for a ticket of the container with that number, ids being those of the seed.
abbrev pub reply_in : List ℕ → ℕ → Ready → Reply
reply_in seed n Ready.Done = done
reply_in seed n (Ready.Waited code) = waited code
reply_in seed n Ready.TimedOut = Answer 409 (message_text (removal_timed_out (id_of seed n)))

-- The reply, if it is ready.
abbrev pub replies_in : List ℕ → ℕ → Option Ready → Option Reply
replies_in seed n None = None
replies_in seed n (Some r) = Some (reply_in seed n r)

-- A ticket with its reply.
abbrev pub ticket_in : List ℕ → HeldTicket → Ticket
ticket_in seed t = record {
  number = t.number;
  connection = t.connection;
  container = t.container;
  asked = t.asked;
  reply = replies_in seed t.container t.ready;
}

-- Tickets with their replies.
abbrev pub tickets_in : List ℕ → List HeldTicket → List Ticket
tickets_in seed = map (ticket_in seed)

-- What a ticket is answered when its container goes, whose last code is this.
abbrev pub last_ready : Asked → ℕ → Ready
last_ready Stop code = Ready.Done
last_ready Restart code = Ready.Done
last_ready Remove code = Ready.Done
last_ready (Wait until) code = Ready.Waited code

-- What it is answered when the removal of its container times out.
abbrev pub late_ready : Asked → Option Ready
late_ready Stop = None
late_ready Restart = None
late_ready Remove = Some Ready.TimedOut
late_ready (Wait until) = None

-- What a ticket is answered by what befell its container.
abbrev pub ready_by : RemovalResult → Asked → Option Ready
ready_by (RemovalResult.Gone code) a = Some (last_ready a code)
ready_by RemovalResult.TimedOut a = late_ready a

-- What is ready stays.
abbrev pub ready_or : Option Ready → Option Ready → Option Ready
ready_or None r = r
ready_or (Some old) r = Some old

-- The ticket is answered, if it is of the container.
abbrev pub answered_by : RemovalResult → ℕ → HeldTicket → HeldTicket
answered_by removal n t = if t.container == n then record t { ready = ready_or t.ready (ready_by removal t.asked) } else t
