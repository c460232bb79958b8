-- What a take and a drop obey.
use Rattle.std.specs.Option.{option_and_then}
use Rattle.std.proofs.Common.{◌≡◌, ℕ, ◌==◌, Option, Some, None, unwrap_or, refl, IsTrue}
use Rattle.machine_model.specs.State.{State}
use Rattle.machine_model.specs.Chain.{change}
use Rattle.machine_model.specs.Call.{outcome_of}
use Rattle.machine_model.specs.Statuses.{is_reply_of}
use Rattle.machine_model.specs.Tickets.{ticket_numbered}
use Rattle.machine_model.specs.Calls.Take.{end_ticket}
use Rattle.machine_model.proofs.Fold.TellLemmas.{tells_apart}
use Rattle.machine_model.proofs.ObeyLemmas.{HaveReplies, Obeys, obeys_apart, found_all, IsTicketReply}
use Rattle.engine_text.specs.declared.call.Call.{Call}
use Rattle.engine_text.specs.declared.reply.Reply.{Reply}
use Rattle.engine_text.specs.declared.ticket.Ticket.{Ticket}

given : (n : ℕ) (o : Option Reply) → IsTicketReply o → IsTrue (is_reply_of (Call.Take n) (unwrap_or o Reply.Dropped))
given n None h = refl
given n (Some (Reply.Answer status body)) h = h
given n (Some (Reply.Begun ticket)) h = absurd h
given n (Some (Reply.LogStream spec)) h = absurd h
given n (Some (Reply.EventStream first until filter)) h = absurd h
given n (Some (Reply.JournalStream count)) h = absurd h
given n (Some (Reply.Fed taken)) h = absurd h
given n (Some Reply.Dropped) h = absurd h

taken : (n : ℕ) (s : State) (o : Option Ticket) → ticket_numbered n s ≡ o → HaveReplies s → IsTrue (is_reply_of (Call.Take n) (unwrap_or (option_and_then (λ (t : Ticket). t.reply) o) Reply.Dropped))
taken n s None e h = refl
taken n s (Some t) e h = given n t.reply (found_all (λ (t : Ticket). IsTicketReply t.reply) (λ t. t.number == n) t s.tickets e h)

pub take_obeys : (n connection : ℕ) (s : State) → Obeys (Call.Take n) s (outcome_of (Call.Take n) connection s)
take_obeys n connection s =
    obeys_apart (Call.Take n) s (unwrap_or (option_and_then (λ (t : Ticket). t.reply) (ticket_numbered n s)) Reply.Dropped) (change (end_ticket n)) (taken n s (ticket_numbered n s) refl)
    (λ sound. tells_apart (end_ticket n) (λ s. refl) (λ s fit. fit))

pub drop_obeys : (n connection : ℕ) (s : State) → Obeys (Call.Drop n) s (outcome_of (Call.Drop n) connection s)
drop_obeys n connection s =
    obeys_apart (Call.Drop n) s Reply.Dropped (change (end_ticket n)) (λ h. refl) (λ sound. tells_apart (end_ticket n) (λ s. refl) (λ s fit. fit))
