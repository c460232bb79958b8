-- What calls do: they stand at their moment, are answered as their operation is, and may be made behind what is due.
use Rattle.std.specs.Prelude.{is_some, unwrap_or, option_and_then}
use Rattle.std.specs.Option.{option_and_then, option_map_or}
use Rattle.std.proofs.Common.{◌≡◌, ◌⊎◌, inl, inr, ℕ, List, [], ◌∷◌, refl, subst, sym, ◌∙◌, Bool, true, false, ◌&&◌, ◌||◌, ◌==◌, not, Option, Some, None, find, arith}
use Rattle.std.specs.Prelude.{IsTrue, IsFalse, nat_le, nat_lt}
use Rattle.std.specs.List.{AllByRecursion, list_all}
use Rattle.std.proofs.lemmas.Bool.{false≢true}
use Rattle.std.proofs.lemmas.Bool.Decides.{nat_tests}
use Rattle.http.specs.StatusCode.{IsStatusCode}
use Rattle.engine_text.specs.declared.call.Call.{Call}
use Rattle.engine_text.specs.declared.call.Call.TheVariants as call
use Rattle.engine_text.specs.declared.reply.Reply.{Reply}
use Rattle.engine_text.specs.declared.reply.Reply.TheVariants as reply
use Rattle.engine_text.specs.declared.step.Step.{Step}
use Rattle.engine_text.specs.declared.ticket.Ticket.{Ticket}
use Rattle.machine_model.specs.State.{State}
use Rattle.machine_model.specs.Step.{at_moment}
use Rattle.machine_model.specs.Statuses.{statuses_of, ticket_statuses, is_among, is_reply_of, gives_log, gives_events, gives_journal, is_feed, ends_ticket}
use Rattle.engine_text.specs.Soundness.{IsSound}
use Rattle.machine_model.specs.Ready.{is_ready}
use Rattle.machine_model.specs.Tickets.{ticket_numbered}
use Rattle.journal_lines.specs.Room.{HasRoom}
use Rattle.machine_model.specs.History.{Charter, after_step, state_after, opening_state, reply_of, IsLawful, IsTimely, is_due, has_steps, is_drop}
use Rattle.machine_model.proofs.ClosureLemmas.{runs_call}
use Rattle.machine_model.proofs.MomentLemmas.{stamped_closed}
use Rattle.machine_model.proofs.ObeyLemmas.{HaveReplies, IsTicketReply, found_all}
use Rattle.machine_model.proofs.CallLemmas.{obeys}
use Rattle.machine_model.proofs.ReplyLemmas.{replies_from}
use Rattle.session_model.specs.Turning.{GivesNoTicket, IsNotReady}
use Rattle.daemon_core.specs.Whole.{IsAnswer, IsPlain, gives_stream}
use Rattle.daemon_core.specs.Storing.{HoldsTicket, IsClear, is_open}

-- ---- any call

-- a call stands at its moment
pub call_at : (c : Call) (k : ℕ) (s : State) (t : ℕ) → (after_step s (Step.Call k t c)).clock ≡ t
call_at c k s t = (runs_call stamped_closed c k (at_moment t s)).1

-- the replies that tickets have, of a state to which steps lead
pub have_replies : (ch : Charter) (h : List Step) → HaveReplies (state_after ch h)
have_replies ch h = replies_from (opening_state ch) h tt

-- ---- whole answers

-- whether it is a code
abbrev is_code : ℕ → Bool
is_code status = nat_le 100 status && nat_lt status 1000

code_by : (status : ℕ) → is_code status ≡ true → IsStatusCode status
code_by status h = (grind (arith, nat_tests, h), grind (arith, nat_tests, h))

and_left : (x y : Bool) → IsTrue (x && y) → IsTrue x
and_left true y h = refl
and_left false y h = absurd (false≢true h)

and_right : (x y : Bool) → IsTrue (x && y) → IsTrue y
and_right true y h = h
and_right false y h = absurd (false≢true h)

code_or : (s status : ℕ) (same : Bool) (known : List ℕ) → (s == status) ≡ same → IsTrue (is_code s)
    → IsTrue (same || is_among known status) → (IsTrue (is_among known status) → IsStatusCode status) → IsStatusCode status
code_or s status true known e code h rest =
    let same : s ≡ status = grind (arith, nat_tests, e) in
    code_by status (subst (λ n. IsTrue (is_code n)) same code)
code_or s status false known e code h rest = rest h

-- a status among codes is one
is_one : (known : List ℕ) (status : ℕ) → list_all is_code known ≡ true → IsTrue (is_among known status) → IsStatusCode status
is_one [] status codes h = absurd (false≢true h)
is_one (s ∷ known) status codes h =
    code_or s status (s == status) known refl (and_left _ (list_all is_code known) codes) h
    (is_one known status (and_right (is_code s) _ codes))

-- each operation's statuses are
are_codes : (c : Call) → list_all is_code (statuses_of c) ≡ true
are_codes (call.Take ticket) = refl
are_codes c = refl

plain_reply : (c : Call) (r : Reply) → IsFalse (is_feed c) → IsTrue (is_reply_of c r) → IsPlain r
plain_reply c (reply.Answer status body) feeds h = is_one (statuses_of c) status (are_codes c) h
plain_reply c (reply.Begun ticket) feeds h = tt
plain_reply c (reply.LogStream spec) feeds h = tt
plain_reply c (reply.EventStream first until filter) feeds h = tt
plain_reply c (reply.JournalStream count) feeds h = tt
plain_reply c (reply.Fed taken) feeds h = false≢true (sym feeds ∙ h)
plain_reply c reply.Dropped feeds h = tt

-- a call that is no feed isn't answered as one
pub plain_answers : (c : Call) → IsFalse (is_feed c) → (s : State) → HaveReplies s → (k t : ℕ) → IsPlain (reply_of s k t c)
plain_answers c feeds s have k t = plain_reply c (reply_of s k t c) feeds ((obeys c k (at_moment t s)).reply have)

-- of what one of several gives, each gives none where none does
or_left : (x y : Bool) → IsFalse (x || y) → IsFalse x
or_left false y h = refl
or_left true y h = absurd (false≢true (sym h))

or_right : (x y : Bool) → IsFalse (x || y) → IsFalse y
or_right false y h = h
or_right true y h = absurd (false≢true (sym h))

no_log : (c : Call) → IsFalse (gives_stream c) → IsFalse (gives_log c)
no_log c none = or_left (gives_log c) (gives_events c) (or_left (gives_log c || gives_events c) (gives_journal c) none)

no_events : (c : Call) → IsFalse (gives_stream c) → IsFalse (gives_events c)
no_events c none = or_right (gives_log c) (gives_events c) (or_left (gives_log c || gives_events c) (gives_journal c) none)

no_journal : (c : Call) → IsFalse (gives_stream c) → IsFalse (gives_journal c)
no_journal c none = or_right (gives_log c || gives_events c) (gives_journal c) none

-- and where it gives no stream, and neither gives nor ends a ticket, it is answered whole
whole_reply : (c : Call) (r : Reply) → IsPlain r → GivesNoTicket r → IsFalse (ends_ticket c) → IsFalse (gives_stream c)
    → IsTrue (is_reply_of c r) → IsAnswer r
whole_reply c (reply.Answer status body) plain gives none stream h = plain
whole_reply c (reply.Begun ticket) plain gives none stream h = gives
whole_reply c (reply.LogStream spec) plain gives none stream h = false≢true (sym (no_log c stream) ∙ h)
whole_reply c (reply.EventStream first until filter) plain gives none stream h = false≢true (sym (no_events c stream) ∙ h)
whole_reply c (reply.JournalStream count) plain gives none stream h = false≢true (sym (no_journal c stream) ∙ h)
whole_reply c (reply.Fed taken) plain gives none stream h = plain
whole_reply c reply.Dropped plain gives none stream h = false≢true (sym none ∙ h)

pub whole_answers : (c : Call) → IsFalse (is_feed c) → IsFalse (ends_ticket c) → IsFalse (gives_stream c) → (s : State) → HaveReplies s
    → (k t : ℕ) → GivesNoTicket (reply_of s k t c) → IsAnswer (reply_of s k t c)
whole_answers c feeds none stream s have k t gives =
    whole_reply c (reply_of s k t c) (plain_answers c feeds s have k t) gives none stream ((obeys c k (at_moment t s)).reply have)

-- a take that is ready is answered whole
given_whole : (o : Option Reply) → IsTrue (is_some o) → IsTicketReply o → IsAnswer (unwrap_or o reply.Dropped)
given_whole None given is = absurd (false≢true given)
given_whole (Some (reply.Answer status body)) given is = is_one ticket_statuses status refl is
given_whole (Some (reply.Begun ticket)) given is = absurd is
given_whole (Some (reply.LogStream spec)) given is = absurd is
given_whole (Some (reply.EventStream first until filter)) given is = absurd is
given_whole (Some (reply.JournalStream count)) given is = absurd is
given_whole (Some (reply.Fed fed)) given is = absurd is
given_whole (Some reply.Dropped) given is = absurd is

take_by : (n : ℕ) (ts : List Ticket) (o : Option Ticket) → find (λ t. t.number == n) ts ≡ o → IsTrue (option_map_or (λ (t : Ticket). is_some t.reply) o false)
    → AllByRecursion (λ t. IsTicketReply t.reply) ts → IsAnswer (unwrap_or (option_and_then (λ (t : Ticket). t.reply) o) reply.Dropped)
take_by n ts None e ready all = absurd (false≢true ready)
take_by n ts (Some t) e ready all =
    given_whole t.reply ready (found_all (λ (x : Ticket). IsTicketReply x.reply) (λ x. x.number == n) t ts e all)

pub take_answers : (n : ℕ) (s : State) → HaveReplies s → IsTrue (is_ready s (call.Take n)) → (k t : ℕ) → IsAnswer (reply_of s k t (call.Take n))
take_answers n s have ready k t = take_by n s.tickets (ticket_numbered n s) refl ready have

-- ---- when it may be made

-- but for takes and feeds it is ready at once
pub ready_at_once : (c : Call) (s : State) → IsFalse (is_feed c) → IsFalse (ends_ticket c) → is_ready s c ≡ true
ready_at_once (call.Take ticket) s feeds none = absurd (false≢true (sym none))
ready_at_once (call.Feed owner run bytes) s feeds none = absurd (false≢true (sym feeds))
ready_at_once (call.FeedEnd owner run) s feeds none = absurd (false≢true (sym feeds))
ready_at_once c s feeds none = refl

-- where there is room for it a step may be made
pub room_steps : (ch : Charter) (s : State) (c : Call) → IsFalse (ends_ticket c) → HasRoom ch s c → IsTrue (has_steps s)
room_steps ch s (call.Take ticket) none h = absurd (false≢true (sym none))
room_steps ch s (call.Drop ticket) none h = absurd (false≢true (sym none))
room_steps ch s c none h = and_right _ (has_steps s) h

not_due : (due steps : Bool) → IsTrue steps → (due && steps) ≡ false → due ≡ false
not_due true true steps idle = idle
not_due false steps more idle = refl
not_due true false more idle = absurd (false≢true more)

timely : (s : State) (t : ℕ) → IsTrue (has_steps s) → IsClear s t → IsTimely s t
timely s t steps turn = (turn.from, turn.until, not_due (is_due s t) (has_steps s) steps turn.idle)

-- nothing is due
not_true : (b : Bool) → IsTrue (not b) → b ≡ false
not_true false h = refl
not_true true h = absurd (false≢true h)

timely_take : (s : State) (t : ℕ) → IsTrue (not (is_due s t)) → IsClear s t → IsTimely s t
timely_take s t idle turn = (turn.from, turn.until, not_true (is_due s t) idle)

-- a call that is open may be made
pub lawful_open : (c : Call) (ch : Charter) (s : State) (k t : ℕ) → IsSound c → IsFalse (is_drop c) → HasRoom ch s c
    → HoldsTicket s k c → IsTrue (is_open s t c) → IsClear s t → IsLawful s (Step.Call k t c)
lawful_open (call.Take n) ch s k t sound kind room holds may turn = (
  sound,
  (
    timely_take s t (and_right (is_ready s (call.Take n)) (not (is_due s t)) may) turn,
    holds,
    and_left (is_ready s (call.Take n)) (not (is_due s t)) may,
  ),
)
lawful_open (call.Drop n) ch s k t sound kind room holds may turn = absurd (false≢true (sym kind))
lawful_open c ch s k t sound kind room holds may turn =
    let steps : IsTrue (has_steps s) = and_right _ (has_steps s) room in
    (sound, (timely s t steps turn, steps, may))

-- what isn't open isn't ready
waits_by : (ready due : Bool) → IsFalse (ready && not due) → IsFalse ready ⊎ IsTrue due
waits_by false due h = inl refl
waits_by true true h = inr refl
waits_by true false h = absurd (false≢true (sym h))

pub waits : (s : State) (t : ℕ) (c : Call) → IsFalse (is_open s t c) → IsNotReady s t c
waits s t (call.Take n) h = waits_by (is_ready s (call.Take n)) (is_due s t) h
waits s t c h = inl h
