-- The stream that a call for a log, for events or for the journal gives can be followed from the history that the call leaves.
use Rattle.std.proofs.Common.{◌≡◌, ◌≤◌, ◌-◌, ℕ, List, [], ◌∷◌, ◌++◌, ◌∙◌, ap, arith, Option, Some, None, length, length-append, length-drop, map}
use Rattle.std.specs.Prelude.{IsTrue, nat_le, not}
use Rattle.std.specs.List.{position_or_len}
use Rattle.std.proofs.lemmas.Bool.{false≢true}
use Rattle.std.proofs.lemmas.List.{length-map}
use Rattle.std.proofs.lemmas.List.Sums.{prefix_len-le-length}
use Rattle.engine_text.specs.declared.call.Call.TheVariants as call
use Rattle.engine_text.specs.declared.call.LogAsk.{LogAsk}
use Rattle.engine_text.specs.declared.event.Event.{Event}
use Rattle.engine_text.specs.declared.filter.FilterRow.{FilterRow}
use Rattle.engine_text.specs.declared.reply.Reply.{Reply}
use Rattle.engine_text.specs.declared.reply.Reply.TheVariants as reply
use Rattle.engine_text.specs.declared.step.Step.{Step}
use Rattle.machine_model.specs.State.{State}
use Rattle.machine_model.specs.Calls.Events.{first_event}
use Rattle.machine_model.specs.Step.{at_moment}
use Rattle.machine_model.specs.History.{Charter, events_of, opening_state, reply_of, state_after}
use Rattle.journal_lines.specs.Entries.{history_entries}
use Rattle.machine_model.specs.Statuses.{is_reply_of}
use Rattle.machine_model.proofs.Histories.{events_append}
use Rattle.machine_model.proofs.Kept.PastLemmas.{events_counted}
use Rattle.http_edge.specs.declared.head.Form.{Form}
use Rattle.session_model.specs.Responses.{chunked_form}
use Rattle.daemon_core.proofs.CountLemmas.{counted_entries}
use Rattle.daemon_core.proofs.KeepLemmas.{entries_append}
use Rattle.attach_hub.specs.Following.{CanFollow}
use Rattle.attach_hub.proofs.OpenLemmas.{Opens}

-- ---- of a log

none_not : (form : Form) → None ≡ Some form → ⊥
none_not form h = cc

-- the stream of a log that its call gives can be followed
pub log_follows : (ch : Charter) (h : List Step) (target : List ℕ) (ask : LogAsk) (x : Reply) (form : Form) → chunked_form x ≡ Some form
    → IsTrue (is_reply_of (call.Logs target ask) x) → Opens x (state_after ch h) → CanFollow ch h x
log_follows ch h target ask (reply.Answer status body) form some is opens = none_not form some
log_follows ch h target ask (reply.Begun ticket) form some is opens = none_not form some
log_follows ch h target ask (reply.LogStream spec) form some is opens = opens
log_follows ch h target ask (reply.EventStream first until filter) form some is opens = absurd (false≢true is)
log_follows ch h target ask (reply.JournalStream count) form some is opens = absurd (false≢true is)
log_follows ch h target ask (reply.Fed taken) form some is opens = none_not form some
log_follows ch h target ask reply.Dropped form some is opens = none_not form some

-- ---- of events

-- no more moments are kept than events have come
few_kept : (ch : Charter) (h : List Step) → length (state_after ch h).event_moments ≤ (state_after ch h).event_count
few_kept ch h =
    let all : List Event = events_of ch h in
    let moments : List ℕ = map (λ (e : Event). e.moment) all in
    let counted = events_counted ch h in
    let kept : length (state_after ch h).event_moments ≡ length moments - (length moments - 65536) =
    ap length counted.0 ∙ length-drop (length moments - 65536) moments in
    let as_many : length moments ≡ length all = length-map all (λ (e : Event). e.moment) in
    let count = counted.1 in
    omega (arith, kept, as_many, count)

-- the first is one that has come, or the next one
first_most : (since : Option ℕ) (s : State) → length s.event_moments ≤ s.event_count → first_event since s ≤ s.event_count
first_most None s few = omega arith
first_most (Some since) s few =
    let at : position_or_len (nat_le since) s.event_moments ≤ length s.event_moments =
    prefix_len-le-length (λ x. not (nat_le since x)) s.event_moments in
    omega (arith, few, at)

-- the stream of events that a call gives can be followed
pub events_follow : (ch : Charter) (h : List Step) (k t : ℕ) (since until : Option ℕ) (filter : List FilterRow)
    → CanFollow ch (h ++ Step.Call k t (call.Events since until filter) ∷ []) (reply_of (state_after ch h) k t (call.Events since until filter))
events_follow ch h k t since until filter =
    let s : State = state_after ch h in
    let x : Step = Step.Call k t (call.Events since until filter) in
    let z : State = at_moment t s in
    let first : first_event since z ≤ z.event_count = first_most since z (few_kept ch h) in
    let count : s.event_count ≡ length (events_of ch h) = (events_counted ch h).1 in
    let sum = ap length (events_append (opening_state ch) h (x ∷ [])) ∙ length-append (events_of ch h) _ in
    omega (arith, first, count, sum)

-- ---- of the journal

-- that of the entries before a call has all of them
pub journal_follows : (ch : Charter) (h : List Step) (k t : ℕ)
    → CanFollow ch (h ++ Step.Call k t call.JournalRead ∷ []) (reply_of (state_after ch h) k t call.JournalRead)
journal_follows ch h k t =
    let x : Step = Step.Call k t call.JournalRead in
    let count : (state_after ch h).call_count ≡ length (history_entries ch h) = counted_entries ch h in
    let more = entries_append ch h (x ∷ []) in
    let sum = ap length more.1 ∙ length-append (history_entries ch h) more.0 in
    omega (arith, count, sum)
