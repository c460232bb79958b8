-- Facts of answers: a full journal has no room, who fell behind lacks what is kept no more, and who was stopped hadn't come to the end.
use Rattle.std.proofs.Common.{◌≡◌, ℕ, ◌<◌, ◌≤◌, List, [], ◌∷◌, ◌++◌, length, refl, sym, ◌∙◌, subst, Option, Some, None, arith}
use Rattle.std.specs.Prelude.{IsSomeAnd, IsFalse, IsTrue}
use Rattle.engine_text.specs.declared.call.Call.{Call}
use Rattle.engine_text.specs.declared.filter.Filter.{Filter}
use Rattle.engine_text.specs.declared.reply.LogSpec.{LogSpec}
use Rattle.engine_text.specs.declared.reply.Reply.TheVariants.{LogStream, EventStream, JournalStream}
use Rattle.engine_text.specs.declared.step.Step.{Step}
use Rattle.machine_model.specs.Calls.Events.{first_kept}
use Rattle.machine_model.specs.LogStream.{first_kept_removal, is_kept, log_bytes, log_end, log_of, removal_of}
use Rattle.machine_model.specs.EventLines.{event_lines}
use Rattle.machine_model.specs.History.{Charter, state_after}
use Rattle.journal_lines.specs.Room.{HasRoom}
use Rattle.httparse.specs.Grammar.{EndsInTarget}
use Rattle.http_edge.specs.Message.{Request}
use Rattle.http_edge.specs.Refusal.{IsRefused}
use Rattle.http_edge.proofs.DecidedLemmas.{decided}
use Rattle.api_routes.specs.Class.{class_of}
use Rattle.api_routes.specs.declared.class.Class.{Class}
use Rattle.session_model.specs.declared.ending.Ending.{Ending}
use Rattle.session_model.specs.declared.ending.Ending.TheVariants as E
use Rattle.session_model.specs.declared.followed.Followed.TheVariants as F
use Rattle.session_model.specs.Completeness.{EndsWell, Ended, Cut, Refused, Last, Behind, Full, Short}
use Rattle.session_model.specs.Exchange.{AtSome, EndsSo, Flow, IsAnswered, IsAnsweredWhole, IsSentInChunks, AtOnce, InChunks, TakenOver, HeadIsLost, WaitIsStopped, FromItsBytes, ByItsCall, ByItsTicket, JournalIsFull, OutOfMemory, DroppedForMemory, OfStream, OfWait, OfBrokenWait, call_of}
use Rattle.session_model.specs.Moments.{ComesTo}
use Rattle.session_model.specs.Session.{EndsAt, Span}
use Rattle.session_model.proofs.MomentLemmas.{last_on}

-- ---- the full journal's row

-- the call for which the answer says that there is no room
abbrev pub refused_call : (ch : Charter) (k : ℕ) (r : Request) (behind : List ℕ) (a b : List Step) (w ms : List ℕ) → IsAnsweredWhole ch k r behind a b w ms → Option Call
refused_call ch k r behind a b w ms (JournalIsFull c m asks quiet none) = Some c
refused_call ch k r behind a b w ms x = None

-- there is none
abbrev pub LacksRoom : Charter → List Step → Option Call → Type 0
LacksRoom ch b None = Unit {0}
LacksRoom ch b (Some c) = HasRoom ch (state_after ch b) c → ⊥

pub full_without_room : (ch : Charter) (k : ℕ) (r : Request) (behind : List ℕ) (a b : List Step) (w ms : List ℕ) (x : IsAnsweredWhole ch k r behind a b w ms)
    → LacksRoom ch b (refused_call ch k r behind a b w ms x)
full_without_room ch k r behind a b w ms (JournalIsFull c m asks quiet none) = none
full_without_room ch k r behind a b w ms x = tt

-- ---- where the request's bytes decide, the clock isn't asked

abbrev IsSomething : {A : Type 0} → Option A → Type 0
IsSomething None = ⊥
IsSomething (Some x) = Unit {0}

asks_not : (r : Request) (c : Call) → call_of (class_of r) ≡ None → call_of (class_of r) ≡ Some c → ⊥
asks_not r c none some = subst IsSomething (sym some ∙ none) tt

class_asks : (r : Request) (c : Call) (x : Class) → class_of r ≡ x → call_of x ≡ Some c → call_of (class_of r) ≡ Some c
class_asks r c x is some = subst (λ y. call_of y ≡ Some c) (sym is) some

whole_unasked : (ch : Charter) (k : ℕ) (r : Request) (behind : List ℕ) (a b : List Step) (w ms : List ℕ) → call_of (class_of r) ≡ None
    → IsAnsweredWhole ch k r behind a b w ms → ms ≡ []
whole_unasked ch k r behind a b w ms none (FromItsBytes answer is quiet) = refl
whole_unasked ch k r behind a b w ms none (ByItsCall c status m body asks made) = absurd (asks_not r c none asks)
whole_unasked ch k r behind a b w ms none (ByItsTicket c status body ns is late waited) = absurd (asks_not r c none (class_asks r c _ is refl))
whole_unasked ch k r behind a b w ms none (JournalIsFull c m asks quiet full) = absurd (asks_not r c none asks)
whole_unasked ch k r behind a b w ms none (OutOfMemory ns quiet asked once) = asked none
whole_unasked ch k r behind a b w ms none (DroppedForMemory c ns is late given) = absurd (asks_not r c none (class_asks r c _ is refl))

chunks_asked : (ch : Charter) (k : ℕ) (r : Request) (behind : List ℕ) (a b : List Step) (f : _) (head body ms : List ℕ) → call_of (class_of r) ≡ None
    → IsSentInChunks ch k r behind a b f head body ms → ⊥
chunks_asked ch k r behind a b f head body ms none (OfStream c reply g mid m bytes ns is made quiet tells ends comes) = asks_not r c none (class_asks r c _ is refl)
chunks_asked ch k r behind a b f head body ms none (OfWait c bytes ns is early waited) = asks_not r c none (class_asks r c _ is refl)
chunks_asked ch k r behind a b f head body ms none (OfBrokenWait c g ns is early broke given) = asks_not r c none (class_asks r c _ is refl)

pub unasked : (ch : Charter) (k : ℕ) (r : Request) (behind : List ℕ) (a b : List Step) (flow : Flow) (w ms : List ℕ) → call_of (class_of r) ≡ None
    → IsAnswered ch k r behind a b flow w ms → ms ≡ []
unasked ch k r behind a b flow w ms none (AtOnce v ns row) = whole_unasked ch k r behind a b v ns none row
unasked ch k r behind a b flow w ms none (InChunks f head body chunks ns row cut) = absurd (chunks_asked ch k r behind a b f head body ns none row)
unasked ch k r behind a b flow w ms none (TakenOver c t spec f end mid m body ns is over made pumps tells ends) = absurd (asks_not r c none (class_asks r c _ is refl))
unasked ch k r behind a b flow w ms none (HeadIsLost c t reply m is made stream) = absurd (asks_not r c none (class_asks r c _ is refl))
unasked ch k r behind a b flow w ms none (WaitIsStopped c ns is late given) = absurd (asks_not r c none (class_asks r c _ is refl))

-- ---- a session that ends well

-- its last answer isn't that of a stop, nor was a write of it lost
abbrev pub IsCalmEnding : Ending → Type 0
IsCalmEnding E.Stopped = ⊥
IsCalmEnding E.WriteFault = ⊥
IsCalmEnding e = Unit {0}

pub ends_unstopped : (e : Ending) (tail : List ℕ) (o' : _) → EndsWell e tail o' → IsCalmEnding e
ends_unstopped e tail o' (Ended is none spent) = subst IsCalmEnding (sym is) tt
ends_unstopped e tail o' (Cut is cut spent) = subst IsCalmEnding (sym is) tt
ends_unstopped e tail o' (Refused status is refused) = subst IsCalmEnding (sym is) tt
ends_unstopped e tail o' (Last r behind is begins last) = subst IsCalmEnding (sym is) tt
ends_unstopped e tail o' (Behind next first is) = subst IsCalmEnding (sym is) tt
ends_unstopped e tail o' (Full is) = subst IsCalmEnding (sym is) tt
ends_unstopped e tail o' (Short is) = subst IsCalmEnding (sym is) tt

-- ---- a session that a failed read ends

-- it hides no refusal, but for a target that hasn't come to its end
pub failed_read_hides_none : (tail : List ℕ) (status : ℕ) (s : Span) → EndsAt E.ReadFault tail s → IsRefused tail status → EndsInTarget tail
failed_read_hides_none tail status s ends refused = decided tail status refused ends.0

-- ---- who fell behind

-- the next event is kept no more at some history
pub lapsed_event_is_gone : (ch : Charter) (from next first : ℕ) (until : Option ℕ) (filter : Filter) (body ms : List ℕ) (a b : List Step)
    → EndsSo ch (EventStream from until filter) (F.Lagged next first) body ms a b → AtSome a b (λ at. next < first_kept (state_after ch at))
lapsed_event_is_gone ch from next first until filter body ms a b h =
    (h.3.0, h.3.1, h.3.2, omega (arith, h.2, h.3.3))

-- so are the logs of the container that was removed
pub lapsed_log_is_gone : (ch : Charter) (spec : LogSpec) (next first : ℕ) (body ms : List ℕ) (a b : List Step)
    → EndsSo ch (LogStream spec) (F.Lagged next first) body ms a b → AtSome a b (λ at. next < first_kept_removal (state_after ch at))
lapsed_log_is_gone ch spec next first body ms a b (place, (now, from, to, (lost, behind, told))) =
    (now, from, to, omega (arith, lost.kept, lost.before))

-- ---- who was stopped

-- all that its connection had seen was told, of a log and of events
stopped_log_is_told : (ch : Charter) (spec : LogSpec) (body ms : List ℕ) (a b : List Step) → EndsSo ch (LogStream spec) F.Stopped body ms a b
    → IsTrue (is_kept (state_after ch b) spec.owner)
    → body ≡ log_bytes (state_after ch b) spec spec.first (length (log_of (state_after ch b) spec.owner))
stopped_log_is_told ch spec body ms a b h kept = h.0.0 kept

stopped_events_are_told : (ch : Charter) (from : ℕ) (until : Option ℕ) (filter : Filter) (body ms : List ℕ) (a b : List Step)
    → EndsSo ch (EventStream from until filter) F.Stopped body ms a b → body ≡ event_lines ch b from filter until
stopped_events_are_told ch from until filter body ms a b h = h.0

-- a log's stream whose end had come isn't stopped
pub stopped_log_goes_on : (ch : Charter) (spec : LogSpec) (end : ℕ) (body ms : List ℕ) (a b : List Step)
    → EndsSo ch (LogStream spec) F.Stopped body ms a b → log_end (state_after ch b) spec ≡ Some end
    → end ≤ length (log_of (state_after ch b) spec.owner) → ⊥
stopped_log_goes_on ch spec end body ms a b h is come = let behind = h.0.1 end is in omega (arith, behind, come)

-- nor one whose log is kept no more, by the two numbers
pub stopped_log_stands : (ch : Charter) (spec : LogSpec) (removal : ℕ) (body ms : List ℕ) (a b : List Step)
    → EndsSo ch (LogStream spec) F.Stopped body ms a b → IsFalse (is_kept (state_after ch b) spec.owner)
    → removal_of (state_after ch b) spec.owner ≡ Some removal → removal < first_kept_removal (state_after ch b) → ⊥
stopped_log_stands ch spec removal body ms a b h lost removed before =
    h.0.2 removal (first_kept_removal (state_after ch b)) (record { lost = lost; removed = removed; kept = refl; before = before })

-- nor are events once the clock has come to the moment up to which they are told
pub stopped_events_wait : (from u : ℕ) (filter : Filter) (ms : List ℕ) (m : ℕ) → ComesTo (EventStream from (Some u) filter) F.Stopped (ms ++ m ∷ [])
    → m < u
stopped_events_wait from u filter ms m h = subst (λ o. IsSomeAnd o (λ n. n < u)) (last_on None ms m) h

-- nor one of which the clock was asked no moment
pub stopped_events_were_asked : (ch : Charter) (from : ℕ) (until : Option ℕ) (filter : Filter) (body : List ℕ) (a b : List Step)
    → EndsSo ch (EventStream from until filter) F.Stopped body [] a b → ⊥
stopped_events_were_asked ch from until filter body a b h = h.1

pub stopped_log_was_asked : (ch : Charter) (spec : LogSpec) (body : List ℕ) (a b : List Step) → EndsSo ch (LogStream spec) F.Stopped body [] a b → ⊥
stopped_log_was_asked ch spec body a b h = h.1

-- and a journal never is
pub journal_never_stops : (ch : Charter) (count : ℕ) (body ms : List ℕ) (a b : List Step) → EndsSo ch (JournalStream count) F.Stopped body ms a b → ⊥
journal_never_stops ch count body ms a b h = h
