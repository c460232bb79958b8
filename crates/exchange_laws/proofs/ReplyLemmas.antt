-- What a call for a log, for events or for the journal is answered: a stream that can be followed from there on, or its refusal.
use Rattle.std.proofs.Common.{◌≡◌, ◌⊎◌, inl, inr, ℕ, List, [], ◌∷◌, ◌++◌, refl, sym, ◌∙◌, ap, subst, Some, None}
use Rattle.std.specs.Prelude.{IsTrue, IsFalse}
use Rattle.std.proofs.lemmas.Bool.{false≢true}
use Rattle.engine_text.specs.declared.call.Call.{Call}
use Rattle.engine_text.specs.declared.call.Call.TheVariants as call
use Rattle.engine_text.specs.declared.reply.Reply.{Reply}
use Rattle.engine_text.specs.declared.reply.Reply.TheVariants as reply
use Rattle.engine_text.specs.declared.step.Step.{Step}
use Rattle.machine_model.specs.State.{State}
use Rattle.machine_model.specs.Step.{at_moment}
use Rattle.machine_model.specs.Statuses.{ends_ticket, gives_ticket, is_feed, is_reply_of}
use Rattle.machine_model.specs.History.{after_step, moment_used, opening_state, reply_of, state_after, state_from}
use Rattle.machine_model.proofs.CallLemmas.{obeys}
use Rattle.machine_model.proofs.ReplyLemmas.{replies_from}
use Rattle.http_edge.specs.Message.{Request}
use Rattle.http_edge.specs.declared.head.Form.{Form}
use Rattle.api_routes.specs.Class.{class_of}
use Rattle.api_routes.specs.declared.class.Class.TheVariants.{Stream}
use Rattle.api_routes.specs.declared.class.Takeover.{Takeover}
use Rattle.session_model.specs.declared.turned.Turned.{Turned}
use Rattle.session_model.specs.declared.turned.Turned.TheVariants as T
use Rattle.session_model.specs.Exchange.{call_of}
use Rattle.session_model.specs.Pass.{PassView}
use Rattle.session_model.specs.Responses.{chunked_form}
use Rattle.session_model.specs.Turning.{Turn, Turns, Makes, found}
use Rattle.session_model.proofs.HistoryLemmas.{run_append}
use Rattle.session_model.proofs.TurnLemmas.{makes_call, seen_made, state_seen}
use Rattle.daemon_core.specs.Whole.{IsAnswer, IsPlain}
use Rattle.daemon_core.proofs.CallLemmas.{have_replies, plain_answers}
use Rattle.attach_hub.specs.Following.{CanFollow}
use Rattle.attach_hub.proofs.OpenLemmas.{Opens, logs_open}
use Rattle.exchange_laws.specs.Kinds.{IsStreamed}
use Rattle.exchange_laws.proofs.OpenLemmas.{log_follows, events_follow, journal_follows}
use Rattle.exchange_laws.proofs.CallLemmas.{no_drop, never_other}

-- ---- the call

-- it ends no ticket
pub streams_end_none : (c : Call) → IsStreamed c → IsFalse (ends_ticket c)
streams_end_none (call.Logs target ask) streams = refl
streams_end_none (call.Events since until filter) streams = refl
streams_end_none call.JournalRead streams = refl
streams_end_none c streams = absurd streams

-- it gives none
gives_none : (c : Call) → IsStreamed c → IsFalse (gives_ticket c)
gives_none (call.Logs target ask) streams = refl
gives_none (call.Events since until filter) streams = refl
gives_none call.JournalRead streams = refl
gives_none c streams = absurd streams

-- and feeds none
pub feeds_none : (c : Call) → IsStreamed c → IsFalse (is_feed c)
feeds_none (call.Logs target ask) streams = refl
feeds_none (call.Events since until filter) streams = refl
feeds_none call.JournalRead streams = refl
feeds_none c streams = absurd streams

pub asks_stream : (r : Request) (c : Call) → class_of r ≡ Stream c Takeover.None → call_of (class_of r) ≡ Some c
asks_stream r c class = ap call_of class

-- ---- its reply

-- what a turn that made it was answered is a reply of it, and no other
pub made_reply : (k handed : ℕ) (c : Call) (x : Reply) (t : Turned) (p q : PassView) → IsFalse (ends_ticket c) → IsFalse (is_feed c)
    → (turn : Turn k handed (Some c) t p q) → Makes p.charter (found k p q turn.turns) k handed c turn.turns.own x
    → IsPlain x × IsTrue (is_reply_of c x)
made_reply k handed c x t p q kind feeds turn makes =
    let s : State = found k p q turn.turns in
    let u : ℕ = moment_used s handed in
    let m = makes_call p.charter s k handed c turn.turns.own x (no_drop c kind) makes in
    let at : State = state_from s m.0 in
    let have = replies_from s m.0 (have_replies p.charter (p.seen ++ turn.turns.others)) in (
      subst IsPlain (sym m.2.2) (plain_answers c feeds at have k u),
      subst (λ y. IsTrue (is_reply_of c y)) (sym m.2.2) ((obeys c k (at_moment u at)).reply have),
    )

some_not : (form : Form) → Some form ≡ None → ⊥
some_not form h = cc

-- it gives a stream, or is answered whole
whole_reply : (c : Call) (x : Reply) → IsStreamed c → IsPlain x → IsTrue (is_reply_of c x) → chunked_form x ≡ None → IsAnswer x
whole_reply c (reply.Answer status body) streams plain is none = plain
whole_reply c (reply.Begun ticket) streams plain is none = false≢true (sym (gives_none c streams) ∙ is)
whole_reply c (reply.LogStream spec) streams plain is none = some_not Form.ChunkedFrames none
whole_reply c (reply.EventStream first until filter) streams plain is none = some_not (Form.ChunkedJson (Some first)) none
whole_reply c (reply.JournalStream count) streams plain is none = some_not Form.ChunkedPlain none
whole_reply c (reply.Fed taken) streams plain is none = plain
whole_reply c reply.Dropped streams plain is none = false≢true (sym (streams_end_none c streams) ∙ is)

pub stream_answers : (k handed : ℕ) (c : Call) (x : Reply) (p q : PassView) → IsStreamed c
    → Turn k handed (Some c) (T.Replied x) p q → chunked_form x ≡ None → IsAnswer x
stream_answers k handed c x p q streams turn none =
    let f = made_reply k handed c x _ p q (streams_end_none c streams) (feeds_none c streams) turn turn.says.1 in whole_reply c x streams f.0 f.1 none

-- it gives no ticket, and is always made at once
pub stream_never : (k handed : ℕ) (c : Call) (x : Turned) (p q : PassView) → IsStreamed c
    → Turn k handed (Some c) x p q → ((n : ℕ) × (x ≡ T.Begun n)) ⊎ ((x ≡ T.NotYet) ⊎ (x ≡ T.Nothing)) → ⊥
stream_never k handed c x p q streams turn (inl (n, is)) =
    let t : Turn k handed (Some c) (T.Begun n) p q = subst (λ y. Turn k handed (Some c) y p q) is turn in
    false≢true (sym (gives_none c streams) ∙ (made_reply k handed c (reply.Begun n) _ p q (streams_end_none c streams) (feeds_none c streams) t t.says).1)
stream_never k handed c x p q streams turn (inr other) =
    never_other k handed c x p q (feeds_none c streams) (streams_end_none c streams) turn other

-- ---- the stream that it gave can be followed from there on

-- where the history stands behind due steps
at_dues : (k : ℕ) (p q : PassView) (turns : Turns k p q) (dues : List Step)
    → state_from (found k p q turns) dues ≡ state_after p.charter (p.seen ++ turns.others ++ dues)
at_dues k p q turns dues = sym (run_append (opening_state p.charter) (p.seen ++ turns.others) dues)

pub opened : (k handed : ℕ) (c : Call) (x : Reply) (form : Form) (p q : PassView) → IsStreamed c
    → chunked_form x ≡ Some form → Turn k handed (Some c) (T.Replied x) p q → CanFollow q.charter q.seen x
opened k handed (call.Logs target ask) x form p q streams some turn =
    let c : Call = call.Logs target ask in
    let s : State = found k p q turn.turns in
    let u : ℕ = moment_used s handed in
    let m = makes_call p.charter s k handed c turn.turns.own x refl turn.says.1 in
    let at : State = state_from s m.0 in
    let opens : Opens x (after_step at (Step.Call k u c)) =
    subst (λ y. Opens y (after_step at (Step.Call k u c))) (sym m.2.2) (logs_open target ask k u at) in
    let end : after_step at (Step.Call k u c) ≡ state_after p.charter q.seen =
    sym (run_append s m.0 (Step.Call k u c ∷ [])) ∙ ap (state_from s) (sym m.2.1) ∙ state_seen k p q turn.turns in
    subst (λ ch. CanFollow ch q.seen x) (sym turn.turns.stays.charter)
    (log_follows p.charter q.seen target ask x form some (made_reply k handed c x _ p q refl refl turn turn.says.1).1
    (subst (λ y. Opens x y) end opens))
opened k handed (call.Events since until filter) x form p q streams some turn =
    let c : Call = call.Events since until filter in
    let s : State = found k p q turn.turns in
    let u : ℕ = moment_used s handed in
    let m = makes_call p.charter s k handed c turn.turns.own x refl turn.says.1 in
    let before : List Step = p.seen ++ turn.turns.others ++ m.0 in
    let gave : x ≡ reply_of (state_after p.charter before) k u c = m.2.2 ∙ ap (λ y. reply_of y k u c) (at_dues k p q turn.turns m.0) in
    let follows : CanFollow p.charter (before ++ Step.Call k u c ∷ []) x =
    subst (CanFollow p.charter (before ++ Step.Call k u c ∷ [])) (sym gave) (events_follow p.charter before k u since until filter) in
    subst (λ ch. CanFollow ch q.seen x) (sym turn.turns.stays.charter)
    (subst (λ h. CanFollow p.charter h x) (sym (seen_made k u c p q turn.turns m.0 m.2.1)) follows)
opened k handed call.JournalRead x form p q streams some turn =
    let c : Call = call.JournalRead in
    let s : State = found k p q turn.turns in
    let u : ℕ = moment_used s handed in
    let m = makes_call p.charter s k handed c turn.turns.own x refl turn.says.1 in
    let before : List Step = p.seen ++ turn.turns.others ++ m.0 in
    let gave : x ≡ reply_of (state_after p.charter before) k u c = m.2.2 ∙ ap (λ y. reply_of y k u c) (at_dues k p q turn.turns m.0) in
    let follows : CanFollow p.charter (before ++ Step.Call k u c ∷ []) x =
    subst (CanFollow p.charter (before ++ Step.Call k u c ∷ [])) (sym gave) (journal_follows p.charter before k u) in
    subst (λ ch. CanFollow ch q.seen x) (sym turn.turns.stays.charter)
    (subst (λ h. CanFollow p.charter h x) (sym (seen_made k u c p q turn.turns m.0 m.2.1)) follows)
opened k handed c x form p q streams some turn = absurd streams
