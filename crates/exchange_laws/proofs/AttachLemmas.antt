-- What a call for the connection is answered: a log's stream that can be followed from there on, or its refusal.
use Rattle.std.proofs.Common.{◌≡◌, ◌⊎◌, inl, inr, ℕ, [], ◌∷◌, refl, sym, ◌∙◌, ap, subst, Bool, false, Some, None}
use Rattle.std.specs.Prelude.{IsTrue, IsFalse}
use Rattle.std.proofs.lemmas.Bool.{false≢true}
use Rattle.engine_ports.specs.Clock.{ClockView}
use Rattle.engine_text.specs.declared.call.Call.{Call}
use Rattle.engine_text.specs.declared.call.Call.TheVariants as call
use Rattle.engine_text.specs.declared.reply.LogSpec.{LogSpec}
use Rattle.engine_text.specs.declared.reply.Reply.{Reply}
use Rattle.engine_text.specs.declared.reply.Reply.TheVariants as reply
use Rattle.engine_text.specs.declared.step.Step.{Step}
use Rattle.machine_model.specs.Consistency.{IsConsistent}
use Rattle.machine_model.specs.State.{State}
use Rattle.machine_model.specs.Statuses.{ends_ticket, gives_ticket, is_feed, is_reply_of}
use Rattle.machine_model.specs.History.{IsLegal, after_step, moment_used, reply_of, state_after, state_from}
use Rattle.machine_model.proofs.Laws.{consistency_law}
use Rattle.http_edge.specs.Message.{Request}
use Rattle.api_routes.specs.Class.{class_of}
use Rattle.api_routes.specs.RouteClass.{takeover}
use Rattle.api_routes.specs.declared.class.Class.TheVariants.{Stream}
use Rattle.session_model.specs.declared.turned.Turned.{Turned}
use Rattle.session_model.specs.declared.turned.Turned.TheVariants as T
use Rattle.session_model.specs.Exchange.{IsMadeAt, call_of}
use Rattle.attach_hub.specs.Following.{MayFollow}
use Rattle.session_model.specs.Pass.{PassView}
use Rattle.session_model.specs.Turning.{Turn, found}
use Rattle.session_model.proofs.HistoryLemmas.{run_append}
use Rattle.session_model.proofs.TurnLemmas.{makes_call, state_seen}
use Rattle.daemon_core.specs.Whole.{IsAnswer, IsPlain}
use Rattle.attach_hub.proofs.AttachLemmas.{attach_opens, exec_opens}
use Rattle.attach_hub.proofs.OpenLemmas.{Opens}
use Rattle.attach_hub.proofs.RunLemmas.{HasRuns, legal_runs}
use Rattle.exchange_laws.specs.Kinds.{IsAttaching, stream_of}
use Rattle.exchange_laws.specs.Turns.{TurnComes}
use Rattle.exchange_laws.proofs.CallLemmas.{never_other, no_drop}
use Rattle.exchange_laws.proofs.ReplyLemmas.{made_reply}

-- ---- the call

-- it ends no ticket
pub ends_none : (c : Call) → IsAttaching c → IsFalse (ends_ticket c)
ends_none (call.Attach target ask) attaching = refl
ends_none (call.ExecStart id false) attaching = refl
ends_none c attaching = absurd attaching

-- it gives none
gives_none : (c : Call) → IsAttaching c → IsFalse (gives_ticket c)
gives_none (call.Attach target ask) attaching = refl
gives_none (call.ExecStart id false) attaching = refl
gives_none c attaching = absurd attaching

-- and feeds none
feeds_none : (c : Call) → IsAttaching c → IsFalse (is_feed c)
feeds_none (call.Attach target ask) attaching = refl
feeds_none (call.ExecStart id false) attaching = refl
feeds_none c attaching = absurd attaching

pub asks_over : (r : Request) (c : Call) (upgrade : Bool) → class_of r ≡ Stream c (takeover upgrade) → call_of (class_of r) ≡ Some c
asks_over r c upgrade class = ap call_of class

-- ---- its reply

some_not : (spec : LogSpec) → Some spec ≡ None → ⊥
some_not spec h = cc

none_not : (spec : LogSpec) → None ≡ Some spec → ⊥
none_not spec h = cc

-- it gives a log's stream, or is answered whole
whole_reply : (c : Call) (x : Reply) → IsAttaching c → IsPlain x → IsTrue (is_reply_of c x) → stream_of x ≡ None → IsAnswer x
whole_reply c (reply.Answer status body) attaching plain is none = plain
whole_reply c (reply.Begun ticket) attaching plain is none = false≢true (sym (gives_none c attaching) ∙ is)
whole_reply c (reply.LogStream spec) attaching plain is none = some_not spec none
whole_reply (call.Attach target ask) (reply.EventStream first until filter) attaching plain is none = false≢true is
whole_reply (call.ExecStart id false) (reply.EventStream first until filter) attaching plain is none = false≢true is
whole_reply c (reply.EventStream first until filter) attaching plain is none = attaching
whole_reply (call.Attach target ask) (reply.JournalStream count) attaching plain is none = false≢true is
whole_reply (call.ExecStart id false) (reply.JournalStream count) attaching plain is none = false≢true is
whole_reply c (reply.JournalStream count) attaching plain is none = attaching
whole_reply c (reply.Fed taken) attaching plain is none = plain
whole_reply c reply.Dropped attaching plain is none = false≢true (sym (ends_none c attaching) ∙ is)

pub attach_answers : (k handed : ℕ) (c : Call) (x : Reply) (p q : PassView) → IsAttaching c → Turn k handed (Some c) (T.Replied x) p q
    → stream_of x ≡ None → IsAnswer x
attach_answers k handed c x p q attaching turn none =
    let f = made_reply k handed c x _ p q (ends_none c attaching) (feeds_none c attaching) turn turn.says.1 in
    whole_reply c x attaching f.0 f.1 none

-- it gives no ticket, and is always made at once
pub attach_never : (k handed : ℕ) (c : Call) (x : Turned) (p q : PassView) → IsAttaching c → Turn k handed (Some c) x p q
    → ((n : ℕ) × (x ≡ T.Begun n)) ⊎ ((x ≡ T.NotYet) ⊎ (x ≡ T.Nothing)) → ⊥
attach_never k handed c x p q attaching turn (inl (n, is)) =
    let t : Turn k handed (Some c) (T.Begun n) p q = subst (λ y. Turn k handed (Some c) y p q) is turn in
    false≢true (sym (gives_none c attaching) ∙ (made_reply k handed c (reply.Begun n) _ p q (ends_none c attaching) (feeds_none c attaching) t t.says).1)
attach_never k handed c x p q attaching turn (inr other) =
    never_other k handed c x p q (feeds_none c attaching) (ends_none c attaching) turn other

-- ---- the stream that it gave

its_stream : (x : Reply) (spec : LogSpec) → stream_of x ≡ Some spec → x ≡ reply.LogStream spec
its_stream (reply.Answer status body) spec is = absurd (none_not spec is)
its_stream (reply.Begun ticket) spec is = absurd (none_not spec is)
its_stream (reply.LogStream given) spec is = let same : given ≡ spec = cc in ap reply.LogStream same
its_stream (reply.EventStream first until filter) spec is = absurd (none_not spec is)
its_stream (reply.JournalStream count) spec is = absurd (none_not spec is)
its_stream (reply.Fed taken) spec is = absurd (none_not spec is)
its_stream reply.Dropped spec is = absurd (none_not spec is)

-- it can be followed from there on
opens_at : (c : Call) (k t : ℕ) (s : State) → IsAttaching c → HasRuns (after_step s (Step.Call k t c)) → IsConsistent (after_step s (Step.Call k t c))
    → Opens (reply_of s k t c) (after_step s (Step.Call k t c))
opens_at (call.Attach target ask) k t s attaching runs consistent = attach_opens target ask k t s runs
opens_at (call.ExecStart id false) k t s attaching runs consistent = exec_opens id false k t s consistent
opens_at c k t s attaching runs consistent = absurd attaching

-- where a turn with the call gave one, it can be followed from the history that the turn leaves
pub attach_follows : (k handed : ℕ) (c : Call) (x : Reply) (spec : LogSpec) (p q : PassView) → IsAttaching c → stream_of x ≡ Some spec
    → Turn k handed (Some c) (T.Replied x) p q → MayFollow (state_after q.charter q.seen) spec
attach_follows k handed c x spec p q attaching is turn =
    let s : State = found k p q turn.turns in
    let u : ℕ = moment_used s handed in
    let m = makes_call p.charter s k handed c turn.turns.own x (no_drop c (ends_none c attaching)) turn.says.1 in
    let at : State = state_from s m.0 in
    let gave : reply.LogStream spec ≡ reply_of at k u c = sym (its_stream x spec is) ∙ m.2.2 in
    let end : after_step at (Step.Call k u c) ≡ state_after p.charter q.seen =
    sym (run_append s m.0 (Step.Call k u c ∷ [])) ∙ ap (state_from s) (sym m.2.1) ∙ state_seen k p q turn.turns in
    let legal : IsLegal p.charter q.seen = subst (λ ch. IsLegal ch q.seen) turn.turns.stays.charter turn.turns.legal in
    let runs : HasRuns (after_step at (Step.Call k u c)) = subst HasRuns (sym end) (legal_runs p.charter q.seen legal) in
    let consistent : IsConsistent (after_step at (Step.Call k u c)) = subst IsConsistent (sym end) (consistency_law p.charter q.seen legal) in
    let opens : Opens (reply.LogStream spec) (state_after p.charter q.seen) =
    subst (Opens (reply.LogStream spec)) end
    (subst (λ y. Opens y (after_step at (Step.Call k u c))) (sym gave) (opens_at c k u at attaching runs consistent)) in
    subst (λ ch. Opens (reply.LogStream spec) (state_after ch q.seen)) (sym turn.turns.stays.charter) opens

-- and the call was made so
pub attach_made : (k handed : ℕ) (c : Call) (x : Reply) (spec : LogSpec) (p q : PassView) (v w : ClockView) → stream_of x ≡ Some spec
    → TurnComes k handed c (T.Replied x) p q v w → IsMadeAt p.charter k handed c p.seen q.seen (reply.LogStream spec)
attach_made k handed c x spec p q v w is f = subst (IsMadeAt p.charter k handed c p.seen q.seen) (its_stream x spec is) f.came.0
