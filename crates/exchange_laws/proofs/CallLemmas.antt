-- What a turn with a request's call needs, and what it can't be answered.
use Rattle.std.proofs.Common.{◌≡◌, ◌⊎◌, inl, inr, ℕ, List, ◌++◌, refl, sym, ◌∙◌, ap, subst, Bool, true, false, ◌&&◌, Some}
use Rattle.std.specs.Prelude.{IsFalse}
use Rattle.std.proofs.lemmas.Bool.{false≢true}
use Rattle.engine_ports.specs.Clock.{ClockView}
use Rattle.engine_text.specs.declared.call.Call.{Call}
use Rattle.engine_text.specs.declared.call.Call.TheVariants as call
use Rattle.engine_text.specs.declared.reply.Reply.{Reply}
use Rattle.engine_text.specs.declared.step.Step.{Step}
use Rattle.engine_text.specs.Soundness.{IsSound}
use Rattle.machine_model.specs.State.{State}
use Rattle.machine_model.specs.Statuses.{ends_ticket, is_feed}
use Rattle.machine_model.specs.History.{Charter, state_from, moment_used, is_due, acts_by, has_steps, is_drop}
use Rattle.machine_model.proofs.ReplyLemmas.{replies_from}
use Rattle.journal_lines.specs.Room.{HasRoom}
use Rattle.http_edge.specs.Message.{Request}
use Rattle.api_routes.specs.Class.{class_of}
use Rattle.api_routes.specs.declared.class.Class.TheVariants.{Ask}
use Rattle.session_model.specs.declared.turned.Turned.{Turned}
use Rattle.session_model.specs.declared.turned.Turned.TheVariants as T
use Rattle.session_model.specs.Exchange.{call_of}
use Rattle.session_model.specs.Pass.{PassView}
use Rattle.session_model.specs.Turning.{MayAsk, Turn, HasBegun, GivesNoTicket, IsNotReady, found}
use Rattle.session_model.proofs.HistoryLemmas.{dues_done}
use Rattle.session_model.proofs.TurnLemmas.{makes_call}
use Rattle.daemon_core.specs.Whole.{IsAnswer, gives_stream}
use Rattle.daemon_core.proofs.CallLemmas.{have_replies, whole_answers, ready_at_once, room_steps}
use Rattle.attach_hub.proofs.WaitLemmas.{begun_by}
use Rattle.exchange_laws.specs.Turns.{TurnComes}

-- ---- what it needs

-- a call that ends no ticket needs none
pub built_may : (ch : Charter) (k : ℕ) (h : List Step) (c : Call) → IsFalse (ends_ticket c) → IsSound c → MayAsk ch k h (Some c)
built_may ch k h (call.Take ticket) kind sound = absurd (false≢true (sym kind))
built_may ch k h (call.Drop ticket) kind sound = absurd (false≢true (sym kind))
built_may ch k h c kind sound = (sound, tt)

pub no_drop : (c : Call) → IsFalse (ends_ticket c) → IsFalse (is_drop c)
no_drop (call.Drop ticket) kind = absurd (false≢true (sym kind))
no_drop c kind = refl

-- what a class asks
pub asks_for : (r : Request) (c : Call) → class_of r ≡ Ask c → call_of (class_of r) ≡ Some c
asks_for r c class = ap call_of class

-- a ticket that it gave is the connection's
pub ticket_begun : (k handed n : ℕ) (c : Call) (p q : PassView) (v w : ClockView) → TurnComes k handed c (T.Begun n) p q v w
    → HasBegun q.charter k n q.seen
ticket_begun k handed n c p q v w f =
    subst (λ ch. HasBegun ch k n q.seen) (sym f.moves.stays.charter) (begun_by p.charter k n c p.seen q.seen f.came.0)

-- ---- what can't be

ready_due : (due steps : Bool) → due ≡ true → steps ≡ true → (due && steps) ≡ false → ⊥
ready_due due steps f g h = false≢true (sym h ∙ ap (λ x. x && steps) f ∙ g)

waits_not : (ch : Charter) (s : State) (u : ℕ) (c : Call) → IsFalse (is_feed c) → IsFalse (ends_ticket c) → HasRoom ch s c
    → acts_by s u ≡ false → IsNotReady s u c → ⊥
waits_not ch s u c feeds kind room acts (inl h) = false≢true (sym h ∙ ready_at_once c s feeds kind)
waits_not ch s u c feeds kind room acts (inr h) = ready_due (is_due s u) (has_steps s) h (room_steps ch s c kind room) acts

-- a call that neither feeds nor ends a ticket is always ready
pub never_waits : (k handed : ℕ) (c : Call) (p q : PassView) → IsFalse (is_feed c) → IsFalse (ends_ticket c)
    → Turn k handed (Some c) T.NotYet p q → ⊥
never_waits k handed c p q feeds kind turn =
    waits_not p.charter _ _ c feeds kind turn.says.1.1 (dues_done _ _ turn.turns.own turn.says.1.0) turn.says.1.2

pub never_other : (k handed : ℕ) (c : Call) (x : Turned) (p q : PassView) → IsFalse (is_feed c) → IsFalse (ends_ticket c)
    → Turn k handed (Some c) x p q → (x ≡ T.NotYet) ⊎ (x ≡ T.Nothing) → ⊥
never_other k handed c x p q feeds kind turn (inl is) =
    never_waits k handed c p q feeds kind (subst (λ y. Turn k handed (Some c) y p q) is turn)
never_other k handed c x p q feeds kind turn (inr is) =
    let t : Turn k handed (Some c) T.Nothing p q = subst (λ y. Turn k handed (Some c) y p q) is turn in t.says.1

-- ---- what it is answered

-- a call that gives no stream, and neither gives nor ends a ticket, is answered whole
pub reply_answers : (k handed : ℕ) (c : Call) (x : Reply) (p q : PassView) → IsFalse (is_feed c) → IsFalse (ends_ticket c)
    → IsFalse (gives_stream c) → Turn k handed (Some c) (T.Replied x) p q → IsAnswer x
reply_answers k handed c x p q feeds kind whole turn =
    let m = makes_call p.charter _ k handed c turn.turns.own x (no_drop c kind) turn.says.1 in
    let s : State = found k p q turn.turns in
    let have = replies_from s m.0 (have_replies p.charter (p.seen ++ turn.turns.others)) in
    subst IsAnswer (sym m.2.2)
    (whole_answers c feeds kind whole (state_from s m.0) have k (moment_used s handed) (subst GivesNoTicket m.2.2 turn.says.0))
