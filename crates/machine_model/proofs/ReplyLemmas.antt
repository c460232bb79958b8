-- Every reply of a legal history is one of its operation's.
use Rattle.std.proofs.Common.{ℕ, ◌==◌, Bool, true, false, List, [], ◌∷◌, IsTrue, Option, Some, None, map, if◌then◌else◌, refl}
use Rattle.std.specs.List.{AllByRecursion}
use Rattle.machine_model.specs.State.{State, container_numbered}
use Rattle.machine_model.specs.Chain.{Effect, Died, still}
use Rattle.machine_model.specs.Due.{least_due, due_effect, timed_out}
use Rattle.machine_model.specs.Effects.Destroy.{answer, answered, last_reply, last_answer}
use Rattle.machine_model.specs.Effects.Settle.{is_at_rest, has_died, reply_if, wait_reply, reply_of, settled, settle_tickets}
use Rattle.machine_model.specs.Step.{at_moment, step_of}
use Rattle.machine_model.specs.History.{Charter, opening_state, after_step, state_from, state_after}
use Rattle.machine_model.specs.Statuses.{is_reply_of}
use Rattle.machine_model.specs.Call.{outcome_of}
use Rattle.machine_model.proofs.ListLemmas.{all_append}
use Rattle.machine_model.proofs.ClosureLemmas.{IsClosed}
use Rattle.machine_model.proofs.ObeyLemmas.{IsTicketReply, HaveReplies}
use Rattle.machine_model.proofs.ChangeLemmas.{all_removed}
use Rattle.machine_model.proofs.CallLemmas.{obeys}
use Rattle.engine_text.specs.declared.call.Call.{Call}
use Rattle.engine_text.specs.declared.call.Until.{Until}
use Rattle.engine_text.specs.declared.container.Container.{Container}
use Rattle.engine_text.specs.declared.reply.Reply.{Reply}
use Rattle.engine_text.specs.declared.step.DueAction.{DueAction}
use Rattle.engine_text.specs.declared.step.Step.{Step}
use Rattle.engine_text.specs.declared.ticket.Asked.{Asked}
use Rattle.engine_text.specs.declared.ticket.Ticket.{Ticket}
use Rattle.machine_model.proofs.ClosureLemmas.{runs_call, runs_due}
use Rattle.std.specs.Prelude.{find, option_and_then, unwrap_or}

-- ---- tickets that are answered

last_is : (a : Asked) (code : ℕ) → IsTicketReply (Some (last_reply a code))
last_is Asked.Stop code = refl
last_is Asked.Restart code = refl
last_is Asked.Remove code = refl
last_is (Asked.Wait until) code = refl

answered_is : (o : Option Reply) (r : Reply) → IsTicketReply o → IsTicketReply (Some r) → IsTicketReply (answered o r)
answered_is None r old new = new
answered_is (Some x) r old new = old

last_by : (b : Bool) (c : Container) (t : Ticket) → IsTicketReply t.reply → IsTicketReply (if b then answer (last_reply t.asked c.life.code) t else t).reply
last_by true c t h = answered_is t.reply (last_reply t.asked c.life.code) h (last_is t.asked c.life.code)
last_by false c t h = h

timed : (a : Asked) (c : Container) (t : Ticket) → IsTicketReply t.reply → IsTicketReply (timed_out a c t).reply
timed Asked.Remove c t h = answered_is t.reply _ h refl
timed Asked.Stop c t h = h
timed Asked.Restart c t h = h
timed (Asked.Wait until) c t h = h

timed_by : (b : Bool) (c : Container) (t : Ticket) → IsTicketReply t.reply → IsTicketReply (if b then timed_out t.asked c t else t).reply
timed_by true c t h = timed t.asked c t h
timed_by false c t h = h

pub all_through : {A : Type 0} (P : A → Type 0) (f : A → A) → ((x : A) → P x → P (f x)) → (xs : List A) → AllByRecursion P xs → AllByRecursion P (map f xs)
all_through P f k [] h = tt
all_through P f k (x ∷ xs) h = (k x h.0, all_through P f k xs h.1)

if_is : (b : Bool) (r : Reply) → IsTicketReply (Some r) → IsTicketReply (reply_if b r)
if_is true r h = h
if_is false r h = tt

wait_is : (until : Until) (died : Option Died) (c : Container) (s : State) → IsTicketReply (wait_reply until died c s)
wait_is Until.NotRunning died c s = if_is (is_at_rest c s) _ refl
wait_is Until.NextExit died c s = if_is (has_died died) _ refl
wait_is Until.Removed died c s = tt

reply_is : (a : Asked) (died : Option Died) (c : Container) (s : State) → IsTicketReply (reply_of a died c s)
reply_is Asked.Stop died c s = if_is (has_died died) _ refl
reply_is Asked.Restart died c s = if_is (has_died died) _ refl
reply_is Asked.Remove died c s = tt
reply_is (Asked.Wait until) died c s = wait_is until died c s

by_is : (o : Option Container) (a : Asked) (died : List Died) (s : State) → IsTicketReply (option_and_then (λ (c : Container). reply_of a (find (λ d. d.number == c.number) died) c s) o)
by_is None a died s = tt
by_is (Some c) a died s = reply_is a _ c s

settled_is : (o : Option Reply) (t : Ticket) (died : List Died) (s : State) → IsTicketReply t.reply → IsTicketReply (settled o t died s).reply
settled_is (Some r) t died s h = h
settled_is None t died s h = by_is (container_numbered t.container s) t.asked died s

-- ---- every effect

abbrev pub KeepsReplies : State → Effect → Type 0
KeepsReplies s e = HaveReplies s → HaveReplies e.state

pub replies_closed : IsClosed KeepsReplies
replies_closed = record {
  on_still = λ s h. h;
  on_after = λ s a b first second h. second (first h);
  on_told = λ s v at h. h;
  on_mounts = λ s a c h. h;
  on_ended = λ s d h. h;
  on_renew = λ s n f mark h. h;
  on_log = λ s n stream payload h. h;
  on_output = λ s n stream payload h. h;
  on_process = λ s owner f h. h;
  on_drop = λ s owner h. h;
  on_spawn = λ s owner program stdin room h. h;
  on_timers = λ s timers h. h;
  on_exec = λ s n f mark h. h;
  on_destroyed = λ s c found h. all_through (λ t. IsTicketReply t.reply) (last_answer c) (λ t k. last_by (t.container == c.number) c t k) s.tickets h;
  on_begun = λ s connection c asked found h. all_append (λ t. IsTicketReply t.reply) s.tickets _ h (tt, tt);
  on_time_out = λ s c h.
      all_through (λ t. IsTicketReply t.reply) (λ t. if t.container == c.number then timed_out t.asked c t else t) (λ t k. timed_by (t.container == c.number) c t k) s.tickets h;
  on_end_ticket = λ s n h. all_removed (λ t. IsTicketReply t.reply) (λ t. t.number == n) s.tickets h;
  on_made_volume = λ s name labels none h. h;
  on_gone_volume = λ s name unused h. h;
  on_made = λ s name spec free stand h. h;
  on_made_exec = λ s c words stdin out err found h. h;
  on_renamed = λ s c name found free h. h;
}

-- ---- histories

settle : (s : State) (died : List Died) → HaveReplies s → HaveReplies (settle_tickets died s)
settle s died h = all_through (λ t. IsTicketReply t.reply) (λ t. settled t.reply t died s) (λ t k. settled_is t.reply t died s k) s.tickets h

due_keeps : (s : State) (o : Option DueAction) → HaveReplies s → HaveReplies (unwrap_or (step_of o s) (still s)).state
due_keeps s None h = h
due_keeps s (Some d) h =
    let e : Effect = due_effect d (at_moment d.moment s) in
    settle e.state e.died (runs_due replies_closed d (at_moment d.moment s) h)

pub step_keeps : (s : State) (x : Step) → HaveReplies s → HaveReplies (after_step s x)
step_keeps s Step.Due h = due_keeps s (least_due s) h
step_keeps s (Step.Call connection moment c) h =
    let e : Effect = (outcome_of c connection (at_moment moment s)).effect in
    settle e.state e.died (runs_call replies_closed c connection (at_moment moment s) h)

pub replies_from : (s : State) (h : List Step) → HaveReplies s → HaveReplies (state_from s h)
replies_from s [] k = k
replies_from s (x ∷ xs) k = replies_from (after_step s x) xs (step_keeps s x k)

-- in every state that a history leads to each call is answered as its operation may be
abbrev pub RepliesLaw : Type 0
RepliesLaw = (charter : Charter) (h : List Step) (connection moment : ℕ) (c : Call)
    → IsTrue (is_reply_of c (Rattle.machine_model.specs.History.reply_of (state_after charter h) connection moment c))

pub replies_law : RepliesLaw
replies_law charter h connection moment c =
    let s : State = state_after charter h in
    (obeys c connection (at_moment moment s)).reply (replies_from (opening_state charter) h tt)
