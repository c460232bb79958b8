-- A wait's ticket is answered with 200, whoever else makes steps meanwhile.
use Rattle.std.specs.Option.{option_and_then, option_map_or}
use Rattle.std.proofs.Common.{◌≡◌, ℕ, ◌<◌, ◌==◌, Bool, true, false, List, [], ◌∷◌, ◌++◌, Option, Some, None, unwrap_or, find, map, if◌then◌else◌, refl, ap, sym, ◌∙◌, subst, arith}
use Rattle.std.specs.List.{AllByRecursion}
use Rattle.std.proofs.lemmas.Bool.{false≢true}
use Rattle.std.proofs.lemmas.Bool.Decides.{nat_tests}
use Rattle.container_table.specs.Reference.{container_by}
use Rattle.engine_text.specs.declared.call.Call.TheVariants.{Wait, Take}
use Rattle.engine_text.specs.declared.call.Until.{Until}
use Rattle.engine_text.specs.declared.call.Until.TheVariants.{NotRunning, NextExit, Removed}
use Rattle.engine_text.specs.declared.container.Container.{Container}
use Rattle.engine_text.specs.declared.container.Found.{Found}
use Rattle.engine_text.specs.declared.reply.Reply.{Reply}
use Rattle.engine_text.specs.declared.reply.Reply.TheVariants as reply
use Rattle.engine_text.specs.declared.step.DueAction.{DueAction}
use Rattle.engine_text.specs.declared.step.Step.{Step}
use Rattle.engine_text.specs.declared.ticket.Asked.{Asked}
use Rattle.engine_text.specs.declared.ticket.Asked.TheVariants as asked
use Rattle.engine_text.specs.declared.ticket.Ticket.{Ticket}
use Rattle.machine_model.specs.State.{State, container_numbered}
use Rattle.machine_model.specs.Chain.{Effect, Died, still}
use Rattle.machine_model.specs.Call.{outcome_of}
use Rattle.machine_model.specs.Due.{least_due, due_effect, timed_out}
use Rattle.machine_model.specs.Effects.Destroy.{answer, answered, last_reply, last_answer}
use Rattle.machine_model.specs.Effects.Settle.{is_at_rest, has_died, reply_if, wait_reply, reply_of as settles, settled, settle_tickets}
use Rattle.machine_model.specs.Outcome.{Outcome, by_found, refused}
use Rattle.machine_model.specs.Step.{at_moment, step_of}
use Rattle.machine_model.specs.Tickets.{begins}
use Rattle.machine_model.specs.History.{Charter, IsLegal, after_step, opening_state, state_from, state_after, reply_of}
use Rattle.machine_model.proofs.ChangeLemmas.{all_removed}
use Rattle.machine_model.proofs.ClosureLemmas.{IsClosed, runs_call, runs_due}
use Rattle.machine_model.proofs.Histories.{legal_front}
use Rattle.machine_model.proofs.Laws.{consistency_law}
use Rattle.machine_model.proofs.ListLemmas.{all_append, all_weaken}
use Rattle.session_model.specs.Exchange.{IsMade}
use Rattle.session_model.proofs.HistoryLemmas.{run_append}
use Rattle.machine_model.specs.Refusals.{no_such_container}

-- ---- tickets of waits

-- a wait's reply, if it is there
abbrev IsReply : Option Reply → Type 0
IsReply None = Unit {0}
IsReply (Some (reply.Answer status body)) = status ≡ 200
IsReply (Some given) = ⊥

abbrev IsWait : Asked → Type 0
IsWait (asked.Wait until) = Unit {0}
IsWait a = ⊥

abbrev IsWaiting : Ticket → Type 0
IsWaiting t = IsWait t.asked × IsReply t.reply

abbrev OfNumber : ℕ → Ticket → Type 0
OfNumber n t = (t.number == n) ≡ true → IsWaiting t

-- each ticket of that number is a wait's, and no more will have the number
abbrev StandsFor : ℕ → State → Type 0
StandsFor n s = (n < s.next_ticket) × AllByRecursion (OfNumber n) s.tickets

-- a change that leaves numbers, and keeps a wait's ticket one
record IsMark (f : Ticket → Ticket) : Type 0 where
  pub number : (t : Ticket) → (f t).number ≡ t.number
  pub waits : (t : Ticket) → IsWaiting t → IsWaiting (f t)

through : (n : ℕ) (f : Ticket → Ticket) → IsMark f → (ts : List Ticket) → AllByRecursion (OfNumber n) ts → AllByRecursion (OfNumber n) (map f ts)
through n f mark [] h = tt
through n f mark (t ∷ ts) h =
    (λ is. mark.waits t (h.0 (subst (λ m. (m == n) ≡ true) (mark.number t) is)), through n f mark ts h.1)

-- ---- replies

answered_is : (o : Option Reply) (r : Reply) → IsReply o → IsReply (Some r) → IsReply (answered o r)
answered_is None r old new = new
answered_is (Some x) r old new = old

last_is : (a : Asked) (code : ℕ) → IsWait a → IsReply (Some (last_reply a code))
last_is asked.Stop code h = absurd h
last_is asked.Restart code h = absurd h
last_is asked.Remove code h = absurd h
last_is (asked.Wait until) code h = refl

last_number : (b : Bool) (c : Container) (t : Ticket) → (if b then answer (last_reply t.asked c.life.code) t else t).number ≡ t.number
last_number true c t = refl
last_number false c t = refl

last_waits : (b : Bool) (c : Container) (t : Ticket) → IsWaiting t → IsWaiting (if b then answer (last_reply t.asked c.life.code) t else t)
last_waits true c t h = (h.0, answered_is t.reply (last_reply t.asked c.life.code) h.1 (last_is t.asked c.life.code h.0))
last_waits false c t h = h

last_mark : (c : Container) → IsMark (last_answer c)
last_mark c = record { number = λ t. last_number (t.container == c.number) c t; waits = λ t. last_waits (t.container == c.number) c t }

timed_number : (a : Asked) (c : Container) (t : Ticket) → (timed_out a c t).number ≡ t.number
timed_number asked.Remove c t = refl
timed_number asked.Stop c t = refl
timed_number asked.Restart c t = refl
timed_number (asked.Wait until) c t = refl

timed_waits : (a : Asked) (c : Container) (t : Ticket) → IsWait a → IsWaiting t → IsWaiting (timed_out a c t)
timed_waits asked.Remove c t a h = absurd a
timed_waits asked.Stop c t a h = h
timed_waits asked.Restart c t a h = h
timed_waits (asked.Wait until) c t a h = h

either_number : (b : Bool) (c : Container) (t : Ticket) → (if b then timed_out t.asked c t else t).number ≡ t.number
either_number true c t = timed_number t.asked c t
either_number false c t = refl

either_waits : (b : Bool) (c : Container) (t : Ticket) → IsWaiting t → IsWaiting (if b then timed_out t.asked c t else t)
either_waits true c t h = timed_waits t.asked c t h.0 h
either_waits false c t h = h

timed_mark : (c : Container) → IsMark (λ t. if t.container == c.number then timed_out t.asked c t else t)
timed_mark c = record { number = λ t. either_number (t.container == c.number) c t; waits = λ t. either_waits (t.container == c.number) c t }

if_is : (b : Bool) (r : Reply) → IsReply (Some r) → IsReply (reply_if b r)
if_is true r h = h
if_is false r h = tt

wait_is : (until : Until) (died : Option Died) (c : Container) (s : State) → IsReply (wait_reply until died c s)
wait_is NotRunning died c s = if_is (is_at_rest c s) _ refl
wait_is NextExit died c s = if_is (has_died died) _ refl
wait_is Removed died c s = tt

reply_is : (a : Asked) (died : Option Died) (c : Container) (s : State) → IsWait a → IsReply (settles a died c s)
reply_is asked.Stop died c s h = absurd h
reply_is asked.Restart died c s h = absurd h
reply_is asked.Remove died c s h = absurd h
reply_is (asked.Wait until) died c s h = wait_is until died c s

by_is : (o : Option Container) (a : Asked) (died : List Died) (s : State) → IsWait a → IsReply (option_and_then (λ (c : Container). settles a (find (λ d. d.number == c.number) died) c s) o)
by_is None a died s h = tt
by_is (Some c) a died s h = reply_is a _ c s h

settled_number : (o : Option Reply) (t : Ticket) (died : List Died) (s : State) → (settled o t died s).number ≡ t.number
settled_number (Some r) t died s = refl
settled_number None t died s = refl

settled_waits : (o : Option Reply) (t : Ticket) (died : List Died) (s : State) → IsWaiting t → IsWaiting (settled o t died s)
settled_waits (Some r) t died s h = h
settled_waits None t died s h = (h.0, by_is (container_numbered t.container s) t.asked died s h.0)

settle : (n : ℕ) (s : State) (died : List Died) → StandsFor n s → StandsFor n (settle_tickets died s)
settle n s died h = (
  h.0,
  through n (λ t. settled t.reply t died s)
      (record { number = λ t. settled_number t.reply t died s; waits = λ t. settled_waits t.reply t died s }) s.tickets h.1,
)

-- ---- every step

above : (x n : ℕ) → n < x → (x == n) ≡ true → ⊥
above x n low is = let other : (x == n) ≡ false = grind (arith, nat_tests, low) in false≢true (sym other ∙ is)

below : (x n : ℕ) → x < n → (x == n) ≡ true → ⊥
below x n low is = let other : (x == n) ≡ false = grind (arith, nat_tests, low) in false≢true (sym other ∙ is)

abbrev Keeps : ℕ → State → Effect → Type 0
Keeps n s e = StandsFor n s → StandsFor n e.state

wait_closed : (n : ℕ) → IsClosed (Keeps n)
wait_closed n = record {
  on_still = λ s h. h;
  on_after = λ s a b first second h. second (first h);
  on_told = λ s v at h. h;
  on_mounts = λ s a c h. h;
  on_ended = λ s d h. h;
  on_renew = λ s m f mark h. h;
  on_log = λ s m stream payload h. h;
  on_output = λ s m stream payload h. h;
  on_process = λ s owner f h. h;
  on_drop = λ s owner h. h;
  on_spawn = λ s owner program stdin room h. h;
  on_timers = λ s timers h. h;
  on_exec = λ s m f mark h. h;
  on_destroyed = λ s c found h. (h.0, through n (last_answer c) (last_mark c) s.tickets h.1);
  on_begun = λ s connection c asked found h. (
    (let low = h.0 in omega (arith, low)),
    all_append (OfNumber n) s.tickets _ h.1 (λ is. absurd (above s.next_ticket n h.0 is), tt),
  );
  on_time_out = λ s c h. (h.0, through n (λ t. if t.container == c.number then timed_out t.asked c t else t) (timed_mark c) s.tickets h.1);
  on_end_ticket = λ s m h. (h.0, all_removed (OfNumber n) (λ t. t.number == m) s.tickets h.1);
  on_made_volume = λ s name labels none h. h;
  on_gone_volume = λ s name unused h. h;
  on_made = λ s name spec free stand h. h;
  on_made_exec = λ s c words stdin out err found h. h;
  on_renamed = λ s c name found free h. h;
}

due_keeps : (n : ℕ) (s : State) (o : Option DueAction) → StandsFor n s → StandsFor n (unwrap_or (step_of o s) (still s)).state
due_keeps n s None h = h
due_keeps n s (Some d) h =
    let e : Effect = due_effect d (at_moment d.moment s) in
    settle n e.state e.died (runs_due (wait_closed n) d (at_moment d.moment s) h)

step_keeps : (n : ℕ) (s : State) (x : Step) → StandsFor n s → StandsFor n (after_step s x)
step_keeps n s Step.Due h = due_keeps n s (least_due s) h
step_keeps n s (Step.Call connection moment c) h =
    let e : Effect = (outcome_of c connection (at_moment moment s)).effect in
    settle n e.state e.died (runs_call (wait_closed n) c connection (at_moment moment s) h)

steps_keep : (n : ℕ) (s : State) (h : List Step) → StandsFor n s → StandsFor n (state_from s h)
steps_keep n s [] k = k
steps_keep n s (x ∷ xs) k = steps_keep n (after_step s x) xs (step_keeps n s x k)

-- ---- a wait's begin

abbrev Gives : Outcome → Type 0
Gives o = (n : ℕ) → o.reply ≡ reply.Begun n → StandsFor n o.effect.state

ticket_in : Reply → ℕ
ticket_in (reply.Begun n) = n
ticket_in r = 0

not_given : (status n : ℕ) (body : List ℕ) → reply.Answer status body ≡ reply.Begun n → ⊥
not_given status n body is = cc

gives_none : (status : ℕ) (body : List ℕ) (s : State) → Gives (record { effect = still s; reply = reply.Answer status body })
gives_none status body s n is = absurd (not_given status n body is)

gives_begun : (k : ℕ) (c : Container) (until : Until) (s : State) → AllByRecursion (λ t. t.number < s.next_ticket) s.tickets
    → Gives (begins k c (asked.Wait until) still s)
unfolding ticket_in
gives_begun k c until s low n is =
    let same : s.next_ticket ≡ n = ap ticket_in is in
    subst (λ m. StandsFor m (begins k c (asked.Wait until) still s).effect.state) same (
      omega arith,
      all_append (OfNumber s.next_ticket) s.tickets _
          (all_weaken (λ t. t.number < s.next_ticket) (OfNumber s.next_ticket) (λ t less is. absurd (below t.number s.next_ticket less is)) s.tickets low)
          (λ is. (tt, tt), tt),
    )

one_case : (s : State) (target : List ℕ) (f : Container → State → Outcome) (o : Option Container)
    → ((c : Container) → Gives (f c s)) → Gives (option_map_or f o (refused 404 (no_such_container target)) s)
one_case s target f None one = gives_none 404 _ s
one_case s target f (Some c) one = one c

found_case : (s : State) (found : Found) (target : List ℕ) (f : Container → State → Outcome)
    → ((c : Container) → Gives (f c s)) → Gives (by_found found target f s)
found_case s (Found.One n) target f one = one_case s target f (container_numbered n s) one
found_case s Found.None target f one = gives_none 404 _ s
found_case s Found.Many target f one = gives_none 400 _ s

wait_gives : (k : ℕ) (target : List ℕ) (until : Until) (s : State) → AllByRecursion (λ t. t.number < s.next_ticket) s.tickets
    → Gives (outcome_of (Wait target until) k s)
wait_gives k target until s low =
    found_case s (container_by s.containers target) target (λ c. begins k c (asked.Wait until) still) (λ c. gives_begun k c until s low)

wait_begun : (k n t : ℕ) (target : List ℕ) (until : Until) (s : State) → AllByRecursion (λ x. x.number < s.next_ticket) s.tickets
    → reply_of s k t (Wait target until) ≡ reply.Begun n → StandsFor n (after_step s (Step.Call k t (Wait target until)))
wait_begun k n t target until s low is =
    let m : State = at_moment t s in
    let e : Effect = (outcome_of (Wait target until) k m).effect in
    settle n e.state e.died (wait_gives k target until m low n is)

-- ---- and its end

abbrev IsFine : Reply → Type 0
IsFine (reply.Answer status body) = status ≡ 200
IsFine r = Unit {0}

given_fine : (o : Option Reply) → IsReply o → IsFine (unwrap_or o reply.Dropped)
given_fine None h = tt
given_fine (Some (reply.Answer status body)) h = h
given_fine (Some (reply.Begun ticket)) h = absurd h
given_fine (Some (reply.LogStream spec)) h = absurd h
given_fine (Some (reply.EventStream first until filter)) h = absurd h
given_fine (Some (reply.JournalStream count)) h = absurd h
given_fine (Some (reply.Fed fed)) h = absurd h
given_fine (Some reply.Dropped) h = absurd h

by_hit : (b : Bool) (n : ℕ) (t : Ticket) (rest : Option Ticket) → (t.number == n) ≡ b → OfNumber n t → IsFine (unwrap_or (option_and_then (λ (t : Ticket). t.reply) rest) reply.Dropped)
    → IsFine (unwrap_or (option_and_then (λ (t : Ticket). t.reply) (if b then Some t else rest)) reply.Dropped)
by_hit true n t rest is one more = given_fine t.reply (one is).1
by_hit false n t rest is one more = more

found_fine : (n : ℕ) (ts : List Ticket) → AllByRecursion (OfNumber n) ts → IsFine (unwrap_or (option_and_then (λ (t : Ticket). t.reply) (find (λ t. t.number == n) ts)) reply.Dropped)
found_fine n [] h = tt
found_fine n (t ∷ ts) h = by_hit (t.number == n) n t (find (λ t. t.number == n) ts) refl h.0 (found_fine n ts h.1)

take_fine : (k n t status : ℕ) (body : List ℕ) (s : State) → StandsFor n s → reply.Answer status body ≡ reply_of s k t (Take n) → status ≡ 200
take_fine k n t status body s stands is = subst IsFine (sym is) (found_fine n s.tickets stands.1)

-- ---- in a history

-- what is taken of a wait's ticket has status 200
pub wait_status : (ch : Charter) (k n : ℕ) (target : List ℕ) (until : Until) (a b d : List Step) (status : ℕ) (body : List ℕ)
    → IsLegal ch b → IsMade ch k k (Wait target until) a b (reply.Begun n) → IsMade ch k k (Take n) b d (reply.Answer status body)
    → status ≡ 200
wait_status ch k n target until a b d status body legal (front, behind, t, none, none', at, room, is) (more, rest, t2, none2, none3, at2, room2, is2) =
    let s : State = state_after ch (a ++ front) in
    let x : Step = Step.Call k t (Wait target until) in
    let whole : IsLegal ch ((a ++ front) ++ x ∷ behind) = subst (IsLegal ch) at legal in
    let first : StandsFor n (after_step s x) =
    wait_begun k n t target until s (consistency_law ch (a ++ front) (legal_front ch (a ++ front) (x ∷ behind) whole)).tickets.below (sym is) in
    let begun : StandsFor n (state_after ch b) =
    subst (StandsFor n) (sym (ap (state_after ch) at ∙ run_append (opening_state ch) (a ++ front) (x ∷ behind)))
    (steps_keep n (after_step s x) behind first) in
    let last : StandsFor n (state_after ch (b ++ more)) =
    subst (StandsFor n) (sym (run_append (opening_state ch) b more)) (steps_keep n (state_after ch b) more begun) in
    take_fine k n t2 status body (state_after ch (b ++ more)) last is2
