-- A ticket stands with its connection until it is ended, and each step adds one ticket at most.
use Rattle.std.proofs.Common.{◌≡◌, ℕ, ◌+◌, ◌<◌, ◌≤◌, ◌==◌, Bool, true, false, List, [], ◌∷◌, ◌++◌, IsTrue, Option, Some, None, find, map, length, if◌then◌else◌, refl, ap, sym, subst, arith}
use Rattle.std.proofs.lemmas.Bool.{false≢true, eq-eqb}
use Rattle.std.proofs.lemmas.Bool.Decides.{nat_tests}
use Rattle.std.proofs.lemmas.List.{length-map}
use Rattle.std.specs.List.{AllByRecursion}
use Rattle.std.specs.Prelude.{ℤ, unwrap_or}
use Rattle.std.specs.Option.{option_map_or, unwrap_or}
use Rattle.container_table.specs.Lists.{remove_first}
use Rattle.container_table.specs.Reference.{container_by}
use Rattle.proc_kernel.specs.Tables.{process_of, effect_of}
use Rattle.machine_model.specs.State.{State, container_numbered, is_live}
use Rattle.machine_model.specs.Chain.{Effect, Died, still, and_then, tell_of}
use Rattle.machine_model.specs.Call.{outcome_of}
use Rattle.machine_model.specs.Due.{least_due, due_effect, timed_out}
use Rattle.machine_model.specs.Step.{at_moment, step_of}
use Rattle.machine_model.specs.Consistency.{IsConsistent}
use Rattle.machine_model.specs.Statuses.{is_reply_of, gives_ticket}
use Rattle.machine_model.specs.Tickets.{begun, begins}
use Rattle.machine_model.specs.Outcome.{Outcome, by_found, at_reference, done, refused}
use Rattle.machine_model.specs.History.{after_step, reply_of, IsLawful}
use Rattle.machine_model.specs.Ready.{is_ready}
use Rattle.machine_model.specs.Effects.Settle.{settled, settle_tickets}
use Rattle.machine_model.specs.Effects.Destroy.{answer, last_reply, last_answer, destroy}
use Rattle.machine_model.specs.Effects.Cancel.{cancel_restart}
use Rattle.machine_model.specs.EventTexts.{plain_event}
use Rattle.engine_text.specs.declared.event.Action.TheVariants as Action
use Rattle.machine_model.specs.Effects.Halt.{halt}
use Rattle.machine_model.specs.Calls.Start.{if_program}
use Rattle.proc_kernel.specs.Catalogue.{program_of}
use Rattle.engine_text.specs.Scripts.{Program}
use Rattle.machine_model.specs.Effects.Meet.{stepped}
use Rattle.machine_model.specs.Calls.Take.{end_ticket}
use Rattle.machine_model.specs.Calls.Stop as stop
use Rattle.machine_model.specs.Calls.Restart as restart
use Rattle.machine_model.specs.Calls.Remove as remove
use Rattle.machine_model.proofs.ObeyLemmas.{HaveReplies}
use Rattle.machine_model.proofs.CallLemmas.{obeys}
use Rattle.machine_model.proofs.Costs.CostLemmas.{Cost, none, IsPriced, Costs, write_part, costs_still}
use Rattle.machine_model.proofs.Costs.ExecEndLemmas.{level_end, level_ends}
use Rattle.machine_model.proofs.Costs.EffectLemmas.{due_cost, costs_due, costs_halt}
use Rattle.machine_model.proofs.Costs.StatusLemmas.{removal_cost}
use Rattle.machine_model.proofs.Costs.AnswerLemmas.{full}
use Rattle.machine_model.proofs.Costs.CallLemmas.{call_costs, EndsOnly, ends_any}
use Rattle.machine_model.proofs.Kept.CountLemmas.{Counted, counted_priced}
use Rattle.machine_model.proofs.Consistent.BackLemmas.{form_of}
use Rattle.machine_model.proofs.Consistent.FormLemmas.{one_less}
use Rattle.machine_model.proofs.Consistent.StepLemmas.{call_opens, same_ready}
use Rattle.engine_text.specs.declared.call.Call.{Call}
use Rattle.engine_text.specs.declared.container.Container.{Container}
use Rattle.engine_text.specs.declared.container.Found.{Found}
use Rattle.engine_text.specs.declared.owner.Owner.{Owner}
use Rattle.engine_text.specs.declared.owner.Owner.TheVariants.{Container as OfContainer, Exec as OfExec}
use Rattle.engine_text.specs.declared.reply.Reply.{Reply}
use Rattle.engine_text.specs.declared.script.Effect.{Effect as ProcessEffect}
use Rattle.engine_text.specs.declared.script.Effect.TheVariants.{Lives, Wrote, Ended}
use Rattle.engine_text.specs.declared.signal.Signal.{Signal}
use Rattle.engine_text.specs.declared.status.Status.{Status}
use Rattle.engine_text.specs.declared.step.DueAction.{DueAction}
use Rattle.engine_text.specs.declared.step.Step.{Step}
use Rattle.engine_text.specs.declared.ticket.Asked.{Asked}
use Rattle.engine_text.specs.declared.ticket.Ticket.{Ticket}
use Rattle.machine_model.specs.Refusals.{no_such_container}

-- ---- lists of tickets

-- connection k's ticket n is among them
abbrev pub Held : ℕ → ℕ → List Ticket → Type 0
Held k n ts = IsTrue (option_map_or (λ (t : Ticket). t.connection == k) (find (λ t. t.number == n) ts) false)

-- a change that leaves numbers and connections
record IsReplyMark (f : Ticket → Ticket) : Type 0 where
  pub number : (t : Ticket) → (f t).number ≡ t.number
  pub connection : (t : Ticket) → (f t).connection ≡ t.connection

at_head : (hit : Bool) (k : ℕ) (t u : Ticket) (rest more : Option Ticket) → u.connection ≡ t.connection
    → (IsTrue (option_map_or (λ (t : Ticket). t.connection == k) rest false) → IsTrue (option_map_or (λ (t : Ticket). t.connection == k) more false))
    → IsTrue (option_map_or (λ (t : Ticket). t.connection == k) (if hit then Some t else rest) false) → IsTrue (option_map_or (λ (t : Ticket). t.connection == k) (if hit then Some u else more) false)
at_head true k t u rest more same goes h = subst (λ x. IsTrue (x == k)) (sym same) h
at_head false k t u rest more same goes h = goes h

mapped : (k n : ℕ) (f : Ticket → Ticket) → IsReplyMark f → (ts : List Ticket) → Held k n ts → Held k n (map f ts)
mapped k n f mark [] h = h
mapped k n f mark (t ∷ ts) h =
    subst (λ m. IsTrue (option_map_or (λ (t : Ticket). t.connection == k) (if m == n then Some (f t) else find (λ t. t.number == n) (map f ts)) false)) (sym (mark.number t))
    (at_head (t.number == n) k t (f t) (find (λ t. t.number == n) ts) (find (λ t. t.number == n) (map f ts)) (mark.connection t) (mapped k n f mark ts) h)

followed : (k n : ℕ) (ts us : List Ticket) → Held k n ts → Held k n (ts ++ us)
followed k n [] us h = absurd (false≢true h)
followed k n (t ∷ ts) us h =
    at_head (t.number == n) k t t (find (λ t. t.number == n) ts) (find (λ t. t.number == n) (ts ++ us)) refl (followed k n ts us) h

missed : (hit : Bool) (k : ℕ) (t : Ticket) (rest : Option Ticket) → hit ≡ false → IsTrue (option_map_or (λ (t : Ticket). t.connection == k) rest false)
    → IsTrue (option_map_or (λ (t : Ticket). t.connection == k) (if hit then Some t else rest) false)
missed true k t rest isnt h = absurd (false≢true (sym isnt))
missed false k t rest isnt h = h

-- the last of them, whose number is above all others
last_held : (k n : ℕ) (u : Ticket) (ts : List Ticket) → u.number ≡ n → u.connection ≡ k → AllByRecursion (λ t. t.number < n) ts → Held k n (ts ++ u ∷ [])
last_held k n u [] number connection below =
    let it : (u.number == n) ≡ true = eq-eqb u.number n number in
    let its : (u.connection == k) ≡ true = eq-eqb u.connection k connection in
    subst (λ b. IsTrue (option_map_or (λ (t : Ticket). t.connection == k) (if b then Some u else None) false)) (sym it) its
last_held k n u (t ∷ ts) number connection below =
    missed (t.number == n) k t (find (λ t. t.number == n) (ts ++ u ∷ [])) (let low : t.number < n = below.0 in grind (arith, nat_tests, low))
    (last_held k n u ts number connection below.1)

hit_past : (hit : Bool) (k : ℕ) (t : Ticket) (rest : Option Ticket) → hit ≡ false
    → IsTrue (option_map_or (λ (t : Ticket). t.connection == k) (if hit then Some t else rest) false) → IsTrue (option_map_or (λ (t : Ticket). t.connection == k) rest false)
hit_past true k t rest isnt h = absurd (false≢true (sym isnt))
hit_past false k t rest isnt h = h

other_number : (x m n : ℕ) → (x == m) ≡ true → (m == n) ≡ false → (x == n) ≡ false
other_number x m n is other = grind (arith, nat_tests, is, other)

left_by : (gone : Bool) (k m n : ℕ) (t : Ticket) (ts : List Ticket) → (t.number == m) ≡ gone → (m == n) ≡ false
    → (Held k n ts → Held k n (remove_first (λ t. t.number == m) ts)) → Held k n (t ∷ ts)
    → Held k n (if gone then ts else t ∷ remove_first (λ t. t.number == m) ts)
left_by true k m n t ts is other more h =
    hit_past (t.number == n) k t (find (λ t. t.number == n) ts) (other_number t.number m n is other) h
left_by false k m n t ts is other more h =
    at_head (t.number == n) k t t (find (λ t. t.number == n) ts) (find (λ t. t.number == n) (remove_first (λ t. t.number == m) ts)) refl more h

left : (k m n : ℕ) (ts : List Ticket) → (m == n) ≡ false → Held k n ts → Held k n (remove_first (λ t. t.number == m) ts)
left k m n [] other h = h
left k m n (t ∷ ts) other h = left_by (t.number == m) k m n t ts refl other (left k m n ts other) h

-- two connections don't hold one ticket
one_by : (j k : ℕ) (o : Option Ticket) → IsTrue (option_map_or (λ (t : Ticket). t.connection == j) o false) → IsTrue (option_map_or (λ (t : Ticket). t.connection == k) o false) → j ≡ k
one_by j k None f g = absurd (false≢true f)
one_by j k (Some t) f g = grind (arith, nat_tests, f, g)

pub one_holder : (j k n : ℕ) (ts : List Ticket) → Held j n ts → Held k n ts → j ≡ k
one_holder j k n ts f g = one_by j k (find (λ t. t.number == n) ts) f g

-- ---- each effect

abbrev KeepsHeld : ℕ → ℕ → Cost → State → Effect → Type 0
KeepsHeld k n x s e = Held k n s.tickets → Held k n e.state.tickets

written : (k n : ℕ) (x : Cost) (e : ProcessEffect) (owner : Owner) (s : State) → KeepsHeld k n x s (write_part e owner s)
written k n x Lives owner s h = h
written k n x (Ended code) owner s h = h
written k n x (Wrote stream payload) (OfContainer m) s h = h
written k n x (Wrote stream payload) (OfExec m) s h = h

answered_mark : (reply : Reply) → IsReplyMark (answer reply)
answered_mark reply = record { number = λ t. refl; connection = λ t. refl }

last_number : (b : Bool) (c : Container) (t : Ticket) → (if b then answer (last_reply t.asked c.life.code) t else t).number ≡ t.number
last_number true c t = refl
last_number false c t = refl

last_connection : (b : Bool) (c : Container) (t : Ticket) → (if b then answer (last_reply t.asked c.life.code) t else t).connection ≡ t.connection
last_connection true c t = refl
last_connection false c t = refl

last_mark : (c : Container) → IsReplyMark (last_answer c)
last_mark c = record { number = λ t. last_number (t.container == c.number) c t; connection = λ t. last_connection (t.container == c.number) c t }

timed_number : (a : Asked) (c : Container) (t : Ticket) → (timed_out a c t).number ≡ t.number
timed_number Asked.Remove c t = refl
timed_number Asked.Stop c t = refl
timed_number Asked.Restart c t = refl
timed_number (Asked.Wait until) c t = refl

timed_connection : (a : Asked) (c : Container) (t : Ticket) → (timed_out a c t).connection ≡ t.connection
timed_connection Asked.Remove c t = refl
timed_connection Asked.Stop c t = refl
timed_connection Asked.Restart c t = refl
timed_connection (Asked.Wait until) c t = refl

either_number : (b : Bool) (c : Container) (t : Ticket) → (if b then timed_out t.asked c t else t).number ≡ t.number
either_number true c t = timed_number t.asked c t
either_number false c t = refl

either_connection : (b : Bool) (c : Container) (t : Ticket) → (if b then timed_out t.asked c t else t).connection ≡ t.connection
either_connection true c t = timed_connection t.asked c t
either_connection false c t = refl

timed_mark : (c : Container) → IsReplyMark (λ t. if t.container == c.number then timed_out t.asked c t else t)
timed_mark c = record { number = λ t. either_number (t.container == c.number) c t; connection = λ t. either_connection (t.container == c.number) c t }

-- where no ticket of that number may be ended
held_priced : (k n : ℕ) → IsPriced ⊥ (λ m. (m == n) ≡ false) (KeepsHeld k n)
held_priced k n = record {
  on_still = λ s h. h;
  on_after = λ x y s a b first second h. second (first h);
  on_more = λ x y s e low h. h;
  on_told = λ s v at h. h;
  on_mounts = λ s a c found h. h;
  on_ended = λ s d h. h;
  on_renew = λ s m f quiet h. h;
  on_retry = λ s m h. h;
  on_step = λ s owner step is h.
      written k n none (effect_of (step s.clock) (process_of owner s.processes)) owner (stepped step owner s) h;
  on_move = λ s owner f fits h. h;
  on_feed = λ s owner bytes fits h. h;
  on_drop = λ s m h. h;
  on_end_exec = λ s code m p e h. subst (Held k n) (sym (level_end code m s).tickets) h;
  on_end_execs = λ s m h. subst (Held k n) (sym (level_ends m s).tickets) h;
  on_launch = λ s c program found short h. h;
  on_start_exec = λ s id x program stdin found fresh short h. h;
  on_timers = λ s timers keeps h. h;
  on_destroyed = λ s c found h. mapped k n (last_answer c) (last_mark c) s.tickets h;
  on_begun = λ s connection c asked found h. followed k n s.tickets _ h;
  on_time_out = λ s c h. mapped k n _ (timed_mark c) s.tickets h;
  on_end_ticket = λ s m other h. left k m n s.tickets other h;
  on_volumes = λ s name labels none h. h;
  on_gone_volume = λ s name unused h. h;
  on_made = λ s name spec few free stand h. h;
  on_made_exec = λ s c words stdin out err found h. h;
  on_renamed = λ s c name found free h. h;
}

-- ---- each step

settled_number : (o : Option Reply) (t : Ticket) (died : List Died) (s : State) → (settled o t died s).number ≡ t.number
settled_number (Some reply) t died s = refl
settled_number None t died s = refl

settled_connection : (o : Option Reply) (t : Ticket) (died : List Died) (s : State) → (settled o t died s).connection ≡ t.connection
settled_connection (Some reply) t died s = refl
settled_connection None t died s = refl

settled_held : (k n : ℕ) (died : List Died) (s : State) → Held k n s.tickets → Held k n (settle_tickets died s).tickets
settled_held k n died s h =
    mapped k n (λ t. settled t.reply t died s)
    (record { number = λ t. settled_number t.reply t died s; connection = λ t. settled_connection t.reply t died s }) s.tickets h

due_held : (k n : ℕ) (s : State) (o : Option DueAction) → Held k n s.tickets → Held k n (unwrap_or (step_of o s) (still s)).state.tickets
due_held k n s None h = h
due_held k n s (Some d) h =
    let m : State = at_moment d.moment s in
    let e : Effect = due_effect d m in
    settled_held k n e.died e.state ((costs_due (held_priced k n) d).holds m h)

pub held_due : (k n : ℕ) (s : State) → Held k n s.tickets → Held k n (after_step s Step.Due).tickets
held_due k n s h = due_held k n s (least_due s) h

-- a call that ends no ticket of that number
pub held_call : (k n : ℕ) (s : State) (j t : ℕ) (c : Call) → EndsOnly (λ m. (m == n) ≡ false) c → Held k n s.tickets
    → Held k n (after_step s (Step.Call j t c)).tickets
held_call k n s j t c other h =
    let m : State = at_moment t s in
    let e : Effect = (outcome_of c j m).effect in
    settled_held k n e.died e.state (call_costs (KeepsHeld k n) (held_priced k n) c j m (λ p. absurd p) (λ p. absurd p) other h)

-- ---- a ticket that is given

abbrev Below : State → Type 0
Below s = AllByRecursion (λ t. t.number < s.next_ticket) s.tickets

-- where the reply gives a ticket, it is among them
abbrev Gives : ℕ → Outcome → Type 0
Gives k o = (n : ℕ) → o.reply ≡ Reply.Begun n → Held k n o.effect.state.tickets

ticket_in : Reply → ℕ
ticket_in (Reply.Begun n) = n
ticket_in r = 0

not_given : (status n : ℕ) (body : List ℕ) → Reply.Answer status body ≡ Reply.Begun n → ⊥
not_given status n body is = cc

gives_none : (k status : ℕ) (body : List ℕ) (e : State → Effect) (s : State) → Gives k (record { effect = e s; reply = Reply.Answer status body })
gives_none k status body e s n is = absurd (not_given status n body is)

gives_begun : (k : ℕ) (c : Container) (asked : Asked) (x : Cost) (e : State → Effect) (s : State) → Below s
    → Costs (KeepsHeld k s.next_ticket) x e → Gives k (begins k c asked e s)
unfolding ticket_in
gives_begun k c asked x e s below one n is =
    let same : s.next_ticket ≡ n = ap ticket_in is in
    subst (λ m. Held k m (begins k c asked e s).effect.state.tickets) same
    (one.holds (begun k c.number asked s) (last_held k s.next_ticket _ s.tickets refl refl below))

one_case : (k : ℕ) (s : State) (target : List ℕ) (f : Container → State → Outcome) (o : Option Container)
    → ((c : Container) → Gives k (f c s)) → Gives k (option_map_or f o (refused 404 (no_such_container target)) s)
one_case k s target f None one = gives_none k 404 _ still s
one_case k s target f (Some c) one = one c

found_case : (k : ℕ) (s : State) (found : Found) (target : List ℕ) (f : Container → State → Outcome)
    → ((c : Container) → Gives k (f c s)) → Gives k (by_found found target f s)
found_case k s (Found.One n) target f one = one_case k s target f (container_numbered n s) one
found_case k s Found.None target f one = gives_none k 404 _ still s
found_case k s Found.Many target f one = gives_none k 400 _ still s

at : (k : ℕ) (s : State) (target : List ℕ) (f : Container → State → Outcome) → ((c : Container) → Gives k (f c s)) → Gives k (at_reference target f s)
at k s target f one = found_case k s (container_by s.containers target) target f one

stop_gives : (k : ℕ) (seconds : Option ℤ) (signal : Option Signal) (u : Status) (c : Container) (s : State) → Below s
    → Gives k (stop.by_status u k seconds signal c s)
stop_gives k seconds signal Status.Running c s below =
    gives_begun k c Asked.Stop _ (halt stop.stopping seconds signal c) s below
    (costs_halt (held_priced k s.next_ticket) stop.stopping seconds signal c (λ t. record { mounts = λ l. refl; log = λ l. refl; starts = λ l. refl; restarts = λ l. omega arith; moments = λ l h. h }))
stop_gives k seconds signal Status.Paused c s below =
    gives_begun k c Asked.Stop _ (halt stop.stopping seconds signal c) s below
    (costs_halt (held_priced k s.next_ticket) stop.stopping seconds signal c (λ t. record { mounts = λ l. refl; log = λ l. refl; starts = λ l. refl; restarts = λ l. omega arith; moments = λ l h. h }))
stop_gives k seconds signal Status.Restarting c s below =
    gives_none k 204 [] (and_then (cancel_restart c.number) (tell_of (plain_event Action.Stop) c.number)) s
stop_gives k seconds signal Status.Created c s below = gives_none k 304 [] still s
stop_gives k seconds signal Status.Removing c s below = gives_none k 409 _ still s
stop_gives k seconds signal Status.Exited c s below = gives_none k 304 [] still s
stop_gives k seconds signal Status.Dead c s below = gives_none k 304 [] still s

ran_gives : (k : ℕ) (o : Option Program) (c : Container) (s : State) → Gives k (if_program o c.life.words (done (restart.launch_again c.number)) s)
ran_gives k None c s = gives_none k 400 _ still s
ran_gives k (Some program) c s = gives_none k 204 [] (restart.launch_again c.number) s

restart_gives : (k : ℕ) (seconds : Option ℤ) (signal : Option Signal) (u : Status) (c : Container) (s : State) → Below s
    → Gives k (restart.by_status u k seconds signal c s)
restart_gives k seconds signal Status.Running c s below =
    gives_begun k c Asked.Restart _ (halt restart.to_restart seconds signal c) s below
    (costs_halt (held_priced k s.next_ticket) restart.to_restart seconds signal c (λ t. record { mounts = λ l. refl; log = λ l. refl; starts = λ l. refl; restarts = λ l. omega arith; moments = λ l h. h }))
restart_gives k seconds signal Status.Paused c s below =
    gives_begun k c Asked.Restart _ (halt restart.to_restart seconds signal c) s below
    (costs_halt (held_priced k s.next_ticket) restart.to_restart seconds signal c (λ t. record { mounts = λ l. refl; log = λ l. refl; starts = λ l. refl; restarts = λ l. omega arith; moments = λ l h. h }))
restart_gives k seconds signal Status.Created c s below = ran_gives k (program_of c.life.words 1) c s
restart_gives k seconds signal Status.Exited c s below = ran_gives k (program_of c.life.words 1) c s
restart_gives k seconds signal Status.Restarting c s below = gives_none k 204 [] (and_then (cancel_restart c.number) (restart.launch_again c.number)) s
restart_gives k seconds signal Status.Removing c s below = gives_none k 409 _ still s
restart_gives k seconds signal Status.Dead c s below = gives_none k 409 _ still s

dead_gives : (k : ℕ) (b : Bool) (c : Container) (s : State) → Gives k (remove.remove_dead b c s)
dead_gives k true c s = gives_none k 409 _ still s
dead_gives k false c s = gives_none k 204 [] (destroy c.number) s

remove_gives : (k : ℕ) (u : Status) (c : Container) (s : State) → Below s → Gives k (remove.by_status u true k c s)
remove_gives k Status.Running c s below = gives_begun k c Asked.Remove _ (remove.kill_to_remove c.number) s below (removal_cost (held_priced k s.next_ticket) c.number)
remove_gives k Status.Paused c s below = gives_begun k c Asked.Remove _ (remove.kill_to_remove c.number) s below (removal_cost (held_priced k s.next_ticket) c.number)
remove_gives k Status.Created c s below = gives_none k 204 [] (destroy c.number) s
remove_gives k Status.Exited c s below = gives_none k 204 [] (destroy c.number) s
remove_gives k Status.Restarting c s below = gives_none k 204 [] (and_then (cancel_restart c.number) (destroy c.number)) s
remove_gives k Status.Removing c s below = gives_none k 409 _ still s
remove_gives k Status.Dead c s below = dead_gives k (is_live (OfContainer c.number) s) c s

-- no other call gives one
never_gives : (k : ℕ) (c : Call) (s : State) → HaveReplies s → (IsTrue (gives_ticket c) → ⊥) → Gives k (outcome_of c k s)
never_gives k c s have none n is = absurd (none (subst (λ r. IsTrue (is_reply_of c r)) is ((obeys c k s).reply have)))

call_gives : (k : ℕ) (c : Call) (s : State) → HaveReplies s → Below s → Gives k (outcome_of c k s)
call_gives k (Call.Stop target seconds signal) s have below =
    at k s target (λ c. stop.by_status c.life.status k seconds signal c) (λ c. stop_gives k seconds signal c.life.status c s below)
call_gives k (Call.Restart target seconds signal) s have below =
    at k s target (λ c. restart.by_status c.life.status k seconds signal c) (λ c. restart_gives k seconds signal c.life.status c s below)
call_gives k (Call.Remove target true) s have below =
    at k s target (λ c. remove.by_status c.life.status true k c) (λ c. remove_gives k c.life.status c s below)
call_gives k (Call.Remove target false) s have below = never_gives k (Call.Remove target false) s have false≢true
call_gives k (Call.Wait target until) s have below =
    at k s target (λ c. begins k c (Asked.Wait until) still) (λ c. gives_begun k c (Asked.Wait until) none still s below (costs_still (held_priced k s.next_ticket)))
call_gives k c s have below = never_gives k c s have false≢true

-- the ticket that a reply gives is the connection's
pub held_begun : (k n t : ℕ) (c : Call) (s : State) → HaveReplies s → AllByRecursion (λ x. x.number < s.next_ticket) s.tickets
    → reply_of s k t c ≡ Reply.Begun n → Held k n (after_step s (Step.Call k t c)).tickets
held_begun k n t c s have below is =
    let m : State = at_moment t s in
    let e : Effect = (outcome_of c k m).effect in
    settled_held k n e.died e.state (call_gives k c m have below n is)

-- ---- how many stand

settled_length : (s : State) (died : List Died) → length (settle_tickets died s).tickets ≡ length s.tickets
settled_length s died = length-map s.tickets (λ t. settled t.reply t died s)

-- at most one more behind a call
pub tickets_call : (s : State) (connection t : ℕ) (c : Call) → IsLawful s (Step.Call connection t c) → IsConsistent s
    → length (after_step s (Step.Call connection t c)).tickets ≤ length s.tickets + 1
tickets_call s connection t c lawful kept =
    let m : State = at_moment t s in
    let e : Effect = (outcome_of c connection m).effect in
    let ready : IsTrue (is_ready m c) = subst IsTrue (sym (same_ready s t c)) (call_opens s connection t c lawful.1 (form_of s kept)).ready in
    let counted : Counted full m e = call_costs Counted counted_priced c connection m (λ p. lawful.0) (λ p. ready) (ends_any c) in
    let more : length e.state.tickets ≤ length s.tickets + 1 = counted.tickets in
    let same = settled_length e.state e.died in omega (arith, more, same)

due_tickets : (s : State) (o : Option DueAction) → length (unwrap_or (step_of o s) (still s)).state.tickets ≤ length s.tickets
due_tickets s None = omega arith
due_tickets s (Some d) =
    let m : State = at_moment d.moment s in
    let e : Effect = due_effect d m in
    let counted : Counted due_cost m e = (costs_due counted_priced d).holds m in
    let more : length e.state.tickets ≤ length s.tickets + 0 = counted.tickets in
    let same = settled_length e.state e.died in omega (arith, more, same)

-- and no more behind a due step
pub tickets_due : (s : State) → length (after_step s Step.Due).tickets ≤ length s.tickets
tickets_due s = due_tickets s (least_due s)

-- one less behind a ticket's end
end_tickets : (s : State) (k n : ℕ) (died : List Died) → Held k n s.tickets
    → length (settle_tickets died (end_ticket n s)).tickets + 1 ≡ length s.tickets
end_tickets s k n died h =
    let less = one_less s k n h in
    let same = settled_length (end_ticket n s) died in omega (arith, less, same)

pub tickets_take : (s : State) (k t n : ℕ) → Held k n s.tickets → length (after_step s (Step.Call k t (Call.Take n))).tickets + 1 ≡ length s.tickets
tickets_take s k t n h = end_tickets (at_moment t s) k n [] h

pub tickets_drop : (s : State) (k t n : ℕ) → Held k n s.tickets → length (after_step s (Step.Call k t (Call.Drop n))).tickets + 1 ≡ length s.tickets
tickets_drop s k t n h = end_tickets (at_moment t s) k n [] h
