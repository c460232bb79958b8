-- A ticket that is held behind due steps was held before: a due step gives none.
use Rattle.std.proofs.Common.{◌≡◌, ℕ, zero, suc, ◌==◌, Bool, true, false, List, [], ◌∷◌, IsTrue, Option, Some, None, find, map, if◌then◌else◌, refl, ap, sym, subst, arith}
use Rattle.std.proofs.lemmas.Bool.{false≢true}
use Rattle.std.proofs.lemmas.Bool.Decides.{nat_tests}
use Rattle.std.specs.Prelude.{unwrap_or}
use Rattle.std.specs.Option.{option_map_or, unwrap_or}
use Rattle.container_table.specs.Lists.{remove_first}
use Rattle.proc_kernel.specs.Tables.{process_of, effect_of}
use Rattle.machine_model.specs.State.{State}
use Rattle.machine_model.specs.Chain.{Effect, Died, still}
use Rattle.machine_model.specs.Due.{least_due, due_effect, timed_out}
use Rattle.machine_model.specs.Effects.Destroy.{answer, last_reply, last_answer}
use Rattle.machine_model.specs.Effects.Meet.{stepped}
use Rattle.machine_model.specs.Effects.Settle.{settled, settle_tickets}
use Rattle.machine_model.specs.History.{after_step}
use Rattle.machine_model.specs.Step.{at_moment, step_of}
use Rattle.machine_model.proofs.Costs.CostLemmas.{Cost, none, IsPriced, write_part}
use Rattle.machine_model.proofs.Costs.EffectLemmas.{costs_due}
use Rattle.machine_model.proofs.Costs.ExecEndLemmas.{level_end, level_ends}
use Rattle.machine_model.proofs.StandingLemmas.{Held}
use Rattle.journal_lines.specs.Due.{behind_dues}
use Rattle.engine_text.specs.declared.container.Container.{Container}
use Rattle.engine_text.specs.declared.owner.Owner.{Owner}
use Rattle.engine_text.specs.declared.owner.Owner.TheVariants.{Container as OfContainer, Exec as OfExec}
use Rattle.engine_text.specs.declared.reply.Reply.{Reply}
use Rattle.engine_text.specs.declared.script.Effect.{Effect as ProcessEffect}
use Rattle.engine_text.specs.declared.script.Effect.TheVariants.{Lives, Wrote, Ended}
use Rattle.engine_text.specs.declared.step.DueAction.{DueAction}
use Rattle.engine_text.specs.declared.step.Step.{Step}
use Rattle.engine_text.specs.declared.ticket.Asked.{Asked}
use Rattle.engine_text.specs.declared.ticket.Ticket.{Ticket}

-- ---- lists of tickets

-- the ticket that was found is connection k's
abbrev IsOf : ℕ → Option Ticket → Type 0
IsOf k o = IsTrue (option_map_or (λ (t : Ticket). t.connection == k) o false)

abbrev found : ℕ → List Ticket → Option Ticket
found n ts = find (λ (t : Ticket). t.number == n) ts

-- its number and its connection, which an answer leaves
abbrev key : Ticket → ℕ × ℕ
key t = (t.number, t.connection)

abbrev LeavesKey : (Ticket → Ticket) → Type 0
LeavesKey f = (t : Ticket) → key (f t) ≡ key t

at_head : (hit : Bool) (k : ℕ) (t u : Ticket) (rest more : Option Ticket) → t.connection ≡ u.connection → (IsOf k rest → IsOf k more)
    → IsOf k (if hit then Some t else rest) → IsOf k (if hit then Some u else more)
at_head true k t u rest more same goes h = subst (λ x. IsTrue (x == k)) same h
at_head false k t u rest more same goes h = goes h

unmapped : (k n : ℕ) (f : Ticket → Ticket) → LeavesKey f → (ts : List Ticket) → Held k n (map f ts) → Held k n ts
unmapped k n f leaves [] h = h
unmapped k n f leaves (t ∷ ts) h =
    let number : (f t).number ≡ t.number = ap (λ p. p.0) (leaves t) in
    at_head (t.number == n) k (f t) t (found n (map f ts)) (found n ts) (ap (λ p. p.1) (leaves t)) (unmapped k n f leaves ts)
    (subst (λ m. IsOf k (if m == n then Some (f t) else found n (map f ts))) number h)

missed : (hit : Bool) (k : ℕ) (t : Ticket) (rest : Option Ticket) → hit ≡ false → IsOf k rest → IsOf k (if hit then Some t else rest)
missed true k t rest isnt h = absurd (false≢true (sym isnt))
missed false k t rest isnt h = h

other_number : (x m n : ℕ) → (x == m) ≡ true → (m == n) ≡ false → (x == n) ≡ false
other_number x m n is other = grind (arith, nat_tests, is, other)

ended_by : (gone : Bool) (k m n : ℕ) (t : Ticket) (ts : List Ticket) → (t.number == m) ≡ gone → (m == n) ≡ false
    → (Held k n (remove_first (λ t. t.number == m) ts) → Held k n ts)
    → Held k n (if gone then ts else t ∷ remove_first (λ t. t.number == m) ts) → Held k n (t ∷ ts)
ended_by true k m n t ts is other more h = missed (t.number == n) k t (found n ts) (other_number t.number m n is other) h
ended_by false k m n t ts is other more h =
    at_head (t.number == n) k t t (found n (remove_first (λ t. t.number == m) ts)) (found n ts) refl more h

ended : (k m n : ℕ) (ts : List Ticket) → (m == n) ≡ false → Held k n (remove_first (λ t. t.number == m) ts) → Held k n ts
ended k m n [] other h = h
ended k m n (t ∷ ts) other h = ended_by (t.number == m) k m n t ts refl other (ended k m n ts other) h

-- ---- each effect

-- where it gives no ticket
abbrev WasHeld : ℕ → ℕ → Cost → State → Effect → Type 0
WasHeld k n x s e = x.asks ≡ 0 → Held k n e.state.tickets → Held k n s.tickets

written : (k n : ℕ) (x : Cost) (e : ProcessEffect) (owner : Owner) (s : State) → WasHeld k n x s (write_part e owner s)
written k n x Lives owner s asks h = h
written k n x (Ended code) owner s asks h = h
written k n x (Wrote stream payload) (OfContainer m) s asks h = h
written k n x (Wrote stream payload) (OfExec m) s asks h = h

last_key : (b : Bool) (c : Container) (t : Ticket) → key (if b then answer (last_reply t.asked c.life.code) t else t) ≡ key t
last_key true c t = refl
last_key false c t = refl

timed_key : (a : Asked) (c : Container) (t : Ticket) → key (timed_out a c t) ≡ key t
timed_key Asked.Remove c t = refl
timed_key Asked.Stop c t = refl
timed_key Asked.Restart c t = refl
timed_key (Asked.Wait until) c t = refl

either_key : (b : Bool) (c : Container) (t : Ticket) → key (if b then timed_out t.asked c t else t) ≡ key t
either_key true c t = timed_key t.asked c t
either_key false c t = refl

was_priced : (k n : ℕ) → IsPriced (Unit {0}) (λ m. (m == n) ≡ false) (WasHeld k n)
was_priced k n = record {
  on_still = λ s asks h. h;
  on_after = λ x y s a b first second asks h. first (omega (arith, asks)) (second (omega (arith, asks)) h);
  on_more = λ x y s e low was asks h. was (let most = (low tt).asks in omega (arith, most, asks)) h;
  on_told = λ s v at asks h. h;
  on_mounts = λ s a c there asks h. h;
  on_ended = λ s d asks h. h;
  on_renew = λ s m f quiet asks h. h;
  on_retry = λ s m asks h. h;
  on_step = λ s owner step is asks h.
      written k n none (effect_of (step s.clock) (process_of owner s.processes)) owner (stepped step owner s) asks h;
  on_move = λ s owner f fits asks h. h;
  on_feed = λ s owner bytes fits asks h. h;
  on_drop = λ s m asks h. h;
  on_end_exec = λ s code m p e asks h. subst (Held k n) (level_end code m s).tickets h;
  on_end_execs = λ s m asks h. subst (Held k n) (level_ends m s).tickets h;
  on_launch = λ s c program there short asks h. h;
  on_start_exec = λ s id x program stdin there fresh short asks h. h;
  on_timers = λ s timers keeps asks h. h;
  on_destroyed = λ s c there asks h. unmapped k n (last_answer c) (λ t. last_key (t.container == c.number) c t) s.tickets h;
  on_begun = λ s connection c asked there asks h. absurd (omega (arith, asks));
  on_time_out = λ s c asks h. unmapped k n _ (λ t. either_key (t.container == c.number) c t) s.tickets h;
  on_end_ticket = λ s m other asks h. ended k m n s.tickets other h;
  on_volumes = λ s name labels free asks h. h;
  on_gone_volume = λ s name unused asks h. h;
  on_made = λ s name spec few free stand asks h. h;
  on_made_exec = λ s c words stdin out err there asks h. h;
  on_renamed = λ s c name there free asks h. h;
}

-- ---- each due step

settled_key : (o : Option Reply) (t : Ticket) (died : List Died) (s : State) → key (settled o t died s) ≡ key t
settled_key (Some reply) t died s = refl
settled_key None t died s = refl

settled_held : (k n : ℕ) (died : List Died) (s : State) → Held k n (settle_tickets died s).tickets → Held k n s.tickets
settled_held k n died s h = unmapped k n (λ t. settled t.reply t died s) (λ t. settled_key t.reply t died s) s.tickets h

due_held : (k n : ℕ) (s : State) (o : Option DueAction) → Held k n (unwrap_or (step_of o s) (still s)).state.tickets → Held k n s.tickets
due_held k n s None h = h
due_held k n s (Some d) h =
    let m : State = at_moment d.moment s in
    let e : Effect = due_effect d m in
    (costs_due (was_priced k n) d).holds m refl (settled_held k n e.died e.state h)

-- so it is behind as many as there are
pub held_before : (s : State) (k ticket n : ℕ) → Held k ticket (behind_dues s n).tickets → Held k ticket s.tickets
held_before s k ticket zero h = h
held_before s k ticket (suc n) h = due_held k ticket s (least_due s) (held_before (after_step s Step.Due) k ticket n h)
