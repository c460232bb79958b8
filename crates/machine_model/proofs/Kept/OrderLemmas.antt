-- Tickets stand in order of number, through every effect.
use Rattle.std.proofs.Common.{◌≡◌, ℕ, ◌+◌, ◌<◌, ◌==◌, Bool, true, false, List, [], ◌∷◌, ◌++◌, Option, Some, None, map, if◌then◌else◌, refl, arith}
use Rattle.std.specs.List.{AllByRecursion}
use Rattle.std.specs.Option.{unwrap_or}
use Rattle.container_table.specs.Lists.{remove_first}
use Rattle.engine_text.specs.declared.call.Call.{Call}
use Rattle.engine_text.specs.declared.reply.Reply.{Reply}
use Rattle.engine_text.specs.declared.step.DueAction.{DueAction}
use Rattle.engine_text.specs.declared.step.Step.{Step}
use Rattle.engine_text.specs.declared.ticket.Ticket.{Ticket}
use Rattle.machine_model.specs.State.{State}
use Rattle.machine_model.specs.Chain.{Died, Effect, still}
use Rattle.machine_model.specs.Call.{outcome_of}
use Rattle.machine_model.specs.Due.{due_effect, least_due, timed_out}
use Rattle.machine_model.specs.Effects.Destroy.{last_answer}
use Rattle.machine_model.specs.Effects.Settle.{settle_tickets, settled}
use Rattle.machine_model.specs.History.{Charter, after_step, opening_state, state_from}
use Rattle.machine_model.specs.Laws.{AreInOrder, TicketsLaw}
use Rattle.machine_model.specs.Step.{at_moment, step_of}
use Rattle.machine_model.proofs.ChangeLemmas.{all_removed}
use Rattle.machine_model.proofs.ClosureLemmas.{IsClosed, runs_call, runs_due}
use Rattle.machine_model.proofs.Kept.TicketLemmas.{IsTicketMark, all_through, either_number, last_number}
use Rattle.machine_model.proofs.ListLemmas.{all_append, all_weaken}

-- they are in order, and lie below the next
abbrev pub Order : List Ticket → ℕ → Type 0
Order ts next = AreInOrder ts × AllByRecursion (λ t. t.number < next) ts

abbrev pub KeepsOrder : State → Effect → Type 0
KeepsOrder s e = Order s.tickets s.next_ticket → Order e.state.tickets e.state.next_ticket

-- ---- lists of tickets

removed : (p : Ticket → Bool) (ts : List Ticket) → AreInOrder ts → AreInOrder (remove_first p ts)
removed p [] h = tt
removed p (t ∷ ts) h = by (p t) (removed p ts h.1)
  where
    by : (b : Bool) → AreInOrder (remove_first p ts) → AreInOrder (if b then ts else t ∷ remove_first p ts)
    by true others = h.1
    by false others = (all_removed (λ u. t.number < u.number) p ts h.0, others)

lower : (f : Ticket → Ticket) → IsTicketMark f → (t u : Ticket) → t.number < u.number → (f t).number < (f u).number
lower f mark t u low =
    let a : (f t).number ≡ t.number = mark.number t in
    let b : (f u).number ≡ u.number = mark.number u in
    omega (arith, low, a, b)

mapped : (f : Ticket → Ticket) → IsTicketMark f → (ts : List Ticket) → AreInOrder ts → AreInOrder (map f ts)
mapped f mark [] h = tt
mapped f mark (t ∷ ts) h = (
  all_through (λ u. t.number < u.number) (λ u. (f t).number < u.number) f (λ u low. lower f mark t u low) ts h.0,
  mapped f mark ts h.1,
)

below_mapped : (f : Ticket → Ticket) → IsTicketMark f → (next : ℕ) (ts : List Ticket) → AllByRecursion (λ t. t.number < next) ts
    → AllByRecursion (λ t. t.number < next) (map f ts)
below_mapped f mark next ts h =
    all_through (λ t. t.number < next) (λ t. t.number < next) f (λ t low. let a : (f t).number ≡ t.number = mark.number t in omega (arith, low, a)) ts h

through : (f : Ticket → Ticket) → IsTicketMark f → (ts : List Ticket) (next : ℕ) → Order ts next → Order (map f ts) next
through f mark ts next h = (mapped f mark ts h.0, below_mapped f mark next ts h.1)

more : (ts : List Ticket) (t : Ticket) → AreInOrder ts → AllByRecursion (λ u. u.number < t.number) ts → AreInOrder (ts ++ t ∷ [])
more [] t h below = (tt, tt)
more (u ∷ ts) t h below = (all_append (λ v. u.number < v.number) ts (t ∷ []) h.0 (below.0, tt), more ts t h.1 below.1)

begun_order : (ts : List Ticket) (next : ℕ) (t : Ticket) → t.number ≡ next → Order ts next → Order (ts ++ t ∷ []) (next + 1)
begun_order ts next t is h = (
  more ts t h.0 (all_weaken (λ u. u.number < next) (λ u. u.number < t.number) (λ u low. omega (arith, low, is)) ts h.1),
  all_append (λ u. u.number < next + 1) ts (t ∷ []) (all_weaken (λ u. u.number < next) (λ u. u.number < next + 1) (λ u low. omega (arith, low)) ts h.1)
      (omega (arith, is), tt),
)

-- ---- every effect

order_closed : IsClosed KeepsOrder
order_closed = record {
  on_still = λ s h. h;
  on_after = λ s a b first second h. second (first h);
  on_told = λ s v at h. h;
  on_mounts = λ s a c h. h;
  on_ended = λ s d h. h;
  on_renew = λ s n f mark h. h;
  on_log = λ s n stream payload h. h;
  on_output = λ s n stream payload h. h;
  on_process = λ s owner f h. h;
  on_drop = λ s owner h. h;
  on_spawn = λ s owner program stdin room h. h;
  on_timers = λ s timers h. h;
  on_exec = λ s n f mark h. h;
  on_destroyed = λ s c found h.
      through (last_answer c) (record { number = λ t. last_number (t.container == c.number) c t }) s.tickets s.next_ticket h;
  on_begun = λ s connection c asked found h. begun_order s.tickets s.next_ticket _ refl h;
  on_time_out = λ s c h.
      through (λ t. if t.container == c.number then timed_out t.asked c t else t) (record { number = λ t. either_number (t.container == c.number) c t })
      s.tickets s.next_ticket h;
  on_end_ticket = λ s n h. (
    removed (λ t. t.number == n) s.tickets h.0,
    all_removed (λ t. t.number < s.next_ticket) (λ t. t.number == n) s.tickets h.1,
  );
  on_made_volume = λ s name labels none h. h;
  on_gone_volume = λ s name unused h. h;
  on_made = λ s name spec free stand h. h;
  on_made_exec = λ s c words stdin out err found h. h;
  on_renamed = λ s c name found free h. h;
}

-- ---- every history

settled_number : (o : Option Reply) (t : Ticket) (died : List Died) (s : State) → (settled o t died s).number ≡ t.number
settled_number (Some reply) t died s = refl
settled_number None t died s = refl

settled_order : (died : List Died) (s : State) → Order s.tickets s.next_ticket → Order (settle_tickets died s).tickets (settle_tickets died s).next_ticket
settled_order died s h =
    through (λ t. settled t.reply t died s) (record { number = λ t. settled_number t.reply t died s }) s.tickets s.next_ticket h

due_order : (s : State) (o : Option DueAction) → Order s.tickets s.next_ticket
    → Order (unwrap_or (step_of o s) (still s)).state.tickets (unwrap_or (step_of o s) (still s)).state.next_ticket
due_order s None h = h
due_order s (Some d) h =
    let m : State = at_moment d.moment s in
    let e : Effect = due_effect d m in
    settled_order e.died e.state (runs_due order_closed d m h)

step_order : (s : State) (x : Step) → Order s.tickets s.next_ticket → Order (after_step s x).tickets (after_step s x).next_ticket
step_order s Step.Due h = due_order s (least_due s) h
step_order s (Step.Call k t c) h =
    let m : State = at_moment t s in
    let e : Effect = (outcome_of c k m).effect in
    settled_order e.died e.state (runs_call order_closed c k m h)

steps_order : (s : State) (xs : List Step) → Order s.tickets s.next_ticket → Order (state_from s xs).tickets (state_from s xs).next_ticket
steps_order s [] h = h
steps_order s (x ∷ xs) h = steps_order (after_step s x) xs (step_order s x h)

pub tickets_law : TicketsLaw
tickets_law charter h = (steps_order (opening_state charter) h (tt, tt)).0
