-- A removal that is made ready is the removal's outcome.
use Rattle.std.proofs.Common.{◌≡◌, ℕ, ◌<◌, ◌≤◌, Bool, true, false, List, [], ◌∷◌, ◌++◌, Option, Some, None, length, refl, ap, sym, ◌∙◌, subst}
use Rattle.std.specs.Prelude.{Result, Ok, Err, IfOk}
use Rattle.engine_text.specs.declared.container.Container.{Container}
use Rattle.engine_text.specs.declared.container.Goal.{Goal}
use Rattle.engine_text.specs.declared.event.Action.{Action}
use Rattle.engine_text.specs.declared.event.Event.{Event}
use Rattle.engine_text.specs.declared.memory.NoMemory.{NoMemory}
use Rattle.engine_text.specs.declared.owner.Owner.{Owner}
use Rattle.engine_text.specs.declared.reply.Reply.TheVariants.{Answer, Begun}
use Rattle.engine_text.specs.declared.ticket.Asked.{Asked}
use Rattle.proc_kernel.specs.Foretelling.{code_at}
use Rattle.proc_kernel.specs.Processes.{signal}
use Rattle.proc_kernel.specs.Tables.{process_of}
use Rattle.machine_model.specs.Calls.Remove.{kill_to_remove, remove_dead, to_remove}
use Rattle.machine_model.specs.Consistency.{IsConsistent}
use Rattle.machine_model.specs.Effects.Cancel.{cancel_restart}
use Rattle.machine_model.specs.Effects.Destroy.{destroy}
use Rattle.machine_model.specs.EventTexts.{plain_event}
use Rattle.machine_model.specs.Outcome.{Outcome, done, message_text}
use Rattle.machine_model.specs.Refusals.{being_removed}
use Rattle.machine_model.specs.State.{State, change_life, container_numbered, is_live}
use Rattle.machine_model.specs.Step.{at_moment}
use Rattle.machine_model.specs.Tickets.{begins, begun}
use Rattle.machine_events.specs.Fit.{AreTimely, CanEndAs, CanRemove}
use Rattle.machine_events.specs.ChangedLives.{renewed}
use Rattle.machine_events.specs.EndMemories.{IsEndMemoryOf}
use Rattle.machine_events.specs.Memory.{Room}
use Rattle.machine_events.specs.ToldKill.{aimed, told_kill}
use Rattle.machine_events.specs.declared.end_memory.EndMemory.{EndMemory}
use Rattle.machine_events.proofs.CallToldLemmas.{destroy_told, remove_restarting_told}
use Rattle.machine_events.proofs.DiedLemmas.{none_destroy}
use Rattle.machine_events.proofs.DiedToldLemmas.{kill_to_remove_died}
use Rattle.machine_events.proofs.ToldLemmas.{found_renewed}
use Rattle.machine_events.proofs.HaltLemmas.{timely_begun}
use Rattle.machine_events.proofs.KillToldLemmas.{kill_begun, kill_to_remove_told, once_begun}
use Rattle.machine_events.proofs.SettleLemmas.{remove_alike}
use Rattle.call_plans.specs.Calls.Remove.{give_up_effect}
use Rattle.call_plans.specs.Making.{IsAnswer, Makes}
use Rattle.call_plans.specs.Needs.{Brings}
use Rattle.call_plans.specs.Plans.{plan_effect, need_of}
use Rattle.call_plans.specs.declared.plan.Plan.{Plan}
use Rattle.call_plans.specs.declared.prepared.Prepared.{Prepared}
use Rattle.call_plans.specs.RunEnds.{IsEndMemory}
use Rattle.call_plans.proofs.MakeLemmas.{once_at}
use Rattle.call_plans.proofs.RunEndLemmas.{kill_next, own_script, script_aimed, serves_end}
use Rattle.changing_calls.proofs.StartLemmas.{made_answer}

-- ---- the effects

-- no main process ends in it
pub none_gone : (n : ℕ) (s : State) → [] ≡ (destroy n s).died
none_gone n s = sym (none_destroy n s)

pub none_given_up : (n : ℕ) (s : State) → [] ≡ (give_up_effect n s).died
none_given_up n s = sym (none_destroy n (cancel_restart n s).state)

-- what a removal needs stays where its restart is given up
pub removes_cancelled : (n : ℕ) (brought : EndMemory) (room other : Room) (s z : State) → CanRemove n brought room s → z ≡ (cancel_restart n s).state → other ≡ room → CanRemove n brought other z
removes_cancelled n brought room other s z h is same =
    subst (λ (r : Room). CanRemove n brought r z) (sym same)
    (subst (λ (y : State). CanRemove n brought room y) (sym is)
    (remove_alike n brought room s (cancel_restart n s).state (record { removed = refl; kept = refl; numbers = refl; outputs = refl }) h))

-- ---- what is made ready

one_told : (empty out told : List Event) (e d : Event) → empty ≡ [] → out ≡ empty ++ e ∷ [] → e ≡ d → told ≡ d ∷ [] → out ≡ told
one_told empty out told e d h1 h2 h3 h4 = h2 ∙ (ap (λ l. l ++ e ∷ []) h1 ∙ (ap (λ x. x ∷ []) h3 ∙ sym h4))

pub makes_gone : (p : Prepared) (t : ℕ) (s : State) (c : Container) (brought : EndMemory) (empty : List Event) (e : Event) → container_numbered c.number s ≡ Some c
    → p.moment ≡ t → p.plan ≡ Plan.Remove c.number brought → IsEndMemoryOf c.number None s brought → p.reply ≡ Answer 204 [] → empty ≡ [] → p.events.items ≡ empty ++ e ∷ [] → e ≡ plain_event Action.Destroy c t
    → Makes p t s (done (destroy c.number))
makes_gone p t s c brought empty e found moment plan of reply h1 h2 h3 =
    let z : State = at_moment t s in
    record {
      moment = moment;
      effect = ap (λ q. plan_effect q z) plan;
      events = one_told empty p.events.items (destroy c.number z).events e (plain_event Action.Destroy c t) h1 h2 h3 (destroy_told c.number z c found);
      reply = reply;
      brings = subst (λ q. Brings (need_of q) t s) (sym plan) of;
    }

pub makes_given_up : (p : Prepared) (t : ℕ) (s : State) (c : Container) (brought : EndMemory) (empty : List Event) (e : Event) → container_numbered c.number s ≡ Some c
    → p.moment ≡ t → p.plan ≡ Plan.RemoveRestarting c.number brought → IsEndMemoryOf c.number None s brought → p.reply ≡ Answer 204 [] → empty ≡ [] → p.events.items ≡ empty ++ e ∷ [] → e ≡ plain_event Action.Destroy c t
    → Makes p t s (done (give_up_effect c.number))
makes_given_up p t s c brought empty e found moment plan of reply h1 h2 h3 =
    let z : State = at_moment t s in
    record {
      moment = moment;
      effect = ap (λ q. plan_effect q z) plan;
      events = one_told empty p.events.items (give_up_effect c.number z).events e (plain_event Action.Destroy c t) h1 h2 h3 (remove_restarting_told c.number z c found);
      reply = reply;
      brings = subst (λ q. Brings (need_of q) t s) (sym plan) of;
    }

-- ---- of a dead container

-- the outcome goes by whether a process is left
made_dead : (p : Prepared) (t : ℕ) (s : State) (c : Container) (live : Bool) → live ≡ is_live (Owner.Container c.number) s → Makes p t s (remove_dead live c)
    → Makes p t s (λ z. remove_dead (is_live (Owner.Container c.number) z) c z)
made_dead p t s c live is h =
    let z : State = at_moment t s in
    let same : remove_dead live c z ≡ remove_dead (is_live (Owner.Container c.number) s) c z = ap (λ b. remove_dead b c z) is in
    record {
      moment = h.moment;
      effect = h.effect ∙ ap (λ (o : Outcome). o.effect) same;
      events = h.events ∙ ap (λ (o : Outcome). o.effect.events) same;
      reply = h.reply ∙ ap (λ (o : Outcome). o.reply) same;
      brings = h.brings;
    }

pub dead_refused : (r : Result Prepared NoMemory) (t : ℕ) (s : State) (c : Container) → true ≡ is_live (Owner.Container c.number) s → IfOk r (λ p. IsAnswer t 409 (message_text (being_removed c.id)) p)
    → IfOk r (λ p. Makes p t s (λ z. remove_dead (is_live (Owner.Container c.number) z) c z))
dead_refused (Ok p) t s c is h = made_dead p t s c true is (made_answer p t s (remove_dead true c) 409 (message_text (being_removed c.id)) h (λ z. refl))
dead_refused (Err e) t s c is h = tt

pub dead_gone : (r : Result Prepared NoMemory) (t : ℕ) (s : State) (c : Container) → false ≡ is_live (Owner.Container c.number) s → IfOk r (λ p. Makes p t s (done (destroy c.number)))
    → IfOk r (λ p. Makes p t s (λ z. remove_dead (is_live (Owner.Container c.number) z) c z))
dead_gone (Ok p) t s c is h = made_dead p t s c false is h
dead_gone (Err e) t s c is h = tt

-- ---- of a container that lives

pub forced_timely : (connection n : ℕ) (s z : State) → z ≡ begun connection n Asked.Remove s → AreTimely s → AreTimely z
forced_timely connection n s z is h = subst (λ (y : State). AreTimely y) (sym is) (timely_begun connection n Asked.Remove s h)

pub forced_end : (connection n : ℕ) (brought : EndMemory) (room other : Room) (s z : State) → z ≡ begun connection n Asked.Remove s → other ≡ room → CanEndAs to_remove (kill_to_remove n) n brought room (begun connection n Asked.Remove s)
    → CanEndAs to_remove (kill_to_remove n) n brought other z
forced_end connection n brought room other s z is same h =
    subst (λ (r : Room). CanEndAs to_remove (kill_to_remove n) n brought r z) (sym same) (subst (λ (y : State). CanEndAs to_remove (kill_to_remove n) n brought room y) (sym is) h)

pub forced_execs : (connection n : ℕ) (room other : Room) (s z : State) → z ≡ begun connection n Asked.Remove s → other ≡ room → length s.execs ≤ room.scratch → length z.execs ≤ other.scratch
forced_execs connection n room other s z is same h =
    subst (λ (r : Room). length z.execs ≤ r.scratch) (sym same) (subst (λ (y : State). length y.execs ≤ room.scratch) (sym is) h)

pub forced_timers : (connection n : ℕ) (room other : Room) (s z : State) → z ≡ begun connection n Asked.Remove s → other ≡ room → length s.timers < room.timers → length z.timers < other.timers
forced_timers connection n room other s z is same h =
    subst (λ (r : Room). length z.timers < r.timers) (sym same) (subst (λ (y : State). length y.timers < room.timers) (sym is) h)

pub makes_forced : (p : Prepared) (connection t : ℕ) (s : State) (c : Container) (code : Option ℕ) (brought : EndMemory) (empty : List Event)
    → IsConsistent s → container_numbered c.number s ≡ Some c
    → ((u : ℕ) → code ≡ code_at (signal 9 true u) (process_of (Owner.Container c.number) s.processes))
    → p.moment ≡ t → p.plan ≡ Plan.RemoveForced connection c.number brought → IsEndMemory code Goal.Remove c.number c s brought → p.reply ≡ Begun s.next_ticket
    → empty ≡ [] → p.events.items ≡ empty ++ told_kill 9 code (aimed Goal.Remove c) brought.script (at_moment t s)
    → Makes p t s (begins connection c Asked.Remove (kill_to_remove c.number))
makes_forced p connection t s c code brought empty k found is moment plan of reply none events =
    let z : State = at_moment t s in
    let n : ℕ = c.number in
    let y : State = begun connection n Asked.Remove z in
    let told : (kill_to_remove n y).events ≡ told_kill 9 code (aimed Goal.Remove c) (own_script c) z =
    kill_to_remove_told n y c (own_script c) code found refl (once_begun connection n Asked.Remove z (once_at t s k)) (is t)
    ∙ kill_begun connection n Asked.Remove 9 code (aimed Goal.Remove c) (own_script c) z in
    record {
      moment = moment;
      effect = ap (λ q. plan_effect q z) plan;
      events = events ∙ (ap (λ l. l ++ told_kill 9 code (aimed Goal.Remove c) brought.script z) none
          ∙ (kill_next 9 code (aimed Goal.Remove c) brought.script z (script_aimed code Goal.Remove n c s brought of) ∙ sym told));
      reply = reply;
      brings = subst (λ q. Brings (need_of q) t s) (sym plan) (
        serves_end code n Goal.Remove c (renewed to_remove c) s (change_life n to_remove y) brought (kill_to_remove n y).died (kill_to_remove_died n y c code found (is t)) of
            (found_renewed n to_remove y c found) refl refl refl,
        tt,
      );
    }
