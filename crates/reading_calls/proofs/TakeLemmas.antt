-- The end of a ticket that is made ready is the call's outcome.
use Rattle.std.proofs.Common.{◌≡◌, ℕ, refl, ap, ◌∙◌, sym, subst}
use Rattle.std.specs.Prelude.{IsFalse, Result, Ok, Err, OnErr, option_and_then, unwrap_or}
use Rattle.engine_text.specs.declared.call.Call.{Call}
use Rattle.engine_text.specs.declared.reply.Reply.{Reply}
use Rattle.engine_text.specs.declared.reply.Reply.TheVariants.{Dropped}
use Rattle.engine_text.specs.declared.step.Step.{Step}
use Rattle.machine_model.specs.Calls.Take.{drop_outcome, take_outcome}
use Rattle.machine_model.specs.Consistency.{IsConsistent}
use Rattle.machine_model.specs.History.{IsLawful, is_drop}
use Rattle.machine_model.specs.State.{State}
use Rattle.machine_model.specs.Step.{at_moment}
use Rattle.machine_model.specs.Tickets.{ticket_numbered}
use Rattle.reading_calls.specs.Calls.Take.{IsEnding}
use Rattle.call_plans.specs.Making.{Makes}
use Rattle.call_plans.specs.Parts.{MachineParts}
use Rattle.call_plans.specs.Needs.{Brings, HasSpace, space_of}
use Rattle.call_plans.specs.Plans.{plan_effect, need_of}
use Rattle.call_plans.specs.Prepared.{IsFor, asked_by}
use Rattle.call_plans.specs.declared.prepared.Prepared.{Prepared}
use Rattle.call_plans.proofs.ReadyLemmas.{ready}
use Rattle.engine_text.specs.declared.ticket.Ticket.{Ticket}

pub makes_take : (p : Prepared) (t : ℕ) (s : State) (ticket : ℕ) (reply : Reply) → IsEnding t reply ticket p → reply ≡ (unwrap_or (option_and_then (λ (t : Ticket). t.reply) (ticket_numbered ticket s)) Dropped) → Makes p t s (take_outcome ticket)
makes_take p t s ticket reply e is =
    let z : State = at_moment t s in
    record {
      moment = e.moment;
      effect = ap (λ q. plan_effect q z) e.plan;
      events = e.events;
      reply = e.reply ∙ is;
      brings = subst (λ q. Brings (need_of q) t s) (sym e.plan) tt;
    }

pub makes_drop : (p : Prepared) (t : ℕ) (s : State) (ticket : ℕ) → IsEnding t Dropped ticket p → Makes p t s (drop_outcome ticket)
makes_drop p t s ticket e =
    let z : State = at_moment t s in
    record {
      moment = e.moment;
      effect = ap (λ q. plan_effect q z) e.plan;
      events = e.events;
      reply = e.reply;
      brings = subst (λ q. Brings (need_of q) t s) (sym e.plan) tt;
    }

-- it may be committed on a machine that made no room for it
pub ready_drop : (p : Prepared) (w : MachineParts) (connection moment ticket : ℕ) → IsConsistent w.memory.state → IsLawful w.memory.state (Step.Call connection moment (Call.Drop ticket)) → IsEnding moment Dropped ticket p
    → IsFor p w (asked_by connection moment (Call.Drop ticket))
ready_drop p w connection moment ticket k lawful e =
    ready p w connection moment (Call.Drop ticket) k lawful (makes_drop p moment w.memory.state ticket e)
    (subst (λ q. HasSpace (space_of (need_of q)) w.memory) (sym e.plan) tt)

-- what isn't one
pub not_drop : (c : Call) → ((n : ℕ) → c ≡ Call.Drop n → ⊥) → IsFalse (is_drop c)
not_drop (Call.Drop n) other = absurd (other n refl)
not_drop c other = refl

-- what holds holds of an error
pub on_err : {A B : Type 0} (r : Result A B) (P : Type 0) → P → OnErr r P
on_err (Ok a) P h = tt
on_err (Err e) P h = h
