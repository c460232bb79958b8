-- What is made ready is a call's outcome, where it is at the call's moment.
use Rattle.std.proofs.Common.{◌≡◌, ℕ, List, Result, Ok, Err, IfOk, ap, sym, ◌∙◌, subst}
use Rattle.engine_text.specs.declared.memory.NoMemory.{NoMemory}
use Rattle.engine_text.specs.declared.reply.Reply.{Reply}
use Rattle.machine_model.specs.Chain.{still}
use Rattle.machine_model.specs.Outcome.{Outcome, answers, replies}
use Rattle.machine_model.specs.State.{State}
use Rattle.machine_model.specs.Step.{at_moment}
use Rattle.call_plans.specs.Making.{IsAnswer, IsStream, Makes}
use Rattle.call_plans.specs.Needs.{Brings}
use Rattle.call_plans.specs.Plans.{plan_effect, need_of}
use Rattle.call_plans.specs.declared.prepared.Prepared.{Prepared}

-- an answer that changes nothing
pub answered : (p : Prepared) (t : ℕ) (s : State) (status : ℕ) (body : List ℕ) (f : State → Outcome) → f (at_moment t s) ≡ answers status body (at_moment t s) → IsAnswer t status body p → Makes p t s f
answered p t s status body f is a =
    let z : State = at_moment t s in
    record {
      moment = a.moment;
      effect = ap (λ q. plan_effect q z) a.plan ∙ sym (ap (λ (o : Outcome). o.effect) is);
      events = a.events ∙ sym (ap (λ (o : Outcome). o.effect.events) is);
      reply = a.reply ∙ sym (ap (λ (o : Outcome). o.reply) is);
      brings = subst (λ q. Brings (need_of q) t s) (sym a.plan) tt;
    }

-- a stream that changes nothing
pub streamed : (p : Prepared) (t : ℕ) (s : State) (given : Reply) (f : State → Outcome) → f (at_moment t s) ≡ replies given still (at_moment t s) → IsStream t given p → Makes p t s f
streamed p t s given f is a =
    let z : State = at_moment t s in
    record {
      moment = a.moment;
      effect = ap (λ q. plan_effect q z) a.plan ∙ sym (ap (λ (o : Outcome). o.effect) is);
      events = a.events ∙ sym (ap (λ (o : Outcome). o.effect.events) is);
      reply = a.reply ∙ sym (ap (λ (o : Outcome). o.reply) is);
      brings = subst (λ q. Brings (need_of q) t s) (sym a.plan) tt;
    }

-- an outcome that is the same there
pub made_as : (p : Prepared) (t : ℕ) (s : State) (f g : State → Outcome) → g (at_moment t s) ≡ f (at_moment t s) → Makes p t s f → Makes p t s g
made_as p t s f g is m = record {
  moment = m.moment;
  effect = m.effect ∙ sym (ap (λ (o : Outcome). o.effect) is);
  events = m.events ∙ sym (ap (λ (o : Outcome). o.effect.events) is);
  reply = m.reply ∙ sym (ap (λ (o : Outcome). o.reply) is);
  brings = m.brings;
}

-- both, if there was memory
pub answered_or : (r : Result Prepared NoMemory) (t : ℕ) (s : State) (status : ℕ) (body : List ℕ) (f : State → Outcome) → f (at_moment t s) ≡ answers status body (at_moment t s)
    → IfOk r (λ p. IsAnswer t status body p) → IfOk r (λ p. Makes p t s f)
answered_or (Ok p) t s status body f is a = answered p t s status body f is a
answered_or (Err e) t s status body f is a = tt

pub made_or : (r : Result Prepared NoMemory) (t : ℕ) (s : State) (f g : State → Outcome) → g (at_moment t s) ≡ f (at_moment t s) → IfOk r (λ p. Makes p t s f) → IfOk r (λ p. Makes p t s g)
made_or (Ok p) t s f g is m = made_as p t s f g is m
made_or (Err e) t s f g is m = tt
