-- An attach that is made ready is the attach's outcome.
use Rattle.std.proofs.Common.{◌≡◌, ℕ, List, [], ◌∷◌, ◌++◌, Some, ap, sym, ◌∙◌, subst}
use Rattle.engine_text.specs.declared.container.Container.{Container}
use Rattle.engine_text.specs.declared.event.Action.{Action}
use Rattle.engine_text.specs.declared.event.Event.{Event}
use Rattle.engine_text.specs.declared.reply.LogSpec.{LogSpec}
use Rattle.engine_text.specs.declared.reply.Reply.TheVariants.{LogStream}
use Rattle.machine_model.specs.Chain.{tell, with_found}
use Rattle.machine_model.specs.EventTexts.{plain_event}
use Rattle.machine_model.specs.Outcome.{replies}
use Rattle.machine_model.specs.State.{State, container_numbered}
use Rattle.machine_model.specs.Step.{at_moment}
use Rattle.call_plans.specs.Calls.Attach.{attach_effect}
use Rattle.call_plans.specs.Making.{Makes}
use Rattle.call_plans.specs.Needs.{Brings}
use Rattle.call_plans.specs.Plans.{plan_effect, need_of}
use Rattle.call_plans.specs.declared.plan.Plan.{Plan}
use Rattle.call_plans.specs.declared.prepared.Prepared.{Prepared}

-- the container is found, so the event is told of it
attached_told : (n : ℕ) (s : State) (c : Container) → container_numbered n s ≡ Some c → (attach_effect n s).events ≡ plain_event Action.Attach c s.clock ∷ []
attached_told n s c found = ap (λ o. (with_found o (λ (d : Container) (z : State). tell (plain_event Action.Attach d z.clock ∷ []) z) s).events) found

pub makes_attach : (p : Prepared) (t : ℕ) (s : State) (c : Container) (to given : LogSpec) (empty : List Event) (e : Event) → container_numbered c.number s ≡ Some c
    → p.moment ≡ t → p.plan ≡ Plan.Attach c.number → p.reply ≡ LogStream to → to ≡ given → empty ≡ [] → p.events.items ≡ empty ++ e ∷ [] → e ≡ plain_event Action.Attach c t
    → Makes p t s (replies (LogStream given) (attach_effect c.number))
makes_attach p t s c to given empty e found moment plan reply is h1 h2 h3 =
    let z : State = at_moment t s in
    record {
      moment = moment;
      effect = ap (λ q. plan_effect q z) plan;
      events = h2 ∙ (ap (λ l. l ++ e ∷ []) h1 ∙ (ap (λ d. d ∷ []) h3 ∙ sym (attached_told c.number z c found)));
      reply = reply ∙ ap LogStream is;
      brings = subst (λ q. Brings (need_of q) t s) (sym plan) tt;
    }
