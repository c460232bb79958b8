-- Calls that change volumes.
use Rattle.std.proofs.Common.{◌≡◌, ℕ, ◌+◌, false, List, [], ◌∷◌, ◌++◌, None, ap, sym, ◌∙◌, subst}
use Rattle.std.specs.Prelude.{IsSome}
use Rattle.engine_text.specs.declared.event.Action.{Action}
use Rattle.engine_text.specs.declared.event.Event.{Event}
use Rattle.engine_text.specs.declared.pairs.Pair.{Pair}
use Rattle.engine_text.specs.declared.reply.Reply.TheVariants.{Answer}
use Rattle.machine_model.specs.Calls.Create.{new_volume, volume_named}
use Rattle.machine_model.specs.Calls.Volumes.{by_standing, is_in_use, remove_volume}
use Rattle.machine_model.specs.EventTexts.{volume_event}
use Rattle.machine_model.specs.Outcome.{done}
use Rattle.machine_model.specs.State.{State}
use Rattle.machine_model.specs.Step.{at_moment}
use Rattle.machine_model.specs.Views.{volume_body}
use Rattle.call_plans.specs.Making.{Makes}
use Rattle.call_plans.specs.Needs.{Brings}
use Rattle.call_plans.specs.Plans.{plan_effect, need_of}
use Rattle.call_plans.specs.declared.plan.Plan.{Plan}
use Rattle.call_plans.specs.declared.prepared.Prepared.{Prepared}

-- ---- a volume is made or taken away

one_event : (empty events : List Event) (e d : Event) → empty ≡ [] → events ≡ empty ++ e ∷ [] → e ≡ d → events ≡ d ∷ []
one_event empty events e d h1 h2 h3 = h2 ∙ (ap (λ l. l ++ e ∷ []) h1 ∙ ap (λ x. x ∷ []) h3)

pub makes_volume : (p : Prepared) (t : ℕ) (s : State) (name n body : List ℕ) (labels l : List Pair) (empty : List Event) (e : Event) → n ≡ name → l ≡ labels → volume_named name s ≡ None
    → p.moment ≡ t → p.plan ≡ Plan.VolumeCreate n l → p.reply ≡ Answer 201 body → body ≡ volume_body (new_volume name labels t)
    → empty ≡ [] → p.events.items ≡ empty ++ e ∷ [] → e ≡ volume_event Action.Create name t → Makes p t s (by_standing None name labels)
makes_volume p t s name n body labels l empty e same also free moment plan reply text h1 h2 h3 =
    let is : p.plan ≡ Plan.VolumeCreate name labels = plan ∙ (ap (λ m. Plan.VolumeCreate m l) same ∙ ap (λ m. Plan.VolumeCreate name m) also) in
    record {
      moment = moment;
      effect = ap (λ q. plan_effect q (at_moment t s)) is;
      events = one_event empty p.events.items e _ h1 h2 h3;
      reply = reply ∙ ap (Answer 201) text;
      brings = subst (λ q. Brings (need_of q) t s) (sym is) free;
    }

pub makes_removal : (p : Prepared) (t : ℕ) (s : State) (name n : List ℕ) (empty : List Event) (e : Event) → n ≡ name → IsSome (volume_named name s) → is_in_use name s ≡ false
    → p.moment ≡ t → p.plan ≡ Plan.VolumeRemove n → p.reply ≡ Answer 204 [] → empty ≡ [] → p.events.items ≡ empty ++ e ∷ [] → e ≡ volume_event Action.Destroy name t
    → Makes p t s (done (remove_volume name))
makes_removal p t s name n empty e same stands unused moment plan reply h1 h2 h3 =
    let is : p.plan ≡ Plan.VolumeRemove name = plan ∙ ap (λ m. Plan.VolumeRemove m) same in
    record {
      moment = moment;
      effect = ap (λ q. plan_effect q (at_moment t s)) is;
      events = one_event empty p.events.items e _ h1 h2 h3;
      reply = reply;
      brings = subst (λ q. Brings (need_of q) t s) (sym is) (record { stands = stands; unused = unused });
    }

-- ---- their moments are moments

-- ---- one volume further
