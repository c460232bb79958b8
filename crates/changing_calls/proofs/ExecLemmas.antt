-- What the calls of execs make.
use Rattle.std.proofs.Common.{◌≡◌, ℕ, Bool, List, [], ◌∷◌, ◌++◌, Option, Some, None, refl, ap, sym, ◌∙◌, subst}
use Rattle.std.specs.Prelude.{codes}
use Rattle.engine_text.specs.declared.container.Container.{Container}
use Rattle.engine_text.specs.declared.event.Action.{Action}
use Rattle.engine_text.specs.declared.event.Event.{Event}
use Rattle.engine_text.specs.declared.exec.Exec.{Exec}
use Rattle.engine_text.specs.declared.reply.Reply.TheVariants.{Answer}
use Rattle.machine_model.specs.Calls.ExecCreate.{created, new_exec, with_exec}
use Rattle.machine_model.specs.Chain.{tell, with_found}
use Rattle.machine_model.specs.EventTexts.{exec_event}
use Rattle.machine_model.specs.State.{State, container_numbered}
use Rattle.machine_model.specs.Step.{at_moment}
use Rattle.machine_events.proofs.SettleLemmas.{tell_still}
use Rattle.call_plans.specs.Calls.Execs.{add_exec}
use Rattle.call_plans.specs.Making.{Makes}
use Rattle.call_plans.specs.Needs.{Brings}
use Rattle.call_plans.specs.Plans.{plan_effect, need_of}
use Rattle.call_plans.specs.declared.plan.Plan.{Plan}
use Rattle.call_plans.specs.declared.prepared.Prepared.{Prepared}

-- what stands once it is told
pub added_state : (x : Exec) (s : State) → with_exec x s ≡ (add_exec x s).state
added_state x s = sym (tell_still (exec_event Action.ExecCreate x.id) x.container (with_exec x s))

none_found : (o : Option Container) (event : Container → ℕ → Event) (s : State) → [] ≡ (with_found o (λ (c : Container) (z : State). tell (event c z.clock ∷ []) z) s).died
none_found None event s = refl
none_found (Some c) event s = refl

pub none_added : (x : Exec) (s : State) → [] ≡ (add_exec x s).died
none_added x s = none_found (container_numbered x.container (with_exec x s)) (exec_event Action.ExecCreate x.id) (with_exec x s)

-- the container is found, so the event is told of it
added_told : (x : Exec) (s : State) (c : Container) → container_numbered x.container s ≡ Some c → (add_exec x s).events ≡ exec_event Action.ExecCreate x.id c s.clock ∷ []
added_told x s c found =
    ap (λ o. (with_found o (λ (d : Container) (z : State). tell (exec_event Action.ExecCreate x.id d z.clock ∷ []) z) (with_exec x s)).events) found

pub makes_exec : (p : Prepared) (t : ℕ) (s : State) (c : Container) (x : Exec) (words : List (List ℕ)) (stdin out err : Bool) (body : List ℕ) (empty : List Event) (e : Event)
    → container_numbered c.number s ≡ Some c → x ≡ new_exec c words stdin out err s
    → p.moment ≡ t → p.plan ≡ Plan.ExecCreate x → p.reply ≡ Answer 201 body → body ≡ codes "{\"Id\":\"" ++ x.id ++ codes "\"}"
    → empty ≡ [] → p.events.items ≡ empty ++ e ∷ [] → e ≡ exec_event Action.ExecCreate x.id c t → Makes p t s (λ z. created (new_exec c words stdin out err z) c z)
makes_exec p t s c x words stdin out err body empty e found is moment plan reply text h1 h2 h3 =
    let z : State = at_moment t s in
    let y : Exec = new_exec c words stdin out err z in
    record {
      moment = moment;
      effect = ap (λ q. plan_effect q z) plan ∙ ap (λ w. add_exec w z) is;
      events = h2 ∙ (ap (λ l. l ++ e ∷ []) h1 ∙ (ap (λ d. d ∷ []) h3 ∙ (ap (λ (w : Exec). exec_event Action.ExecCreate w.id c t ∷ []) is ∙ sym (added_told y z c found))));
      reply = reply ∙ ap (Answer 201) (text ∙ ap (λ (w : Exec). codes "{\"Id\":\"" ++ w.id ++ codes "\"}") is);
      brings = subst (λ q. Brings (need_of q) t s) (sym plan) (record { number = ap (λ (w : Exec). w.number) is; id = ap (λ (w : Exec). w.id) is });
    }
