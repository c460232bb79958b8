-- An exec start that is made ready is the start's outcome.
use Rattle.std.specs.Option.{option_map_or}
use Rattle.std.proofs.Common.{◌≡◌, ℕ, ◌&&◌, not, Bool, List, [], ◌∷◌, ◌++◌, Option, Some, None, find, refl, ap, sym, ◌∙◌, subst}
use Rattle.engine_text.specs.Scripts.{Program}
use Rattle.engine_text.specs.Texts.{same_bytes}
use Rattle.engine_text.specs.declared.container.Container.{Container}
use Rattle.engine_text.specs.declared.event.Action.{Action}
use Rattle.engine_text.specs.declared.event.Event.{Event}
use Rattle.engine_text.specs.declared.exec.Exec.{Exec}
use Rattle.engine_text.specs.declared.reply.Reply.{Reply}
use Rattle.engine_text.specs.declared.status.Status.{Status}
use Rattle.proc_kernel.specs.Catalogue.{program_of}
use Rattle.machine_model.specs.Calls.ExecCreate.{if_running}
use Rattle.machine_model.specs.Calls.ExecStart.{run, spawn_exec, start_reply}
use Rattle.machine_model.specs.Calls.Start.{if_program}
use Rattle.machine_model.specs.Chain.{tell, with_found}
use Rattle.machine_model.specs.Consistency.{IsConsistent}
use Rattle.machine_model.specs.EventTexts.{exec_event}
use Rattle.machine_model.specs.Outcome.{Outcome, conflicts, replies}
use Rattle.machine_model.specs.State.{State, container_numbered, exec_numbered}
use Rattle.machine_model.specs.Step.{at_moment}
use Rattle.machine_model.proofs.Fits.ExecLoopLemmas.{own_exec}
use Rattle.machine_model.proofs.ObeyLemmas.{found_all}
use Rattle.machine_events.specs.ExecStarts.{exec_begun, start_effect}
use Rattle.changing_calls.specs.Calls.ExecRefusals.{exec_refusal}
use Rattle.call_plans.specs.Making.{Makes}
use Rattle.call_plans.specs.Needs.{Brings}
use Rattle.call_plans.specs.Plans.{plan_effect, need_of}
use Rattle.call_plans.specs.declared.plan.Plan.{Plan}
use Rattle.call_plans.specs.declared.prepared.Prepared.{Prepared}
use Rattle.call_plans.proofs.MakeLemmas.{stand_once}

-- ---- the effect

none_found : (o : Option Container) (x : Exec) (s : State) → [] ≡ (with_found o (λ (c : Container) (z : State). tell (exec_event Action.ExecStart x.id c z.clock ∷ []) z) s).died
none_found None x s = refl
none_found (Some c) x s = refl

none_of : (o : Option Exec) (program : Program) (detach : Bool) (s : State) → [] ≡ (with_found o (spawn_exec (Some program) detach) s).died
none_of None program detach s = refl
none_of (Some x) program detach s =
    none_found (container_numbered x.container s) x (exec_begun x.number program (x.stdin && not detach) s)

-- it ends no process
pub none_started : (n : ℕ) (program : Program) (detach : Bool) (s : State) → [] ≡ (start_effect n program detach s).died
none_started n program detach s = none_of (exec_numbered n s) program detach s

-- of an exec that stands
started_as : (x : Exec) (program : Program) (detach : Bool) (s : State) → exec_numbered x.number s ≡ Some x → start_effect x.number program detach s ≡ spawn_exec (Some program) detach x s
started_as x program detach s own = ap (λ o. with_found o (spawn_exec (Some program) detach) s) own

-- the container is found, so the event is told of it
started_told : (x : Exec) (c : Container) (program : Program) (detach : Bool) (s : State) → container_numbered x.container s ≡ Some c → (spawn_exec (Some program) detach x s).events ≡ exec_event Action.ExecStart x.id c s.clock ∷ []
started_told x c program detach s found =
    ap (λ o. (with_found o (λ (d : Container) (z : State). tell (exec_event Action.ExecStart x.id d z.clock ∷ []) z) (exec_begun x.number program (x.stdin && not detach) s)).events) found

pub makes_start : (p : Prepared) (t : ℕ) (s : State) (c : Container) (x : Exec) (program : Program) (detach : Bool) (reply : Reply) (empty : List Event) (e : Event)
    → container_numbered x.container s ≡ Some c → exec_numbered x.number s ≡ Some x → program_of x.words 1 ≡ Some program
    → p.moment ≡ t → p.plan ≡ Plan.ExecStart x.number program detach → p.reply ≡ reply → reply ≡ start_reply detach x
    → empty ≡ [] → p.events.items ≡ empty ++ e ∷ [] → e ≡ exec_event Action.ExecStart x.id c t → Makes p t s (run detach x)
makes_start p t s c x program detach reply empty e found own named moment plan replied is h1 h2 h3 =
    let z : State = at_moment t s in
    let out : run detach x z ≡ replies (start_reply detach x) (spawn_exec (Some program) detach x) z =
    ap (λ o. if_program o x.words (replies (start_reply detach x) (spawn_exec o detach x)) z) named in
    record {
      moment = moment;
      effect = ap (λ q. plan_effect q z) plan ∙ (started_as x program detach z own ∙ sym (ap (λ (o : Outcome). o.effect) out));
      events = h2 ∙ (ap (λ l. l ++ e ∷ []) h1 ∙ (ap (λ d. d ∷ []) h3 ∙ (sym (started_told x c program detach z found) ∙ sym (ap (λ (o : Outcome). o.effect.events) out))));
      reply = replied ∙ (is ∙ sym (ap (λ (o : Outcome). o.reply) out));
      brings = subst (λ q. Brings (need_of q) t s) (sym plan) tt;
    }

-- ---- the exec that is found

-- it is the one of its number
pub own_found : (s : State) (id : List ℕ) (x : Exec) → IsConsistent s → find (λ (y : Exec). same_bytes y.id id) s.execs ≡ Some x → exec_numbered x.number s ≡ Some x
own_found s id x k found =
    found_all (λ (y : Exec). exec_numbered y.number s ≡ Some y) (λ (y : Exec). same_bytes y.id id) x s.execs found (own_exec s.execs (stand_once s k).execs)

-- ---- what refuses it

pub by_refusal : (u : Status) (c : Container) (f : State → Outcome) → if_running u c f ≡ option_map_or conflicts (exec_refusal u c.id) f
by_refusal Status.Created c f = refl
by_refusal Status.Running c f = refl
by_refusal Status.Paused c f = refl
by_refusal Status.Restarting c f = refl
by_refusal Status.Removing c f = refl
by_refusal Status.Exited c f = refl
by_refusal Status.Dead c f = refl
