-- A start that is made ready is the start's outcome.
use Rattle.std.proofs.Common.{◌≡◌, ℕ, ◌+◌, true, false, List, [], ◌++◌, Option, Some, None, refl, ap, sym, ◌∙◌, subst}
use Rattle.engine_text.specs.Scripts.{Program}
use Rattle.engine_text.specs.declared.container.Container.{Container}
use Rattle.engine_text.specs.declared.event.Event.{Event}
use Rattle.engine_text.specs.declared.reply.Reply.TheVariants.{Answer}
use Rattle.proc_kernel.specs.Catalogue.{program_of}
use Rattle.proc_kernel.proofs.StartsLemmas.{is_program, program_alike}
use Rattle.machine_model.specs.State.{State, container_numbered, change_life}
use Rattle.machine_model.specs.Effects.Launch.{afresh, launch_by_call}
use Rattle.machine_model.specs.Outcome.{Outcome, answers, done}
use Rattle.machine_model.specs.Step.{at_moment}
use Rattle.machine_model.specs.Calls.Start.{if_program, run}
use Rattle.machine_events.specs.Foretold.{told_launch}
use Rattle.machine_events.specs.ChangedLives.{renewed}
use Rattle.machine_events.proofs.DiedLemmas.{none_launch}
use Rattle.machine_events.proofs.ToldLemmas.{found_renewed, launch_told, same_launch}
use Rattle.call_plans.specs.Making.{IsAnswer, Makes}
use Rattle.call_plans.specs.Needs.{Brings}
use Rattle.call_plans.specs.Plans.{plan_effect, need_of}
use Rattle.call_plans.specs.declared.plan.Plan.{Plan}
use Rattle.call_plans.specs.declared.prepared.Prepared.{Prepared}

-- an answer that changes nothing is the outcome that answers so
pub made_answer : (p : Prepared) (t : ℕ) (s : State) (f : State → Outcome) (status : ℕ) (body : List ℕ) → IsAnswer t status body p → ((z : State) → f z ≡ answers status body z) → Makes p t s f
made_answer p t s f status body a h =
    let z : State = at_moment t s in
    record {
      moment = a.moment;
      effect = ap (λ q. plan_effect q z) a.plan ∙ sym (ap (λ (o : Outcome). o.effect) (h z));
      events = a.events ∙ sym (ap (λ (o : Outcome). o.effect.events) (h z));
      reply = a.reply ∙ sym (ap (λ (o : Outcome). o.reply) (h z));
      brings = subst (λ q. Brings (need_of q) t s) (sym a.plan) tt;
    }

pub none_is : (o : Option Program) → is_program o ≡ false → o ≡ None
none_is None e = refl
none_is (Some p) e = absurd (cc)

pub some_is : (o : Option Program) → is_program o ≡ true → (p : Program) × (o ≡ Some p)
some_is None e = absurd (cc)
some_is (Some p) e = (p, refl)

launched_run : (c : Container) (program : Program) → program_of c.life.words (c.life.starts + 1) ≡ Some program → (z : State) → run c z ≡ done (launch_by_call c.number) z
launched_run c program e z =
    let one = some_is (program_of c.life.words 1) (program_alike c.life.words 1 (c.life.starts + 1) ∙ ap is_program e) in
    ap (λ o. if_program o c.life.words (done (launch_by_call c.number)) z) one.1

start_told : (n : ℕ) (s : State) (c : Container) → container_numbered n s ≡ Some c → (launch_by_call n s).events ≡ told_launch (program_of c.life.words (c.life.starts + 1)) c s.clock
start_told n s c e =
    launch_told n (renewed afresh c) (change_life n afresh s) (found_renewed n afresh s c e)
    ∙ same_launch (program_of c.life.words (c.life.starts + 1)) afresh c s.clock refl

pub none_start : (n : ℕ) (s : State) → [] ≡ (launch_by_call n s).died
none_start n s = sym (none_launch n (change_life n afresh s))

pub same_words : (c d : Container) → Some c ≡ Some d → program_of c.life.words (c.life.starts + 1) ≡ program_of d.life.words (d.life.starts + 1)
same_words c d e = let is : c ≡ d = cc in ap (λ (x : Container). program_of x.life.words (x.life.starts + 1)) is

pub makes_start : (p : Prepared) (t : ℕ) (s : State) (c : Container) (program : Program) (empty : List Event) → container_numbered c.number s ≡ Some c → program_of c.life.words (c.life.starts + 1) ≡ Some program
    → p.moment ≡ t → p.plan ≡ Plan.Start c.number (Some program) → p.reply ≡ Answer 204 [] → empty ≡ [] → p.events.items ≡ empty ++ told_launch (Some program) c t → Makes p t s (run c)
makes_start p t s c program empty found named moment plan reply none events =
    let z : State = at_moment t s in
    let is : run c z ≡ done (launch_by_call c.number) z = launched_run c program named z in
    record {
      moment = moment;
      effect = ap (λ q. plan_effect q z) plan ∙ sym (ap (λ (o : Outcome). o.effect) is);
      events = events ∙ (ap (λ l. l ++ told_launch (Some program) c t) none
          ∙ (sym (ap (λ o. told_launch o c t) named) ∙ (sym (start_told c.number z c found) ∙ sym (ap (λ (o : Outcome). o.effect.events) is))));
      reply = reply ∙ sym (ap (λ (o : Outcome). o.reply) is);
      brings = subst (λ q. Brings (need_of q) t s) (sym plan) (λ d at. sym named ∙ same_words c d (sym found ∙ at));
    }
