-- A restart that is made ready is the restart's outcome.
use Rattle.std.proofs.Common.{◌≡◌, ℕ, ◌+◌, List, [], ◌++◌, Option, Some, None, refl, ap, sym, ◌∙◌, subst}
use Rattle.std.specs.Prelude.{Result, Ok, Err, IfOk}
use Rattle.api_json.specs.Values.{first_word}
use Rattle.engine_text.specs.Scripts.{Program}
use Rattle.engine_text.specs.declared.container.Container.{Container}
use Rattle.engine_text.specs.declared.event.Action.{Action}
use Rattle.engine_text.specs.declared.event.Event.{Event}
use Rattle.engine_text.specs.declared.memory.NoMemory.{NoMemory}
use Rattle.engine_text.specs.declared.reply.Reply.TheVariants.{Answer}
use Rattle.proc_kernel.specs.Catalogue.{program_of}
use Rattle.proc_kernel.proofs.StartsLemmas.{is_program, program_alike}
use Rattle.machine_model.specs.Calls.Restart.{launch_again, run}
use Rattle.machine_model.specs.Calls.Start.{if_program}
use Rattle.machine_model.specs.Effects.Cancel.{cancel_restart, cancelled}
use Rattle.machine_model.specs.Effects.Launch.{afresh, launch_by_call}
use Rattle.machine_model.specs.EventTexts.{plain_event}
use Rattle.machine_model.specs.Chain.{Died, tell_of}
use Rattle.machine_model.specs.Outcome.{Outcome, answers, done, message_text}
use Rattle.machine_model.specs.Refusals.{unknown_command}
use Rattle.machine_model.specs.State.{State, container_numbered, change_life, clear_timer}
use Rattle.machine_model.specs.Step.{at_moment}
use Rattle.machine_events.specs.Fit.{CanLaunch}
use Rattle.machine_events.specs.ToldCalls.{told_again}
use Rattle.container_table.specs.declared.life_change.LifeChange.{LifeChange}
use Rattle.container_table.specs.declared.rank.Rank.{Rank}
use Rattle.machine_events.proofs.CallToldLemmas.{again_told, restarting_again_told}
use Rattle.machine_events.proofs.DiedLemmas.{none_launch}
use Rattle.machine_events.proofs.DiedToldLemmas.{none_told}
use Rattle.machine_events.proofs.SettleLemmas.{launch_alike, launch_renew}
use Rattle.call_plans.specs.Calls.Restart.{restart_restarting_effect}
use Rattle.call_plans.specs.Making.{IsAnswer, Makes}
use Rattle.call_plans.specs.Needs.{Brings}
use Rattle.call_plans.specs.Plans.{plan_effect, need_of}
use Rattle.call_plans.specs.declared.plan.Plan.{Plan}
use Rattle.call_plans.specs.declared.prepared.Prepared.{Prepared}
use Rattle.changing_calls.proofs.StartLemmas.{made_answer, none_is, same_words, some_is}

-- ---- whose end it tells

nothing_both : (a b : List Died) → a ≡ [] → b ≡ [] → [] ≡ a ++ b
nothing_both a b e h = rw (e, h) refl

pub none_again : (n : ℕ) (s : State) → [] ≡ (launch_again n s).died
none_again n s =
    nothing_both (launch_by_call n s).died (tell_of (plain_event Action.Restart) n (launch_by_call n s).state).died
    (none_launch n (change_life n afresh s)) (none_told (plain_event Action.Restart) n (launch_by_call n s).state)

pub none_restarting : (n : ℕ) (s : State) → [] ≡ (restart_restarting_effect n s).died
none_restarting n s = none_again n (change_life n cancelled (clear_timer Rank.RestartTimer n s))

-- the container may be launched behind it
pub launch_cancelled : (n : ℕ) (script : Option Program) (s a : State) → a ≡ (cancel_restart n s).state → CanLaunch n script s → CanLaunch n script a
launch_cancelled n script s a e h =
    subst (λ (z : State). CanLaunch n script z) (sym e)
    (launch_renew n script LifeChange.Cancelled (clear_timer Rank.RestartTimer n s) (launch_alike n script s (clear_timer Rank.RestartTimer n s) refl refl h))

-- ---- words that name no program

refused_run : (c : Container) → program_of c.life.words (c.life.starts + 1) ≡ None → (z : State) → run c z ≡ answers 400 (message_text (unknown_command (first_word c.life.words))) z
refused_run c e z =
    ap (λ o. if_program o c.life.words (done (launch_again c.number)) z) (none_is (program_of c.life.words 1) (program_alike c.life.words 1 (c.life.starts + 1) ∙ ap is_program e))

pub refused_restart : (r : Result Prepared NoMemory) (t : ℕ) (s : State) (c : Container) (text : List ℕ) → text ≡ unknown_command (first_word c.life.words) → program_of c.life.words (c.life.starts + 1) ≡ None
    → IfOk r (λ p. IsAnswer t 400 (message_text text) p) → IfOk r (λ p. Makes p t s (run c))
refused_restart (Ok p) t s c text is none a = made_answer p t s (run c) 400 (message_text text) a (λ z. refused_run c none z ∙ ap (λ x. answers 400 (message_text x) z) (sym is))
refused_restart (Err e) t s c text is none a = tt

-- ---- a launch

launched_run : (c : Container) (program : Program) → program_of c.life.words (c.life.starts + 1) ≡ Some program → (z : State) → run c z ≡ done (launch_again c.number) z
launched_run c program e z =
    let one = some_is (program_of c.life.words 1) (program_alike c.life.words 1 (c.life.starts + 1) ∙ ap is_program e) in
    ap (λ o. if_program o c.life.words (done (launch_again c.number)) z) one.1

pub makes_restart : (p : Prepared) (t : ℕ) (s : State) (c : Container) (program : Program) (empty : List Event) → container_numbered c.number s ≡ Some c → program_of c.life.words (c.life.starts + 1) ≡ Some program
    → p.moment ≡ t → p.plan ≡ Plan.Restart c.number (Some program) → p.reply ≡ Answer 204 [] → empty ≡ [] → p.events.items ≡ empty ++ told_again (Some program) c t → Makes p t s (run c)
makes_restart p t s c program empty found named moment plan reply none events =
    let z : State = at_moment t s in
    let is : run c z ≡ done (launch_again c.number) z = launched_run c program named z in
    record {
      moment = moment;
      effect = ap (λ q. plan_effect q z) plan ∙ sym (ap (λ (o : Outcome). o.effect) is);
      events = events ∙ (ap (λ l. l ++ told_again (Some program) c t) none
          ∙ (sym (ap (λ o. told_again o c t) named) ∙ (sym (again_told c.number z c found) ∙ sym (ap (λ (o : Outcome). o.effect.events) is))));
      reply = reply ∙ sym (ap (λ (o : Outcome). o.reply) is);
      brings = subst (λ q. Brings (need_of q) t s) (sym plan) (λ d at. sym named ∙ same_words c d (sym found ∙ at));
    }

pub makes_restarting : (p : Prepared) (t : ℕ) (s : State) (c : Container) (script : Option Program) (empty : List Event) → container_numbered c.number s ≡ Some c → script ≡ program_of c.life.words (c.life.starts + 1)
    → p.moment ≡ t → p.plan ≡ Plan.RestartRestarting c.number script → p.reply ≡ Answer 204 [] → empty ≡ [] → p.events.items ≡ empty ++ told_again script c t → Makes p t s (done (restart_restarting_effect c.number))
makes_restarting p t s c script empty found named moment plan reply none events =
    let z : State = at_moment t s in
    record {
      moment = moment;
      effect = ap (λ q. plan_effect q z) plan;
      events = events ∙ (ap (λ l. l ++ told_again script c t) none ∙ (ap (λ o. told_again o c t) named ∙ sym (restarting_again_told c.number z c found)));
      reply = reply;
      brings = subst (λ q. Brings (need_of q) t s) (sym plan) (λ d at. named ∙ same_words c d (sym found ∙ at));
    }
