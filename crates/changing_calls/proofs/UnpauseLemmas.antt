-- An unpause that is made ready is the unpause's outcome.
use Rattle.std.proofs.Common.{◌≡◌, ℕ, List, [], ◌++◌, Option, Some, refl, ap, sym, ◌∙◌, subst}
use Rattle.engine_text.specs.declared.container.Container.{Container}
use Rattle.engine_text.specs.declared.event.Event.{Event}
use Rattle.engine_text.specs.declared.owner.Owner.{Owner}
use Rattle.engine_text.specs.declared.reply.Reply.TheVariants.{Answer}
use Rattle.engine_text.specs.declared.status.Status.{Status}
use Rattle.proc_kernel.specs.Foretelling.{code_at}
use Rattle.proc_kernel.specs.Processes.{thaw}
use Rattle.proc_kernel.specs.Tables.{process_of}
use Rattle.machine_model.specs.Consistency.{IsConsistent}
use Rattle.machine_model.specs.Effects.Meet.{thaw_container}
use Rattle.machine_model.specs.Outcome.{done}
use Rattle.machine_model.specs.State.{State, container_numbered}
use Rattle.machine_model.specs.Step.{at_moment}
use Rattle.machine_events.specs.ToldMeet.{told_meet}
use Rattle.machine_events.specs.declared.end_memory.EndMemory.{EndMemory}
use Rattle.machine_events.proofs.CallToldLemmas.{unpause_told}
use Rattle.machine_events.proofs.DiedToldLemmas.{unpause_died}
use Rattle.call_plans.specs.Making.{Makes}
use Rattle.call_plans.specs.Needs.{Brings}
use Rattle.call_plans.specs.Plans.{plan_effect, need_of}
use Rattle.call_plans.specs.RunEnds.{IsEndMemory}
use Rattle.call_plans.specs.declared.plan.Plan.{Plan}
use Rattle.call_plans.specs.declared.prepared.Prepared.{Prepared}
use Rattle.call_plans.proofs.MakeLemmas.{once_at}
use Rattle.call_plans.proofs.RunEndLemmas.{meet_next, own_script, script_for, serves_end}

pub makes_unpause : (p : Prepared) (t : ℕ) (s : State) (c : Container) (code : Option ℕ) (brought : EndMemory) (empty : List Event)
    → IsConsistent s → container_numbered c.number s ≡ Some c → c.life.status ≡ Status.Paused
    → ((u : ℕ) → code ≡ code_at (thaw u) (process_of (Owner.Container c.number) s.processes))
    → p.moment ≡ t → p.plan ≡ Plan.Unpause c.number brought → IsEndMemory code c.life.goal c.number c s brought → p.reply ≡ Answer 204 [] → empty ≡ [] → p.events.items ≡ empty ++ told_meet Status.Paused code c.number c brought.script (at_moment t s)
    → Makes p t s (done (thaw_container c.number))
makes_unpause p t s c code brought empty k found paused is moment plan of reply none events =
    let z : State = at_moment t s in
    record {
      moment = moment;
      effect = ap (λ q. plan_effect q z) plan;
      events = events ∙ (ap (λ l. l ++ told_meet Status.Paused code c.number c brought.script z) none
          ∙ (meet_next Status.Paused code c.number c brought.script z (script_for code c.number c s brought of)
          ∙ sym (unpause_told c.number z c (own_script c) code found paused refl (once_at t s k) (is t))));
      reply = reply;
      brings = subst (λ q. Brings (need_of q) t s) (sym plan)
          (serves_end code c.number c.life.goal c c s z brought (thaw_container c.number z).died (unpause_died c.number z code (is t)) of found refl refl refl, tt);
    }
