-- own: when a prepared due step may be committed.
use Rattle.std.specs.Prelude.{◌≡◌, Some}
use Rattle.engine_text.specs.declared.step.DueAction.{DueAction}
use Rattle.engine_text.specs.declared.step.Step.{Step}
use Rattle.machine_model.specs.State.{State}
use Rattle.machine_model.specs.Chain.{Effect}
use Rattle.machine_model.specs.Consistency.{IsConsistent}
use Rattle.machine_model.specs.Due.{due_effect, least_due}
use Rattle.machine_model.specs.History.{after_step}
use Rattle.machine_model.specs.Step.{at_moment}
use Rattle.machine_events.specs.Memory.{standing}
use Rattle.call_plans.specs.Parts.{MachineParts}
use Rattle.container_machine.specs.DuePlans.{due_plan_effect, BringsDue, FitsDue}
use Rattle.container_machine.specs.declared.due.PreparedDue.{PreparedDue}

-- What a due action does at its moment.
abbrev pub due_at : DueAction → State → Effect
due_at d s = due_effect d (at_moment d.moment s)

-- It stands at the action's moment, and is what the action does there.
pub record MakesDue (p : PreparedDue) (due : DueAction) (s : State) : Type 0 where
  pub moment : p.moment ≡ due.moment
  pub effect : due_plan_effect p.plan (at_moment due.moment s) ≡ due_at due s
  pub events : p.events.items ≡ (due_at due s).events
  pub brings : BringsDue p.plan due.moment s

-- It is the least due action, made ready on this machine, whose tables stand as it needs them.
pub record IsForDue (p : PreparedDue) (w : MachineParts) : Type 0 where
  pub due : DueAction
  pub least : least_due w.memory.state ≡ Some due
  pub makes : MakesDue p due w.memory.state
  pub fits : FitsDue p.plan (standing due.moment w.memory)
  pub kept : IsConsistent (after_step w.memory.state Step.Due)
