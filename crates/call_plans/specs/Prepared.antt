-- own: when a prepared call may be committed.
use Rattle.std.specs.Prelude.{ℕ}
use Rattle.engine_text.specs.declared.call.Call.{Call}
use Rattle.engine_text.specs.declared.step.Step.{Step}
use Rattle.machine_model.specs.Call.{outcome_of}
use Rattle.machine_model.specs.Consistency.{IsConsistent}
use Rattle.machine_model.specs.History.{after_step}
use Rattle.machine_events.specs.Memory.{standing}
use Rattle.call_plans.specs.Making.{Makes}
use Rattle.call_plans.specs.Needs.{Fits}
use Rattle.call_plans.specs.Parts.{MachineParts}
use Rattle.call_plans.specs.Plans.{need_of}
use Rattle.call_plans.specs.declared.prepared.Prepared.{Prepared}

-- A connection's call at a moment.
pub record Asked : Type 0 where
  pub connection : ℕ
  pub moment : ℕ
  pub call : Call

-- The same, of its parts.
abbrev pub asked_by : ℕ → ℕ → Call → Asked
asked_by connection moment c = record { connection = connection; moment = moment; call = c }

-- As a step.
abbrev pub step_of_call : Asked → Step
step_of_call a = Step.Call a.connection a.moment a.call

-- It is that call, made ready on this machine, whose tables stand as it needs them.
pub record IsFor (p : Prepared) (w : MachineParts) (a : Asked) : Type 0 where
  pub makes : Makes p a.moment w.memory.state (outcome_of a.call a.connection)
  pub fits : Fits (need_of p.plan) (standing a.moment w.memory)
  pub kept : IsConsistent (after_step w.memory.state (step_of_call a))

-- It is some call, made ready on this machine.
abbrev pub IsForSome : Prepared → MachineParts → Type 0
IsForSome p w = (a : Asked) × IsFor p w a
