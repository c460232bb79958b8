-- Where a machine stands on which a journal's steps are made again (own).
use Rattle.std.specs.Prelude.{List, ◌++◌, Option}
use Rattle.std.specs.Option.{option_map}
use Rattle.machine_model.specs.State.{State}
use Rattle.machine_model.specs.History.{Charter, state_from}
use Rattle.engine_text.specs.declared.step.Step.{Step}

-- A history that is kept: its opening, and its steps.
pub record KeptHistory : Type 0 where
  pub charter : Charter
  pub steps : List Step

-- The machine's state, and the history that led there where it is kept; a bare machine keeps none.
pub record Standing : Type 0 where
  pub state : State
  pub kept : Option KeptHistory

-- A kept history behind these steps.
abbrev pub with_steps : List Step → KeptHistory → KeptHistory
with_steps steps h = record h { steps = h.steps ++ steps }

-- Where the machine stands behind these steps.
abbrev pub behind : Standing → List Step → Standing
behind s steps = record { state = state_from s.state steps; kept = option_map (with_steps steps) s.kept }
