-- What asking for a part of a stream says of the history (own).
use Rattle.std.specs.Prelude.{ℕ, List}
use Rattle.engine_text.specs.declared.step.Step.{Step}
use Rattle.machine_model.specs.History.{Charter, moment_used, DuesUntil, SomeDues}
use Rattle.machine_model.specs.State.{State}
use Rattle.session_model.specs.Pass.{PassView}
use Rattle.session_model.specs.Turning.{Turns, found}
use Rattle.session_model.specs.declared.turned.Part.{Part}
use Rattle.session_model.specs.declared.turned.Part.TheVariants.{NoMemory}

-- behind all that is due; without memory, behind some of it
abbrev pub PartDues : State → ℕ → Part → List Step → Type 0
PartDues s moment NoMemory own = SomeDues s moment own
PartDues s moment part own = DuesUntil s moment own

-- a part was asked for, and tells that of the history; no call was made
pub record PartTurn (k handed : ℕ) (part : Part) (told : Charter → List Step → Type 0) (p q : PassView) : Type 0 where
  pub turns : Turns k p q
  pub dues : PartDues (found k p q turns) (moment_used (found k p q turns) handed) part turns.own
  pub says : told p.charter q.seen
