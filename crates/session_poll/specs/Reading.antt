-- A step that takes bytes which were read (own: it touches no port, and takes no turn).
use Rattle.std.specs.Prelude.{ℕ}
use Rattle.machine_model.specs.History.{Charter}
use Rattle.session_model.specs.Pass.{PassView}
use Rattle.polled_model.specs.Polls.{Ports, Told}
use Rattle.session_poll.specs.Going.{Steps, TellsBy}
use Rattle.session_poll.specs.Left.{LeavesLess}
use Rattle.session_poll.specs.declared.budget.Budget.{Budget}
use Rattle.session_poll.specs.declared.session.Session.{Session}
use Rattle.session_poll.specs.declared.state.State.{State}
use Rattle.session_poll.specs.declared.state.Step.{Step as Came}
use Rattle.session_poll.specs.declared.state.Step.TheVariants as came

-- whatever the pass, the ports and the budget
abbrev pub StepsAlone : ℕ → Came → Session → Session → Type 0
StepsAlone k result x x' =
    (ch : Charter) (told : Told) (p : PassView) (v : Ports) (b : Budget) → Steps ch k told result x x' p p v v b b

abbrev pub LeavesLessAlone : Came → Session → Session → Type 0
LeavesLessAlone result x x' = (b : Budget) → LeavesLess result x x' b b

abbrev pub TellsAlone : State → State → Type 0
TellsAlone state state' = (b : Budget) → TellsBy state state' b b

-- it waits for nothing
abbrev pub NeverPauses : Came → Type 0
NeverPauses (came.Pauses cause) = ⊥
NeverPauses result = Unit {0}
