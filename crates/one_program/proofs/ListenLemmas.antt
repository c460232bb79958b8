-- What a loop leaves, as a line's door tells it.
use Rattle.std.proofs.Common.{ℕ, ◌≡◌, ◌⊎◌, Option, Some, None, IfSome, IfNone, inl, inr, refl, subst, sym}
use Rattle.engine_ports.specs.Clock.{ClockView}
use Rattle.engine_ports.specs.Rose.{Rose}
use Rattle.engine_line.specs.declared.line.OneLine.{OneLine}
use Rattle.engine_line.specs.declared.line.Stepping.{Stepping}
use Rattle.session_model.specs.declared.ending.Worst.{Worst}
use Rattle.session_model.specs.declared.ending.Worst.TheVariants.{Fault}
use Rattle.session_model.specs.Pass.{PassView}
use Rattle.daemon_core.specs.Passing.{whole_pass}
use Rattle.daemon_core.specs.declared.daemon.Daemon.{Daemon}
use Rattle.door_model.specs.Connections.{most_from}
use Rattle.polled_ports.specs.PollDoor.{PollDoorView}
use Rattle.engine_loop.specs.Running.{RunsLoop}
use Rattle.engine_serve.specs.OwnClock.{unstopped}
use Rattle.one_program.specs.Listening.{GoesOn, RunnerFails, RunsBy, ServesDoor}

-- the runner failed, or the daemon went on
pub came_of : (line : OneLine) (first : ℕ) (w : Worst) (o : Option Daemon) (p : PassView) (d d' : PollDoorView) (t t' : ClockView) (faults faults' : ℕ)
    → IfNone o ((w ≡ Fault) × Rose faults faults')
    → IfSome o (λ x. RunsBy line.clock first (most_from first line.connections) w p (whole_pass x) d d' t t')
    → RunnerFails w faults faults' ⊎ GoesOn line first p w t t' d d'
came_of line first w None p d d' t t' faults faults' fails ran = inl fails
came_of line first w (Some x) p d d' t t' faults faults' fails ran = inr (x, ran)

-- by the line's clock the handed one isn't asked
pub still_by : (clock : Option Stepping) (stepping : Stepping) (o : Option Daemon) (first most : ℕ) (w : Worst) (p : PassView) (d d' : PollDoorView) (t : ClockView) → clock ≡ Some stepping
    → IfSome o (λ x. RunsLoop first most w p (whole_pass x) d d' unstopped unstopped) → IfSome o (λ x. RunsBy clock first most w p (whole_pass x) d d' t t)
still_by clock stepping None first most w p d d' t is ran = tt
still_by clock stepping (Some x) first most w p d d' t is ran = subst (λ c. RunsBy c first most w p (whole_pass x) d d' t t) (sym is) (refl, ran)

-- a daemon began so, in other words
pub begun_as : (line : OneLine) (first : ℕ) (p p' : PassView) (status : ℕ) (t t' : ClockView) (d d' : PollDoorView) (n n' : ℕ) → p ≡ p'
    → ServesDoor line first p status t t' d d' n n' → ServesDoor line first p' status t t' d d' n n'
begun_as line first p p' status t t' d d' n n' same serves = subst (λ x. ServesDoor line first x status t t' d d' n n') same serves
