-- What a poll of a loop leaves that isn't ready: each session that is left waits. own: the one-thread daemon of this project.
use Rattle.std.specs.Prelude.{ℕ, ◌≡◌, ◌⊎◌, Bool, List, [], ◌∷◌, ◌++◌, Contains, IsTrue}
use Rattle.engine_ports.specs.Rose.{Rose}
use Rattle.engine_ports.specs.Clock.{ClockView}
use Rattle.engine_ports.specs.Door.{Outside}
use Rattle.engine_text.specs.declared.step.Step.{Step}
use Rattle.session_model.specs.Exchange.{IsQuiet}
use Rattle.session_model.specs.Session.{Span}
use Rattle.polled_ports.specs.PollDoor.{PollDoorView, untimed}
use Rattle.polled_model.specs.declared.polled.Cause.{Cause}
use Rattle.polled_model.specs.Polls.{PausesFor, Ports, Told, grown}
use Rattle.polled_model.specs.Progress.{IsProgress}
use Rattle.engine_loop.specs.Lives.{Lives, Run, history}

-- a connection that is served: its number, what came with it, and what its source and its sink tell
pub record Served : Type 0 where
  pub number : ℕ
  pub came : Outside
  pub now : Ports

-- so its source and its sink stood before this poll; or so they came in it
abbrev pub StoodSo : List Served → Served → Ports → Type 0
StoodSo before x was = Contains before (record x { now = was }) ⊎ (untimed was.source was.sink ≡ x.came)

-- a session was polled once, which found it where it began: since then it has read and written so much, and made these calls. It waits
-- for this cause, and since the poll there are steps of others alone
pub record Waits (r : Run) (woken : Type 0) (before : List Served) (cause : Cause) (x : Served) : Type 0 where
  pub s : Span
  pub lives : Lives r x.number x.came x.now (record s { to = history r })
  pub progress : IsProgress r.charter x.number s
  pub quiet : IsQuiet x.number s.to (history r)
  pub was : Ports
  pub stood : StoodSo before x was
  pub told : Told
  pub handed : Contains r.moments told.handed
  pub began : Span
  pub read : List ℕ
  pub written : List ℕ
  pub moments : List ℕ
  pub grew : s ≡ grown began read written moments s.to told.stop x.now
  pub own : List Step
  pub polled : s.to ≡ began.to ++ own
  pub pauses : PausesFor cause r.charter x.number told woken own was x.now began s

-- each of these does, for its cause
abbrev pub AllWait : Run → Type 0 → List Served → List Cause → List Served → Type 0
AllWait r woken before [] [] = Unit {0}
AllWait r woken before (c ∷ cs) (x ∷ xs) = Waits r woken before c x × AllWait r woken before cs xs
AllWait r woken before cs xs = ⊥

-- what a loop is between two polls: whom it serves, whether one more may come, whether it stops, and its door and clock
pub record LoopView : Type 0 where
  pub served : List Served
  pub takes_more : Bool
  pub stop : Bool
  pub door : PollDoorView
  pub clock : ClockView

-- a loop waits: each session that is left does; where one more may come the door registered in this poll; and it stops from now on only
-- where it paused, since a session waits for the machine, and its clock was stopped
pub record PausesLoop (r : Run) (woken : Type 0) (v v' : LoopView) : Type 0 where
  pub causes : List Cause
  pub waits : AllWait r woken v.served causes v'.served
  pub door : IsTrue v'.takes_more → Rose v.door.registered v'.door.registered
  pub still : IsTrue v.stop → IsTrue v'.stop
  pub stops : IsTrue v'.stop → IsTrue v.stop ⊎ (Rose v.clock.stops v'.clock.stops × Contains causes Cause.NotYet)
