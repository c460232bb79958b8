-- What a loop is between two of its polls, and what it gives (own).
use Rattle.std.specs.Prelude.{ℕ, ◌≡◌, Option, Some}
use denote.Ref.{MutBor}
use Rattle.engine_ports.specs.Clock.{ClockView}
use Rattle.session_model.specs.Pass.{PassView}
use Rattle.door_model.specs.Connections.{most_from}
use Rattle.daemon_core.specs.Passing.{alone_pass, whole_pass}
use Rattle.polled_ports.specs.PollDoor.{PollDoorView}
use Rattle.polled_ports.specs.PollSource.{PollSourceView}
use Rattle.polled_ports.specs.PollSink.{PollSinkView}
use Rattle.engine_loop.specs.Pausing.{PausesLoop}
use Rattle.engine_loop.specs.Running.{RunsLoop}
use Rattle.engine_loop.specs.Standing.{Serves, Start, run_by, view_by}
use Rattle.engine_loop.specs.declared.looping.Finished.{Finished}
use Rattle.engine_loop.specs.declared.looping.Held.{Held}
use Rattle.engine_loop.specs.declared.looping.Loop.{Loop}

module _ {S K D C : Type 0} (gives : S → PollSourceView) (takes : K → PollSinkView) (opens : D → PollDoorView) (times : C → ClockView) (which : C → ℕ) where
  -- how it began, of what it held then
  abbrev pub start_of : Held D C S K → Start
  start_of h = record {
    first = h.serving.coming.next;
    most = h.serving.coming.left;
    pass = alone_pass h.serving.turns;
    door = opens h.door.now;
    clock = times h.clock;
  }

  -- it holds the door and the clock that it was lent, and stands as a loop does that began so
  pub record CanPollLoop (l : Loop D C S K) : Type 0 where
    pub h : Held D C S K
    pub holds : l.held ≡ Some h
    pub door : h.door.ghost_name ≡ l.began.value.door.ghost_name
    pub clock : which h.clock ≡ which l.began.value.clock
    pub stands : Serves gives takes (start_of l.began.value) h.serving (opens h.door.now) (times h.clock)

  -- nothing was done yet: it numbers from the first on, over this daemon, door and clock
  pub record BeginsLoop (first : ℕ) (limit : Option ℕ) (p : PassView) (door : MutBor D) (clock : C) (l : Loop D C S K) : Type 0 where
    pub can : CanPollLoop l
    pub first_is : l.began.value.serving.coming.next ≡ first
    pub most : l.began.value.serving.coming.left ≡ most_from first limit
    pub pass : alone_pass l.began.value.serving.turns ≡ p
    pub door_is : l.began.value.door ≡ door
    pub clock_is : l.began.value.clock ≡ clock

  -- it gives the door and the clock back, and the daemon, as its run left them
  pub record GivesLoop (l : Loop D C S K) (f : Finished D C S K) : Type 0 where
    pub door : f.door.ghost_name ≡ l.began.value.door.ghost_name
    pub clock : which f.clock ≡ which l.began.value.clock
    pub runs : RunsLoop l.began.value.serving.coming.next l.began.value.serving.coming.left f.worst (alone_pass l.began.value.serving.turns) (whole_pass f.daemon)
        (opens l.began.value.door.now) (opens f.door.now) (times l.began.value.clock) (times f.clock)

  -- a poll of it wasn't ready: it waits, as a loop does that began so
  pub record LoopWaits (woken : Type 0) (l l' : Loop D C S K) : Type 0 where
    pub was : Held D C S K
    pub held : l.held ≡ Some was
    pub h : Held D C S K
    pub holds : l'.held ≡ Some h
    pub stands : Serves gives takes (start_of l.began.value) h.serving (opens h.door.now) (times h.clock)
    pub pauses : PausesLoop (run_by (start_of l.began.value) stands.added stands.moments (times h.clock)) woken
        (view_by gives takes was.serving (opens was.door.now) (times was.clock))
        (view_by gives takes h.serving (opens h.door.now) (times h.clock))
