use Rattle.std.proofs.Common.{◌≡◌, ◌+◌}
use Rattle.std.specs.Prelude.{None}
use Rattle.futures.specs.Task.{Keeps}
use Rattle.engine_ports.specs.Clock.{ClockView}
use Rattle.engine_loop.specs.Standing.{GoesOn, StandStill}
use Rattle.engine_loop.proofs.serving.Serving.accept_all.Given as goal

abbrev pub invariant-loop : goal.invariant-loop
invariant-loop g l =
    ((t : ClockView) → GoesOn g.S.PollSource.gives g.K.PollSink.takes l.initial.self l.self (g.D.PollDoor.opens l.initial.door) (g.D.PollDoor.opens l.door) t t)
    × (l.self.coming.end ≡ None) × (l.self.coming.left + l.counter ≡ l.end)
    × ((g.D.PollDoor.opens l.door).registered ≡ (g.D.PollDoor.opens l.initial.door).registered)
    × (l.self.stop ≡ l.initial.self.stop) × Keeps l.initial.cx l.cx
    × StandStill g.S.PollSource.gives g.K.PollSink.takes l.initial.self l.self
