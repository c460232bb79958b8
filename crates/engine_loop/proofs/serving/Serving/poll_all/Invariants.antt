use Rattle.std.proofs.Common.{◌≡◌, ◌+◌, ◌≤◌, ◌⊎◌, ℕ, List}
use Rattle.std.specs.VecDeque.{deque_items, deque_len}
use Rattle.futures.specs.Task.{IsArmed, Keeps}
use Rattle.session_poll.specs.Standing.{IsWoken}
use Rattle.engine_loop.specs.Pausing.{Served}
use Rattle.engine_loop.specs.Standing.{AllStood, GoesOn, IsInPoll, Serves, Start}
use Rattle.engine_loop.proofs.serving.Serving.poll_all.Given as goal

abbrev pub invariant-loop : goal.invariant-loop
invariant-loop g l =
    GoesOn g.S.PollSource.gives g.K.PollSink.takes l.initial.self l.self (g.D.PollDoor.opens l.initial.door) (g.D.PollDoor.opens l.door)
    (g.C.Ticking.times l.initial.clock) (g.C.Ticking.times l.clock)
    × (l.end ≤ deque_len l.self.connections + l.counter) × ((deque_len l.self.connections + l.counter ≡ l.end) ⊎ IsArmed l.cx)
    × (l.self.coming ≡ l.initial.self.coming) × (l.self.stop ≡ l.initial.self.stop)
    × ((g.D.PollDoor.opens l.door).registered ≡ (g.D.PollDoor.opens l.initial.door).registered) × Keeps l.initial.cx l.cx
    × (g.C.Ticking.which l.clock ≡ g.C.Ticking.which l.initial.clock)
    × ((o : Start) (before : List Served) → Serves g.S.PollSource.gives g.K.PollSink.takes o l.initial.self (g.D.PollDoor.opens l.initial.door) (g.C.Ticking.times l.initial.clock)
    → AllStood g.S.PollSource.gives g.K.PollSink.takes before (deque_items l.initial.self.connections) → (left : ℕ) → left + l.counter ≡ l.end
    → IsInPoll g.S.PollSource.gives g.K.PollSink.takes o (IsWoken l.cx) before l.rest left l.self (g.D.PollDoor.opens l.door) (g.C.Ticking.times l.clock))
    × ((g.C.Ticking.times l.initial.clock).stops ≤ (g.C.Ticking.times l.clock).stops)
