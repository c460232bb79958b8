use Rattle.std.proofs.Common.{◌≡◌}
use Rattle.std.specs.VecDeque.{deque_len, deque_capacity}
use Rattle.daemon_shared.specs.Sessions.{told_by}
use Rattle.daemon_shared.specs.Threads.{JoinsSome}
use Rattle.daemon_shared.proofs.session_list.Sessions.join_finished.Given as goal

abbrev pub invariant-loop-number : goal.invariant-loop-number
invariant-loop-number g l =
    JoinsSome g.Q.Seated.seat (told_by g.F.Source.gives g.I.Sink.takes g.T.Clock.times) g.P.Parting.tells l.steps l.initial.self.running.items l.self.running.items
    × (deque_len l.self.running ≡ deque_len l.initial.self.running)
    × (deque_capacity l.self.running ≡ deque_capacity l.initial.self.running)
    × (l.self.ends ≡ l.initial.self.ends)
