use Rattle.std.proofs.Common.{◌≡◌, ◌≤◌}
use Rattle.std.specs.VecDeque.{deque_len, deque_capacity}
use Rattle.daemon_shared.specs.Sessions.{told_by}
use Rattle.daemon_shared.specs.Threads.{LeavesSome}
use Rattle.daemon_shared.proofs.closing.leave_joined.Given as goal

abbrev pub invariant-loop-left : goal.invariant-loop-left
invariant-loop-left g l =
    LeavesSome g.H.Pass.Seated.seat (told_by g.G.From.Source.gives g.G.Into.Sink.takes g.G.Time.Clock.times) g.G.Past.Parting.tells l.steps
    (g.H.Admitting.table l.passes) (g.H.Pass.Seated.seat l.initial.root) (g.H.Pass.Seated.seat l.root) l.initial.sessions.running.items l.sessions.running.items
    l.initial.sessions.ends l.sessions.ends (g.G.OneDoor.opens l.initial.lent) (g.G.OneDoor.opens l.lent)
    × (deque_len l.sessions.running ≤ deque_len l.initial.sessions.running)
    × (deque_capacity l.sessions.running ≡ deque_capacity l.initial.sessions.running)
    × (g.G.OneDoor.which l.lent ≡ g.G.OneDoor.which l.initial.lent)
