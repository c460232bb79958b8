use Rattle.std.specs.Prelude.{◌≡◌}
use Rattle.futures.specs.Task.{Keeps}
use Rattle.session_poll.specs.Going.{HasGone, HasTold, ports_of}
use Rattle.session_poll.specs.Left.{left_of}
use Rattle.session_poll.proofs.session.Session.poll.Given as goal

abbrev pub invariant-more : goal.invariant-more
invariant-more g l = record {
  gone : HasGone (g.T.Turns.pass l.fn.turns).charter l.fn.self.conn (record { handed = l.fn.handed; stop = l.fn.stop }) l.fn.self l.self
      (g.T.Turns.pass l.fn.turns) (g.T.Turns.pass l.turns)
      (ports_of (g.S.PollSource.gives l.fn.source) (g.K.PollSink.takes l.fn.sink)) (ports_of (g.S.PollSource.gives l.source) (g.K.PollSink.takes l.sink)) l.budget;
  told : HasTold l.fn.self.state l.self.state l.budget;
  conn : l.self.conn ≡ l.fn.self.conn;
  kept : Keeps l.fn.cx l.cx;
}

abbrev pub decreases-more : goal.decreases-more
decreases-more g l = left_of l.self l.budget
