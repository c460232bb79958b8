use Rattle.std.proofs.Common.{refl, sym, subst}
use Rattle.daemon_core.specs.Passing.{alone_pass}
use Rattle.session_model.specs.Pass.{IsConnection}
use Rattle.session_poll.specs.Standing.{CanPoll}
use Rattle.engine_loop.specs.Standing.{ports_in}
use Rattle.engine_loop.proofs.AskLemmas.{polls_as}
use Rattle.engine_loop.proofs.connection.Connection.poll.Goals as goal

pub poll-requires-clause-connection : goal.poll-requires-clause-connection
poll-requires-clause-connection g c = subst IsConnection (sym c.requires.conn) c.requires.connection

pub poll-requires-clause-stands : goal.poll-requires-clause-stands
poll-requires-clause-stands g c = subst
    (λ n. CanPoll (alone_pass c.args.turns.now).charter n c.args.self.now.session (alone_pass c.args.turns.now).seen (ports_in g.S.PollSource.gives g.K.PollSink.takes c.args.self.now.conn))
    (sym c.requires.conn) c.requires.stands

pub returns-clause-polls : goal.returns-clause-polls
returns-clause-polls g c = (c.now-handed.result, c.now-handed.ensures.handed, refl, refl, c.poll.ensures.conn, polls_as _ _ _ _ _ _ _ _ _ _ _ c.requires.conn c.poll.ensures.polls)
