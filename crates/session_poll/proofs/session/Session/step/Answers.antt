use Rattle.session_poll.specs.Going.{ports_of}
use Rattle.session_poll.proofs.PollLemmas.{can_open, can_tell, can_wait, can_wait_early}
use Rattle.session_poll.proofs.session.Session.step.Goals as goal

pub wait_on-requires-clause-begun : goal.wait_on-requires-clause-begun
wait_on-requires-clause-begun g c =
    can_wait (g.T.Turns.pass c.args.turns.now).charter c.args.self.now.conn c.args.self.now (g.T.Turns.pass c.args.turns.now).seen
    (ports_of (g.S.PollSource.gives c.args.source.now) (g.K.PollSink.takes c.args.sink.now)) c.in-Waits.ticket c.in-Waits.terms c.in-Waits.is c.requires.stands

pub wait_early_on-requires-clause-begun : goal.wait_early_on-requires-clause-begun
wait_early_on-requires-clause-begun g c =
    can_wait_early (g.T.Turns.pass c.args.turns.now).charter c.args.self.now.conn c.args.self.now (g.T.Turns.pass c.args.turns.now).seen
    (ports_of (g.S.PollSource.gives c.args.source.now) (g.K.PollSink.takes c.args.sink.now)) c.in-WaitsEarly.ticket c.in-WaitsEarly.terms c.in-WaitsEarly.out c.in-WaitsEarly.is
    c.requires.stands

pub returns-in-Reads-clause-steps : goal.returns-in-Reads-clause-steps
returns-in-Reads-clause-steps g c = c.read_on.ensures.steps _ _ _ (g.K.PollSink.takes c.args.sink.now)

pub returns-in-Asks-clause-steps : goal.returns-in-Asks-clause-steps
returns-in-Asks-clause-steps g c = c.ask_on.ensures.steps (ports_of (g.S.PollSource.gives c.args.source.now) (g.K.PollSink.takes c.args.sink.now))

pub returns-in-Waits-clause-steps : goal.returns-in-Waits-clause-steps
returns-in-Waits-clause-steps g c = c.wait_on.ensures.steps (g.S.PollSource.gives c.args.source.now)

pub returns-in-WaitsEarly-clause-steps : goal.returns-in-WaitsEarly-clause-steps
returns-in-WaitsEarly-clause-steps g c = c.wait_early_on.ensures.steps (g.S.PollSource.gives c.args.source.now)

pub returns-in-Sends-clause-steps : goal.returns-in-Sends-clause-steps
returns-in-Sends-clause-steps g c = c.send_on.ensures.steps _ _ _ (g.S.PollSource.gives c.args.source.now)

pub returns-in-Refuses-clause-steps : goal.returns-in-Refuses-clause-steps
returns-in-Refuses-clause-steps g c = c.refuse_on.ensures.steps _ _ _ (g.S.PollSource.gives c.args.source.now)

pub open_on-requires-clause-opens : goal.open_on-requires-clause-opens
open_on-requires-clause-opens g c =
    can_open (g.T.Turns.pass c.args.turns.now).charter c.args.self.now.conn c.args.self.now (g.T.Turns.pass c.args.turns.now).seen
    (ports_of (g.S.PollSource.gives c.args.source.now) (g.K.PollSink.takes c.args.sink.now)) c.in-Opens.call c.in-Opens.terms c.in-Opens.is c.requires.stands

pub stream_on-requires-clause-may : goal.stream_on-requires-clause-may
stream_on-requires-clause-may g c =
    can_tell (g.T.Turns.pass c.args.turns.now).charter c.args.self.now.conn c.args.self.now (g.T.Turns.pass c.args.turns.now).seen
    (ports_of (g.S.PollSource.gives c.args.source.now) (g.K.PollSink.takes c.args.sink.now)) c.in-Streams.reply c.in-Streams.terms c.in-Streams.place c.in-Streams.out
    c.in-Streams.is c.requires.stands

pub returns-in-Opens-clause-steps : goal.returns-in-Opens-clause-steps
returns-in-Opens-clause-steps g c = c.open_on.ensures.steps (ports_of (g.S.PollSource.gives c.args.source.now) (g.K.PollSink.takes c.args.sink.now))

pub returns-in-Streams-clause-steps : goal.returns-in-Streams-clause-steps
returns-in-Streams-clause-steps g c = c.stream_on.ensures.steps (g.S.PollSource.gives c.args.source.now)
