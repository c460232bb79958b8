use Rattle.std.proofs.Common.{refl, ◌∙◌, ap}
use Rattle.door_model.specs.Worsts.{worse_of}
use Rattle.engine_loop.proofs.AskLemmas.{front_number}
use Rattle.engine_loop.proofs.FirstLemmas.{done_by, pending_by}
use Rattle.engine_loop.proofs.FrontLemmas.{done_in, pending_in}
use Rattle.futures.specs.Task.{Lasting}
use Rattle.engine_loop.proofs.serving.Serving.poll_first.Goals as goal

pub poll-requires-clause-connection : goal.poll-requires-clause-connection
poll-requires-clause-connection g c =
    front_number g.S.PollSource.gives g.K.PollSink.takes _ _ _ c.in-Some.connection _ _ _ _ _ _ c.in-Some.ensures.items c.requires.stands.1

pub returns-in-Pending-clause-goes : goal.returns-in-Pending-clause-goes
returns-in-Pending-clause-goes g c = pending_by g.S.PollSource.gives g.K.PollSink.takes c.args.self.now c.in-Some.connection c.poll.new.self c.has_moved.new.self _ _ c.poll.new.turns _ _ _ c.in-Pending.cause _
    c.in-Some.ensures.items c.in-Pending.ensures.polls c.has_moved.ensures.source c.has_moved.ensures.sink c.push_back_reserved.ensures.items

pub returns-in-Done-clause-goes : goal.returns-in-Done-clause-goes
returns-in-Done-clause-goes g c = done_by g.S.PollSource.gives g.K.PollSink.takes c.args.self.now c.in-Some.connection c.poll.new.self _ _ c.poll.new.turns _ (g.D.PollDoor.opens c.args.door.now) (g.D.PollDoor.opens c.leave.new.door) _ _
    c.in-Done.ending _ c.in-Some.ensures.items c.in-Done.ensures.polls (c.worse_of-self.ensures ∙ ap (λ y. worse_of c.args.self.now.worst y) c.called_by.ensures) c.leave.ensures.0 refl

pub returns-in-Pending-clause-polls : goal.returns-in-Pending-clause-polls
returns-in-Pending-clause-polls g c = pending_in g.S.PollSource.gives g.K.PollSink.takes c.args.self.now c.in-Some.connection c.poll.new.self c.has_moved.new.self _ _ c.poll.new.turns _ _ _ c.in-Pending.cause _ _
    c.in-Some.ensures.items c.in-Pending.ensures.polls c.has_moved.ensures.source c.has_moved.ensures.sink c.push_back_reserved.ensures.items
    c.rest_of-rest.result c.rest_of-rest.ensures (λ w n. c.poll.ensures.kept (Lasting.hears n) (w n))

pub returns-in-Done-clause-polls : goal.returns-in-Done-clause-polls
returns-in-Done-clause-polls g c = done_in g.S.PollSource.gives g.K.PollSink.takes c.args.self.now c.in-Some.connection c.poll.new.self _ _ c.poll.new.turns _ (g.D.PollDoor.opens c.args.door.now) (g.D.PollDoor.opens c.leave.new.door) _ _
    c.in-Done.ending _ _ c.in-Some.ensures.items c.in-Done.ensures.polls (c.worse_of-self.ensures ∙ ap (λ y. worse_of c.args.self.now.worst y) c.called_by.ensures) c.leave.ensures.0 refl
    (λ w n. c.poll.ensures.kept (Lasting.hears n) (w n))

pub returns-in-Pending-clause-later : goal.returns-in-Pending-clause-later
returns-in-Pending-clause-later g c = c.in-Pending.ensures.polls.1.stops

pub returns-in-Done-clause-later : goal.returns-in-Done-clause-later
returns-in-Done-clause-later g c = c.in-Done.ensures.polls.1.stops
