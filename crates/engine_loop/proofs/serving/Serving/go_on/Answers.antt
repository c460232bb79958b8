use Rattle.std.proofs.Common.{refl}
use Rattle.engine_loop.proofs.AskLemmas.{paused_by}
use Rattle.engine_loop.proofs.PauseLemmas.{pauses_by, waits_by}
use Rattle.engine_loop.proofs.serving.Serving.go_on.Goals as goal

pub returns-then-is_over-clause-goes : goal.returns-then-is_over-clause-goes
returns-then-is_over-clause-goes g c = λ o so. c.poll_all-rest.ensures.goes o (c.accept_all.ensures.goes _ o so)

pub returns-then-is_for_machine-clause-goes : goal.returns-then-is_for_machine-clause-goes
returns-then-is_for_machine-clause-goes g c = λ o so. paused_by g.S.PollSource.gives g.K.PollSink.takes c.poll_all-rest.new.self c.pause.new.self _ _ _ c.pause.ensures.same c.pause.ensures.stood c.pause.ensures.stops o
    (c.poll_all-rest.ensures.goes o (c.accept_all.ensures.goes _ o so))

pub returns-else-is_for_machine-clause-goes : goal.returns-else-is_for_machine-clause-goes
returns-else-is_for_machine-clause-goes g c = λ o so. c.poll_all-rest.ensures.goes o (c.accept_all.ensures.goes _ o so)

pub returns-then-is_for_machine-clause-pauses : goal.returns-then-is_for_machine-clause-pauses
returns-then-is_for_machine-clause-pauses g c = λ not_over o so. pauses_by g.S.PollSource.gives g.K.PollSink.takes c.args.self.now c.accept_all.new.self c.poll_all-rest.new.self _ _ _ _ _ _ _ c.poll_all-rest.result
    c.accept_all.ensures.goes c.accept_all.ensures.stood c.accept_all.ensures.waits c.accept_all.ensures.stop c.poll_all-rest.ensures.polls c.poll_all-rest.ensures.same c.poll_all-rest.ensures.registered o so
    c.pause.new.self _ c.pause.ensures.same c.pause.ensures.stood c.pause.ensures.stops c.pause.ensures.still c.poll_all-rest.ensures.later (c.if-is_for_machine.ensures refl)

pub returns-else-is_for_machine-clause-pauses : goal.returns-else-is_for_machine-clause-pauses
returns-else-is_for_machine-clause-pauses g c = λ not_over o so. waits_by g.S.PollSource.gives g.K.PollSink.takes c.args.self.now c.accept_all.new.self c.poll_all-rest.new.self _ _ _ _ _ _ _ c.poll_all-rest.result
    c.accept_all.ensures.goes c.accept_all.ensures.stood c.accept_all.ensures.waits c.accept_all.ensures.stop c.poll_all-rest.ensures.polls c.poll_all-rest.ensures.same c.poll_all-rest.ensures.registered o so
