use Rattle.std.proofs.Common.{rules}
use Rattle.engine_loop.proofs.LoopLemmas.{ran_back}
use Rattle.engine_loop.proofs.looping.run_loop.Goals as goal

pub run-requires : goal.run-requires
run-requires g c = c.new-all.ensures.can

pub returns-in-Ok-clause-some : goal.returns-in-Ok-clause-some
returns-in-Ok-clause-some g c =
    ran_back g.D.From.PollSource.gives g.D.Into.PollSink.takes g.D.PollDoor.opens g.C.Clock.times c.args.first c.args.limit _ _ _ c.new-all.result c.in-Ok.finished _ _
    c.new-all.ensures c.in-Ok.ensures.gives (search rules) (search rules)
