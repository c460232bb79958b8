use Rattle.std.proofs.Common.{refl}
use Rattle.engine_loop.proofs.LoopLemmas.{begins_by}
use Rattle.engine_loop.proofs.looping.Loop.new.Goals as goal

pub returns : goal.returns
returns g c = begins_by g.D.From.PollSource.gives g.D.Into.PollSink.takes g.D.PollDoor.opens g.T.Ticking.times g.T.Ticking.which c.args.first c.args.limit _ _ _ _ _ refl c.of-began.ensures
    c.new-2.ensures.items c.new-3.ensures refl refl c.new.ensures refl refl
