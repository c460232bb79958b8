use Rattle.std.proofs.Common.{refl, sym, ◌∙◌}
use Rattle.engine_loop.proofs.LoopLemmas.{again_by, gives_since, gives_taken, holds_by, waits_in}
use Rattle.engine_loop.proofs.looping.Loop.go_on.Goals as goal

pub go_on-requires : goal.go_on-requires
go_on-requires g c = record {
  stands = (_, (holds_by g.D.From.PollSource.gives g.D.Into.PollSink.takes g.D.PollDoor.opens g.T.Ticking.times g.T.Ticking.which c.args.self.now c.in-Some.held c.in-Some.is c.requires).stands);
}

pub returns-then-not-go_on-clause-again : goal.returns-then-not-go_on-clause-again
returns-then-not-go_on-clause-again g c =
    again_by g.D.From.PollSource.gives g.D.Into.PollSink.takes g.D.PollDoor.opens g.T.Ticking.times g.T.Ticking.which c.args.self.now _ c.in-Some.held c.go_on.new.self c.in-Some.is c.requires refl refl
    c.go_on.ensures.lent.0 c.go_on.ensures.lent.1 c.go_on.ensures.goes

pub returns-then-not-go_on-clause-waits : goal.returns-then-not-go_on-clause-waits
returns-then-not-go_on-clause-waits g c =
    waits_in g.D.From.PollSource.gives g.D.Into.PollSink.takes g.D.PollDoor.opens g.T.Ticking.times g.T.Ticking.which _ c.args.self.now _ c.in-Some.held c.go_on.new.self c.in-Some.is c.requires refl
    (c.if-not-go_on.ensures.pauses refl)

pub returns-then-not-go_on-clause-same : goal.returns-then-not-go_on-clause-same
returns-then-not-go_on-clause-same g c = λ x given.
    gives_since g.D.From.PollSource.gives g.D.Into.PollSink.takes g.D.PollDoor.opens g.T.Ticking.times g.T.Ticking.which c.args.self.now _ x refl given

pub returns-clause-value : goal.returns-clause-value
returns-clause-value g c =
    gives_taken g.D.From.PollSource.gives g.D.Into.PollSink.takes g.D.PollDoor.opens g.T.Ticking.times g.T.Ticking.which c.args.self.now c.in-Some.held c.go_on.new.self c.in-Some-take.held _ c.in-Some.is c.requires
    (sym c.take.ensures.value ∙ c.in-Some-take.is) c.go_on.ensures.lent c.go_on.ensures.goes (c.if-not-go_on.ensures.over refl) c.finish.ensures.worst c.finish.ensures.daemon c.finish.ensures.lent
