use Rattle.std.proofs.Common.{Option, Some, None, subst}
use Rattle.health_watch.specs.declared.outcome.ProbeResult.{ProbeResult}
use Rattle.health_watch.specs.Probes.{probe_of}
use Rattle.health_watch.specs.Reaching.{NextOf}
use Rattle.health_watch.proofs.WatchLemmas.{changes, goes_on, sized_behind, fewer_left}
use Rattle.health_watch.proofs.reached.Reached.advance.Goals as goal

pub returns-in-Some-take-clause-found : goal.returns-in-Some-take-clause-found
returns-in-Some-take-clause-found c marks place cs from since at rise low =
    changes c.args.spec.now marks place c.loop-found.self c.take.new.self cs c.in-Some-take.change from since c.args.limit c.in-Some.found c.requires.timed rise
    (c.loop-found.invariant.went marks place cs from since at rise low)
    (subst (λ (o : Option ProbeResult). NextOf c.args.limit (probe_of c.args.spec.now) c.loop-found.self.run o) c.in-Some.is c.in_ok-found.ensures)
    c.in-Some-take.ensures

pub returns-in-Some-take-clause-sized : goal.returns-in-Some-take-clause-sized
returns-in-Some-take-clause-sized c =
    sized_behind c.args.spec.now c.loop-found.self c.take.new.self (Some c.in-Some-take.change) c.args.limit c.in-Some.found c.loop-found.invariant.sized
    (subst (λ (o : Option ProbeResult). NextOf c.args.limit (probe_of c.args.spec.now) c.loop-found.self.run o) c.in-Some.is c.in_ok-found.ensures)
    c.in-Some-take.ensures

pub loop-found-preserved : goal.loop-found-preserved
loop-found-preserved c =
    let next = subst (λ (o : Option ProbeResult). NextOf c.args.limit (probe_of c.args.spec.now) c.loop-found.self.run o) c.in-Some.is c.in_ok-found.ensures in
    record {
      went = λ marks place cs from since at rise low.
          goes_on c.args.spec.now marks place c.loop-found.self c.take.new.self cs from since c.args.limit c.in-Some.found c.requires.timed rise
          (c.loop-found.invariant.went marks place cs from since at rise low) next c.in_default-take.ensures;
      sized = sized_behind c.args.spec.now c.loop-found.self c.take.new.self None c.args.limit c.in-Some.found c.loop-found.invariant.sized next c.in_default-take.ensures;
    }

pub loop-found-smaller : goal.loop-found-smaller
loop-found-smaller c =
    fewer_left c.args.spec.now c.loop-found.self c.take.new.self None c.args.limit c.in-Some.found
    (subst (λ (o : Option ProbeResult). NextOf c.args.limit (probe_of c.args.spec.now) c.loop-found.self.run o) c.in-Some.is c.in_ok-found.ensures)
    c.in_default-take.ensures
