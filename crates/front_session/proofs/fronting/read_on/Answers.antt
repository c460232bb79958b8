use Rattle.std.proofs.Common.{[], ◌++◌, refl}
use Rattle.front_session.specs.Reads.{whole}
use Rattle.front_session.proofs.ProgressLemmas.{progress_none, progress_on, reads_on}
use Rattle.front_session.proofs.ReadLemmas.{none_lost}
use Rattle.front_session.proofs.fronting.read_on.Goals as goal

pub loop-init : goal.loop-init
loop-init g c = record {
  iterator = (tt, tt);
  went = ([], progress_none (whole (g.W.TwoWays.source c.args.ways.now) (g.W.TwoWays.sink c.args.ways.now) c.args.front.now));
  lost = λ e. refl;
}

pub loop-preserved : goal.loop-preserved
loop-preserved g c =
    let before = c.loop.invariant.went in
    let more = c.in_default.ensures in
    record {
      iterator = (tt, tt);
      went = (before.0 ++ more.1, progress_on _ _ _ before.0 more.1 [] before.1 more.2);
      lost = none_lost c.step.new.front (whole (g.W.TwoWays.source c.args.ways.now) (g.W.TwoWays.sink c.args.ways.now) c.args.front.now)
          (whole (g.W.TwoWays.source c.step.new.ways) (g.W.TwoWays.sink c.step.new.ways) c.step.new.front) more.0;
    }

pub returns-in-Some-step : goal.returns-in-Some-step
returns-in-Some-step g c =
    let before = c.loop.invariant.went in
    reads_on c.in-Some-step.over c.step.new.into _ _ _ before.0 before.1 c.loop.invariant.lost c.in-Some-step.ensures
