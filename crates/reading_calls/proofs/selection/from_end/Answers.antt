use Rattle.std.proofs.Common.{arith, length, sym}
use Rattle.reading_calls.specs.LogParts.{selects}
use Rattle.reading_calls.proofs.LogsLemmas.{at_first, found_back, none_back, one_back}
use Rattle.reading_calls.proofs.selection.from_end.Goals as goal

pub loop-place-init : goal.loop-place-init
loop-place-init c = record {
  within = omega arith;
  some = c.requires;
  counted = at_first (selects c.args.ask.now) c.args.log.now (length c.args.log.now) c.args.n (omega arith);
}

pub returns-then-left-eq0 : goal.returns-then-left-eq0
returns-then-left-eq0 c =
    sym (found_back (selects c.args.ask.now) c.args.log.now c.loop-place.place c.args.n c.loop-place.left c.left_behind-left.result c.index-log-place.result c.selects.result
    c.loop-place-test.true c.loop-place.invariant.within c.index-log-place.is c.selects.ensures c.left_behind-left.ensures c.if-left-eq0.true c.loop-place.invariant.some c.loop-place.invariant.counted)

pub loop-place-preserved : goal.loop-place-preserved
loop-place-preserved c = record {
  within = omega (arith, c.loop-place.invariant.within);
  some = omega (arith, c.if-left-eq0.false);
  counted = one_back (selects c.args.ask.now) c.args.log.now c.loop-place.place c.args.n c.loop-place.left c.left_behind-left.result c.index-log-place.result c.selects.result
      c.loop-place-test.true c.loop-place.invariant.within c.index-log-place.is c.selects.ensures c.left_behind-left.ensures c.loop-place.invariant.counted;
}

pub returns : goal.returns
returns c = sym (none_back (selects c.args.ask.now) c.args.log.now c.loop-place.place c.args.n c.loop-place.left c.loop-place-test.false c.loop-place.invariant.some c.loop-place.invariant.counted)
