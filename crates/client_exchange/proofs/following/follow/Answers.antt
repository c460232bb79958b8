use Rattle.std.proofs.Common.{sym, ◌∙◌}
use Rattle.client_exchange.proofs.FollowLemmas.{shown_first, shown_more, fit_at_first, ends_unfit, ends_whole, ends_broken, ends_cut, ends_failed, ends_unwritten, some_taken}
use Rattle.client_exchange.proofs.following.follow.Goals as goal

pub loop-init : goal.loop-init
loop-init g c = record { iterator = (tt, tt); stage = c.requires.stage; showed = shown_first _ _ _ _ c.requires.fresh; fit = fit_at_first _ c.requires.fresh }

pub loop-preserved : goal.loop-preserved
loop-preserved g c = record {
  iterator = (tt, tt);
  stage = c.in-Bytes.ensures.stage;
  showed = shown_more _ _ _ _ _ _ _ _ _ _ _ _ _ c.in-Ok.field-0 c.loop.invariant.showed c.in-Bytes.ensures.says.3 c.in-Ok.ensures.written c.in-Ok.ensures.after;
  fit = sym c.is_unfit.ensures ∙ c.if-is_unfit.false;
}

pub returns-then-is_unfit : goal.returns-then-is_unfit
returns-then-is_unfit g c =
    ends_unfit _ _ _ _ _ _ _ _
    (shown_more _ _ _ _ _ _ _ _ _ _ _ _ _ c.in-Ok.field-0 c.loop.invariant.showed c.in-Bytes.ensures.says.3 c.in-Ok.ensures.written c.in-Ok.ensures.after)
    (sym c.is_unfit.ensures ∙ c.if-is_unfit.true)

pub returns-in-Err : goal.returns-in-Err
returns-in-Err g c =
    ends_unwritten _ _ _ _ _ _ c.loop.taker _ _ _ _ _ _ c.in-Err.fault c.loop.invariant.showed c.in-Bytes.ensures.says.3 c.in-Err.ensures.written
    (c.in-Err.ensures.failing (some_taken _ _ c.in-Bytes.ensures.says.1 c.in-Bytes.ensures.says.2))

pub returns-in-End : goal.returns-in-End
returns-in-End g c = ends_whole _ _ _ _ _ _ _ _ _ _ c.body.new.into c.loop.invariant.showed c.loop.invariant.fit c.in-End.ensures.says

pub returns-in-BadChunk : goal.returns-in-BadChunk
returns-in-BadChunk g c = ends_broken _ _ _ _ _ _ _ _ _ _ c.body.new.into c.in-BadChunk.at c.loop.invariant.showed c.loop.invariant.fit c.in-BadChunk.ensures.says

pub returns-in-CutShort : goal.returns-in-CutShort
returns-in-CutShort g c = ends_cut _ _ _ _ _ _ _ _ _ _ c.body.new.into c.loop.invariant.showed c.loop.invariant.fit c.in-CutShort.ensures.says

pub returns-in-ReadFault : goal.returns-in-ReadFault
returns-in-ReadFault g c = ends_failed _ _ _ _ _ _ _ _ _ _ c.body.new.into c.loop.invariant.showed c.loop.invariant.fit c.in-ReadFault.ensures.says
