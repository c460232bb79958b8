use Rattle.stream_frame.specs.Walks.{seen_item}
use Rattle.client_exchange.proofs.FrameLemmas.{wrote_more, wrote_less, was_written}
use Rattle.client_exchange.proofs.frames.write_frames.Goals as goal

pub items-preserved : goal.items-preserved
items-preserved g c = record {
  iterator = (tt, tt);
  wrote = wrote_more _ _ _ (seen_item c.in-Some.item) _ _ _ c.in-Ok.field-0 c.items.invariant.wrote c.in-Some.ensures.steps c.in-Ok.ensures.written;
}

pub returns-in-Err-clause-written : goal.returns-in-Err-clause-written
returns-in-Err-clause-written g c =
    wrote_less _ _ _ (seen_item c.in-Some.item) _ _ _ c.in-Err.fault c.items.invariant.wrote c.in-Some.ensures.steps c.in-Err.ensures.written

pub returns-in-Err-clause-failing : goal.returns-in-Err-clause-failing
returns-in-Err-clause-failing g c =
    was_written c.args.demux.now c.args.piece.now _ _ (seen_item c.in-Some.item) _ _ c.in-Err.fault c.items.invariant.wrote c.in-Some.ensures.steps c.in-Err.ensures.failing
