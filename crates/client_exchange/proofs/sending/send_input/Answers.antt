use Rattle.client_exchange.proofs.SendLemmas.{so_far_none, so_far_more, unsent_piece, starved}
use Rattle.client_exchange.proofs.sending.send_input.Goals as goal

pub loop-init : goal.loop-init
loop-init g c = record { iterator = (tt, tt); so = so_far_none _ _ }

pub loop-preserved : goal.loop-preserved
loop-preserved g c = record {
  iterator = (tt, tt);
  so = so_far_more _ c.in-Ok.field-0 _ _ _ _ _ _ c.loop.invariant.so c.in-Bytes.ensures.2 c.in-Ok.ensures;
}

-- src/sending.rt:23:27
pub returns-in-Err : goal.returns-in-Err
returns-in-Err g c = unsent_piece _ c.in-Err.field-0 _ _ _ _ _ _ c.loop.invariant.so c.in-Bytes.ensures.2 c.in-Err.ensures

pub returns-in-Failed : goal.returns-in-Failed
returns-in-Failed g c = starved _ _ _ _ _ c.loop.invariant.so c.in-Failed.ensures
