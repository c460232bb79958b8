use Rattle.std.proofs.Common.{subst, sym}
use Rattle.machine_model.specs.History.{input_of}
use Rattle.session_model.specs.Pass.{IsNumber}
use Rattle.attach_hub.proofs.PumpLemmas.{pumps_end, pumps_first, pumps_more}
use Rattle.attach_hub.proofs.pumping.pump_by.Goals as goal

pub loop-init : goal.loop-init
loop-init g c = record {
  iterator = (tt, tt);
  number = c.requires.number;
  place = c.requires.place;
  pumping = pumps_first c.args.conn c.args.spec.now c.args.run _ _ _ _;
}

pub loop-preserved : goal.loop-preserved
loop-preserved g c = record {
  iterator = (tt, tt);
  number = subst (λ n. IsNumber n (input_of c.args.conn)) (sym c.in-Ok.ensures.says.heard.moves.stays.number) c.loop.invariant.number;
  place = c.feed_next.ensures.place;
  pumping = pumps_more c.args.conn c.args.spec.now c.args.run _ _ _ _ _ _ _ _ _ _ _ _ c.loop.invariant.pumping c.in-Ok.ensures.says;
}

pub returns-in-Err : goal.returns-in-Err
returns-in-Err g c =
    pumps_end c.args.conn c.args.spec.now c.args.run c.in-Err.end _ _ _ _ _ _ _ _ _ _ _ c.requires.feed c.loop.invariant.pumping c.in-Err.ensures.says
