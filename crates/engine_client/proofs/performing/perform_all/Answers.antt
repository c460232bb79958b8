use Rattle.std.proofs.Common.{rules, Ok, Err}
use Rattle.engine_client.proofs.PerformLemmas.{in_time, at_first, at_next_as, at_end, at_end_as}
use Rattle.engine_client.proofs.performing.perform_all.Goals as goal

pub perform-requires : goal.perform-requires
perform-requires g c = let at = c.loop.invariant.at c.requires.plan c.requires.is in search (rules, in_time c.loop.step at.next at.is)

pub loop-init : goal.loop-init
loop-init g c = record { iterator = (tt, tt); at = λ plan is. at_first plan _ _ _ is }

pub loop-preserved : goal.loop-preserved
loop-preserved g c = record {
  iterator = (tt, tt);
  at = λ plan is. let at = c.loop.invariant.at plan is in at_next_as plan _ _ _ _ _ _ c.loop.step c.in-Ok-On.after c.in-Ok-On.field-0 at c.in-Ok-On.field-0-is (c.in-Ok-On.ensures at.next at.is);
}

pub returns-in-Ok-Ended : goal.returns-in-Ok-Ended
returns-in-Ok-Ended g c = λ plan is. let at = c.loop.invariant.at plan is in at_end_as plan _ _ _ _ _ _ c.loop.step c.in-Ok-Ended.field-0 c.in-Ok-Ended.status at c.in-Ok-Ended.field-0-is (c.in-Ok-Ended.ensures at.next at.is)

pub returns-in-Err : goal.returns-in-Err
returns-in-Err g c = λ plan is. let at = c.loop.invariant.at plan is in at_end plan _ _ _ _ _ _ c.loop.step at (Err c.in-Err.fault) (c.in-Err.ensures at.next at.is)
