use Rattle.request_pieces.specs.declared.standing.Step.TheVariants.{On, Ends}
use Rattle.request_pieces.proofs.TakeLemmas.{no_step, step_on, begun_on}
use Rattle.request_pieces.proofs.taking.take_all.Goals as goal

pub more-init : goal.more-init
more-init c = record { begun = c.requires; says = no_step _ _ _ _ }

pub more-preserved : goal.more-preserved
more-preserved c = record {
  begun = begun_on _ _ _ _ _ _ _ _ c.more.invariant.begun c.in-On.ensures.says;
  says = step_on (On c.in-On.next) _ _ _ _ c.take.new.buffers _ _ c.take.new.ahead _ _ _ c.more.invariant.says c.in-On.ensures.says;
}

pub returns-in-Ends : goal.returns-in-Ends
returns-in-Ends c = step_on (Ends c.in-Ends.came) _ _ _ _ c.take.new.buffers _ _ c.take.new.ahead _ _ _ c.more.invariant.says c.in-Ends.ensures.says
