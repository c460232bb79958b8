use Rattle.std.proofs.Common.{List, subst}
use Rattle.daemon_core.specs.Keeping.{history_of}
use Rattle.daemon_core.specs.Passing.{charter, whole_pass}
use Rattle.std.proofs.lemmas.List.{drop_all}
use Rattle.engine_reboot.specs.Following.{StepSays}
use Rattle.engine_reboot.specs.declared.following.Followed.{Followed}
use Rattle.engine_reboot.proofs.WalkLemmas.{all_followed, from_place, next_can, no_more, not_yet, one_more}
use Rattle.engine_reboot.proofs.following.follow.Goals as goal

pub calls-init : goal.calls-init
calls-init c =
    let d = c.args.daemon.now in
    not_yet (charter d) (history_of d.stored.journal) c.args.handed c.args.plan.now c.requires

pub follow_one-requires : goal.follow_one-requires
follow_one-requires c =
    let at = from_place c.args.plan.now c.calls.planned-index c.planned-item.result c.calls-test.true c.planned-item.is in
    next_can _ _ _ _ (whole_pass c.calls.daemon) _ _ _ c.calls.invariant at

pub calls-preserved : goal.calls-preserved
calls-preserved c =
    let at = from_place c.args.plan.now c.calls.planned-index c.planned-item.result c.calls-test.true c.planned-item.is in
    one_more _ _ _ _ (whole_pass c.calls.daemon) (whole_pass c.follow_one.new.daemon) _ _ _ c.calls.invariant at (rw c.in-Whole.is at c.follow_one.ensures)

pub returns-in-Full : goal.returns-in-Full
returns-in-Full c =
    let at = from_place c.args.plan.now c.calls.planned-index c.planned-item.result c.calls-test.true c.planned-item.is in
    no_more _ _ _ _ (whole_pass c.calls.daemon) (whole_pass c.follow_one.new.daemon) _ _ _ c.calls.invariant at (rw c.in-Full.is at c.follow_one.ensures)

pub returns : goal.returns
returns c = all_followed _ _ _ _ (whole_pass c.calls.daemon) _ c.calls.invariant (drop_all c.calls.planned-index c.args.plan.now c.calls-test.false)
