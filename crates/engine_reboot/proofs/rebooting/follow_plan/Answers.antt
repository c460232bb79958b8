use Rattle.daemon_core.specs.Passing.{whole_pass}
use Rattle.engine_reboot.proofs.RebootLemmas.{plan_can, plan_is, plan_says}
use Rattle.engine_reboot.proofs.rebooting.follow_plan.Goals as goal

pub follow-requires : goal.follow-requires
follow-requires c =
    let d = c.args.daemon.now in
    plan_can d c.as_slice.result.now (plan_is d c.machine.result.now.memory.state c.in-Ok.calls.items c.as_slice.result.now c.machine.ensures c.in-Ok.ensures c.as_slice.ensures.value)

pub returns : goal.returns
returns c =
    let d = c.args.daemon.now in
    plan_says d c.args.handed c.as_slice.result.now c.follow.result (whole_pass c.follow.new.daemon)
    (plan_is d c.machine.result.now.memory.state c.in-Ok.calls.items c.as_slice.result.now c.machine.ensures c.in-Ok.ensures c.as_slice.ensures.value)
    c.follow.ensures
