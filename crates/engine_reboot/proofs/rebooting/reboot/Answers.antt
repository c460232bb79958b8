use Rattle.std.proofs.Common.{subst}
use Rattle.engine_reboot.specs.Replaying.{IsReplayed}
use Rattle.engine_reboot.proofs.rebooting.reboot.Goals as goal

pub returns-in-Ok-Done : goal.returns-in-Ok-Done
returns-in-Ok-Done c =
    let done = subst (IsReplayed c.args.text.now c.args.greatest) c.in-Ok-Done.field-0-is c.in-Ok-Done.ensures in
    c.go_on.ensures c.args.text.now done.0 done.1 done.2 done.3
