use Rattle.std.proofs.Common.{refl}
use Rattle.daemon_core.specs.Keeping.{history_of}
use Rattle.daemon_core.specs.Passing.{charter, whole_pass}
use Rattle.engine_reboot.proofs.ReplayLemmas.{refused, written_on}
use Rattle.engine_reboot.proofs.replaying.replay_lines.Goals as goal

pub returns-in-Ok-Legal : goal.returns-in-Ok-Legal
returns-in-Ok-Legal c =
    let h = c.args.header.now in
    let e = c.check_lines.new.machine.daemon in
    written_on h.seed h.opening c.args.greatest c.args.lines.now (whole_pass c.in_ok-reopened.reopened.daemon) c.in-Ok-Legal.field-0 c.in-Ok-Legal.field-0-0
    (charter e) (history_of e.stored.journal) c.requires c.in_ok-reopened.ensures c.in-Ok-Legal.ensures.said c.in-Ok-Legal.ensures.made c.in-Ok-Legal.field-0-is

pub returns-in-Ok-Illegal : goal.returns-in-Ok-Illegal
returns-in-Ok-Illegal c =
    let h = c.args.header.now in
    refused h.seed h.opening c.args.greatest c.args.lines.now (whole_pass c.in_ok-reopened.reopened.daemon) c.in-Ok-Illegal.field-0 _ c.requires
    c.in_ok-reopened.ensures c.in-Ok-Illegal.ensures.said c.in-Ok-Illegal.field-0-is refl

pub returns-in-Ok-BadLine : goal.returns-in-Ok-BadLine
returns-in-Ok-BadLine c =
    let h = c.args.header.now in
    refused h.seed h.opening c.args.greatest c.args.lines.now (whole_pass c.in_ok-reopened.reopened.daemon) c.in-Ok-BadLine.field-0 _ c.requires
    c.in_ok-reopened.ensures c.in-Ok-BadLine.ensures.said c.in-Ok-BadLine.field-0-is refl
