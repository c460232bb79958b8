use Rattle.std.specs.Prelude.{string_bytes}
use Rattle.engine_drill.proofs.LineLemmas.{status_added}
use Rattle.engine_drill.proofs.lines.put_statuses.Goals as goal

pub loop-status-preserved : goal.loop-status-preserved
loop-status-preserved c =
    status_added (string_bytes c.args.out.now) (string_bytes c.loop-status.out) (string_bytes c.put_status.new.out) c.args.counts.now c.loop-status.status
    c.loop-status-test.true c.loop-status.invariant c.in_ok-put_status.ensures
