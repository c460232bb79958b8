use Rattle.std.proofs.Common.{arith}
use Rattle.machine_events.proofs.OpLemmas.{record_stepped, end_run}
use Rattle.machine_effects.proofs.tables.Tables.run_op.Goals as goal

pub owner_effect-requires : goal.owner_effect-requires
owner_effect-requires c = record {
  kept = record_stepped c.args.owner c.args.owner c.args.self.now c.run_process-effect.new.self c.run_process-effect.ensures.state c.run_process-effect.ensures.logs c.run_process-effect.ensures.outputs c.requires.kept;
  end = end_run c.args.owner c.args.brought c.run_process-effect.result c.args.self.now c.run_process-effect.new.self c.run_process-effect.ensures.state c.run_process-effect.ensures.effect c.run_process-effect.ensures.room (omega arith) c.requires.end;
}
