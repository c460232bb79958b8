use Rattle.std.proofs.Common.{◌≡◌, drop}
use Rattle.std.specs.List.{flat_map}
use Rattle.machine_model.specs.LogStream.{log_among}
use Rattle.machine_tables.proofs.kept_logs.kept_log.Given as goal

abbrev pub invariant-loop-k : goal.invariant-loop-k
invariant-loop-k l = log_among l.owner (flat_map (λ k. k.logs) (drop l.k-index l.kept)) ≡ log_among l.owner (flat_map (λ k. k.logs) l.kept)
