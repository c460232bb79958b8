use Rattle.std.proofs.Common.{◌≤◌, ◌<◌, ℕ}
use Rattle.std.specs.Prelude.{decimal}
use Rattle.response_reader.specs.Matching.{MayMeet}
use Rattle.response_reader.proofs.heads.first_status.Given as goal

abbrev pub invariant-loop-status : goal.invariant-loop-status
invariant-loop-status l = (s : ℕ) → 200 ≤ s → s < l.status → MayMeet l.bytes (decimal s) → ⊥
