use Rattle.std.proofs.Common.{length}
use Rattle.history_replay.proofs.UpgradeLemmas.{IsRewriting}
use Rattle.history_replay.proofs.upgrading.rewrite_lines.Given as goal

abbrev pub invariant-lines : goal.invariant-lines
invariant-lines l = IsRewriting l.fn.text l.rest l.fn.out.items l.out.items

abbrev pub decreases-lines : goal.decreases-lines
decreases-lines l = length l.rest
