use Rattle.std.proofs.Common.{◌≡◌, length}
use Rattle.engine_text.specs.Query.{without_last_blanks}
use Rattle.engine_text.proofs.query.without_last_blanks.Given as goal

-- what is left gives what the text gives
abbrev pub invariant-loop-left : goal.invariant-loop-left
invariant-loop-left l = without_last_blanks l.left ≡ without_last_blanks l.text

-- what is left is shorter
abbrev pub decreases-loop-left : goal.decreases-loop-left
decreases-loop-left l = length l.left
