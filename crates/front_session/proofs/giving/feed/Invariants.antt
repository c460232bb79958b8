use Rattle.std.proofs.Common.{◌≡◌, ◌++◌, length}
use Rattle.front_session.proofs.giving.feed.Given as goal

-- what was put there, and what is left, is all
abbrev pub invariant-loop-given : goal.invariant-loop-given
invariant-loop-given l = l.ahead ++ l.given.left.now ≡ l.fn.ahead ++ l.fn.bytes

abbrev pub decreases-loop-given : goal.decreases-loop-given
decreases-loop-given l = length l.given.left.now
