use Rattle.std.proofs.Common.{◌≡◌, arith}
use Rattle.std.proofs.lemmas.Grind.{common_steps}
use Rattle.engine_text.specs.declared.call.Call.{Call}
use Rattle.engine_text.specs.contracts.call.CallClone.TheImpl.{by_variants}
use Rattle.engine_text.proofs.call.Call.copy.Goals as goal

-- with the function's other facts in reach, the check of this goal meets its limit of steps
same_call : (a b : Call) → by_variants a b → b ≡ a
same_call a b clones = grind (arith, common_steps)

pub returns : goal.returns
returns c = same_call _ _ c.in_ok-clone.ensures.cases
