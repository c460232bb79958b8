use Rattle.std.proofs.Common.{◌∙◌, sym, arith}
use Rattle.exec_table.proofs.GoneLemmas.{all_stay}
use Rattle.exec_table.proofs.removal.move_all.Goals as goal

pub returns-clause-rows : goal.returns-clause-rows
returns-clause-rows c = sym (all_stay c.args.container c.loop-left.rows.items (omega (arith, c.loop-left-test.false, c.loop-left.invariant.left))) ∙ c.loop-left.invariant.stay
