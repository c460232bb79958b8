use Rattle.std.proofs.Common.{◌-◌, ◌∙◌, ap, sym, nat_lt, arith}
use Rattle.container_table.specs.Held.{contents}
use Rattle.container_table.proofs.HeldLemmas.{above_last, all_above}
use Rattle.container_table.proofs.entries.is_above.Goals as goal

pub returns-clause-value : goal.returns-clause-value
returns-clause-value c =
    ap (λ h. nat_lt h.container.number c.args.number) c.deref.ensures
    ∙ sym (above_last c.args.number c.args.held.now.list.items (c.len-count.result - 1) c.at.result.now c.requires.order (omega arith) c.at.ensures)

pub returns-clause-all : goal.returns-clause-all
returns-clause-all c =
    λ t. all_above c.args.number (contents c.args.held.now.list.items)
    (above_last c.args.number c.args.held.now.list.items (c.len-count.result - 1) c.at.result.now c.requires.order (omega arith) c.at.ensures
    ∙ sym (ap (λ h. nat_lt h.container.number c.args.number) c.deref.ensures) ∙ t)
