use Rattle.std.proofs.Common.{◌∙◌, sym, ap, Some}
use Rattle.std.specs.Prelude.{◌==◌}
use Rattle.container_table.specs.Held.{contents}
use Rattle.container_table.specs.Logs.{container_in}
use Rattle.container_table.specs.declared.held.Held.{Held}
use Rattle.container_table.proofs.HeldLemmas.{find_value, numbers_alone, number_at}
use Rattle.container_table.proofs.entries.held_at.Goals as goal

pub returns-clause-found : goal.returns-clause-found
returns-clause-found c =
    find_value (λ d. d.number == c.args.number) c.args.held.now.list.items c.args.i c.at.result.now (numbers_alone c.args.number (contents c.args.held.now.list.items) c.requires.boxed.order) c.requires.place
    ∙ ap (λ (h : Held). Some (container_in h)) (sym (c.deref.ensures ∙ ap (λ b. b.value) c.at.ensures))

pub returns-clause-number : goal.returns-clause-number
returns-clause-number c =
    ap (λ (h : Held). h.container.number) (c.deref.ensures ∙ ap (λ b. b.value) c.at.ensures)
    ∙ number_at c.args.number c.args.held.now.list.items c.args.i c.at.result.now c.requires.place
