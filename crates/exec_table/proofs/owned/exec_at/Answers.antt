use Rattle.std.proofs.Common.{◌∙◌, Some, ap, sym, subst}
use Rattle.std.specs.Prelude.{IsSome}
use Rattle.exec_table.proofs.GoneLemmas.{is_placed, numbered_at}
use Rattle.exec_table.proofs.OwnerLemmas.{stands_at}
use Rattle.exec_table.proofs.owned.exec_at.Goals as goal

pub unwrap-found-requires : goal.unwrap-found-requires
unwrap-found-requires c =
    let there = stands_at c.args.rows.now.items c.args.owned.now.items c.at.result.now c.args.place c.requires.order c.requires.index c.requires.place c.at.ensures in
    subst (λ o. IsSome o) (sym c.place_of.ensures) (is_placed c.at.result.now.number c.args.rows.now.items there.exec there.held)

pub returns : goal.returns
returns c =
    let there = stands_at c.args.rows.now.items c.args.owned.now.items c.at.result.now c.args.place c.requires.order c.requires.index c.requires.place c.at.ensures in
    there.at ∙ ap Some (numbered_at c.at.result.now.number c.args.rows.now.items there.exec c.unwrap-found.result c.at-2.result.now there.held (sym c.place_of.ensures ∙ c.unwrap-found.ensures) c.at-2.ensures)
