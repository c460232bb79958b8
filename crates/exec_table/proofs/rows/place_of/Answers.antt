use Rattle.std.proofs.Common.{eqb, ◌∙◌}
use Rattle.std.specs.Ordering.{nat_cmp}
use Rattle.std.proofs.lemmas.Cmp.{nat_cmp_total}
use Rattle.engine_text.proofs.PlaceLemmas.{compared, searched}
use Rattle.exec_table.specs.declared.row.Row.{Row}
use Rattle.exec_table.proofs.OrderLemmas.{same_number}
use Rattle.exec_table.proofs.rows.place_of.Goals as goal

pub place_between-requires-clause-rises : goal.place_between-requires-clause-rises
place_between-requires-clause-rises c = compared nat_cmp nat_cmp_total (λ (x : Row). x.exec.number) c.args.rows.now.items c.requires c.args.number

pub returns : goal.returns
returns c =
    c.ok.ensures.value
    ∙ searched nat_cmp nat_cmp_total (λ (x : Row). x.exec.number) (λ (x : Row). eqb x.exec.number c.args.number) c.args.number (λ x. same_number x.exec.number c.args.number) c.args.rows.now.items c.requires _ c.place_between.ensures.bound c.place_between.ensures.place
