use Rattle.std.proofs.Common.{◌≡◌, true, false}
use Rattle.container_table.proofs.SearchLemmas.{parts_of}
use Rattle.exec_table.specs.ExecsInside.{is_ahead}
use Rattle.exec_table.specs.declared.row.Owned.{Owned}
use Rattle.exec_table.proofs.owned.start_of.Goals as goal

pub returns-clause-place : goal.returns-clause-place
returns-clause-place c =
    parts_of (λ (o : Owned). is_ahead false c.args.container o.container ≡ true) (λ (o : Owned). is_ahead false c.args.container o.container ≡ false) c.args.owned.now.items c.place_between.result
    c.place_between.ensures.bound c.place_between.ensures.place
