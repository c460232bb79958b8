use Rattle.exec_table.proofs.IdLemmas.{ids_dont_fall}
use Rattle.exec_table.proofs.ids.locate.Goals as goal

pub locate_between-requires-clause-rises : goal.locate_between-requires-clause-rises
locate_between-requires-clause-rises c = ids_dont_fall c.args.rows.now.items c.args.id.now c.args.ids.now.items c.requires.order c.requires.index
