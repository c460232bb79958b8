use Rattle.reading_calls.proofs.TakeLemmas.{makes_take}
use Rattle.reading_calls.proofs.take.prepare.Goals as goal

pub returns : goal.returns
returns c = makes_take c.prepare_end.result c.args.moment c.args.tables.now.state c.args.ticket c.in_ok-reply.reply c.prepare_end.ensures c.in_ok-reply.ensures
