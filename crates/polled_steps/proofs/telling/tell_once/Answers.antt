use Rattle.std.proofs.Common.{subst}
use Rattle.polled_steps.specs.Telling.{AsksPart}
use Rattle.polled_steps.proofs.telling.tell_once.Goals as goal

pub returns : goal.returns
returns g c = (
  c.ask_part-part.result,
  c.ask_part-part.new.out.items,
  c.by_part.ensures,
  subst (λ l. AsksPart c.args.conn c.args.handed c.args.reply.now c.args.place c.ask_part-part.result l c.ask_part-part.new.out.items (g.T.Turns.pass c.args.turns.now)
      (g.T.Turns.pass c.ask_part-part.new.turns)) c.new-bytes.ensures.items
      c.ask_part-part.ensures,
)
