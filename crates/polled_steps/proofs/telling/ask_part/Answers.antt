use Rattle.engine_text.specs.declared.reply.Reply.TheVariants.{EventStream, JournalStream, LogStream}
use Rattle.polled_steps.proofs.TellLemmas.{events_part, line_part, log_part, part_as}
use Rattle.polled_steps.proofs.telling.ask_part.Goals as goal

pub returns-in-LogStream : goal.returns-in-LogStream
returns-in-LogStream g c =
    part_as c.args.conn c.args.handed c.args.reply.now (LogStream c.in-LogStream.spec) c.args.place _ _ _ _ _ c.in-LogStream.is
    (log_part c.args.conn c.args.handed c.in-LogStream.spec c.args.place _ _ _ _ _ c.requires.pair c.log_from.ensures)

pub returns-in-EventStream : goal.returns-in-EventStream
returns-in-EventStream g c =
    part_as c.args.conn c.args.handed c.args.reply.now (EventStream c.in-EventStream.first c.in-EventStream.until c.in-EventStream.filter) c.args.place _ _ _ _ _ c.in-EventStream.is
    (events_part c.args.conn c.args.handed c.in-EventStream.first c.in-EventStream.until c.in-EventStream.filter c.args.place _ _ _ _ _ c.requires.pair c.events_from.ensures)

pub returns-in-JournalStream : goal.returns-in-JournalStream
returns-in-JournalStream g c =
    part_as c.args.conn c.args.handed c.args.reply.now (JournalStream c.in-JournalStream.count) c.args.place _ _ _ _ _ c.in-JournalStream.is
    (line_part c.args.conn c.args.handed c.in-JournalStream.count c.args.place _ _ _ _ _ c.requires.pair c.journal_from.ensures)
