use Rattle.exchange_laws.specs.declared.fixed.Fixed.{Fixed}
use Rattle.exchange_laws.proofs.FixedLemmas.{full_message, memory_message, stopping_message, written_as}
use Rattle.exchange_laws.proofs.fixed.Fixed.as_slice.Goals as goal

pub returns-in-OutOfMemory : goal.returns-in-OutOfMemory
returns-in-OutOfMemory c = written_as c.args.self Fixed.OutOfMemory _ c.in-OutOfMemory.is memory_message

pub returns-in-JournalFull : goal.returns-in-JournalFull
returns-in-JournalFull c = written_as c.args.self Fixed.JournalFull _ c.in-JournalFull.is full_message

pub returns-in-Stopping : goal.returns-in-Stopping
returns-in-Stopping c = written_as c.args.self Fixed.Stopping _ c.in-Stopping.is stopping_message
