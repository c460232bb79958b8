use Rattle.std.proofs.Common.{refl}
use Rattle.attach_hub.proofs.WaitLemmas.{take_never}
use Rattle.polled_steps.proofs.TurnLemmas.{takes_once}
use Rattle.polled_steps.specs.declared.turning.Taken.{Taken}
use Rattle.polled_steps.proofs.turning.take_once.Goals as goal

pub returns-in-Replied : goal.returns-in-Replied
returns-in-Replied g c =
    takes_once c.args.conn c.args.handed c.args.ticket (Taken.Replied c.in-Replied.reply) _ _ _ c.requires.pair refl c.in-Replied.ensures

pub returns-in-NotYet : goal.returns-in-NotYet
returns-in-NotYet g c = takes_once c.args.conn c.args.handed c.args.ticket Taken.NotYet _ _ _ c.requires.pair refl c.in-NotYet.ensures

pub returns-in-NoMemory : goal.returns-in-NoMemory
returns-in-NoMemory g c = takes_once c.args.conn c.args.handed c.args.ticket Taken.NoMemory _ _ _ c.requires.pair refl c.in-NoMemory.ensures

pub unreachable-requires : goal.unreachable-requires
unreachable-requires g c = take_never c.args.conn c.args.handed c.args.ticket c.take.result _ _ c.take.ensures c.in-Begun.is
