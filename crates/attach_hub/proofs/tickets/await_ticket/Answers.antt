use Rattle.attach_hub.proofs.AwaitLemmas.{ends_replied, ends_short, ends_stopped, ends_unread, never, stopped_waits, unread_begun, unread_numbers, waits, waits_on, waits_pause, waits_short}
use Rattle.attach_hub.proofs.tickets.await_ticket.Goals as goal

pub loop-init : goal.loop-init
loop-init g c = record { iterator = (tt, tt); waits = waits c.args.ticket _ c.requires.numbers c.requires.begun }

pub returns-in-Replied-clause-awaits : goal.returns-in-Replied-clause-awaits
returns-in-Replied-clause-awaits g c = ends_replied c.args.ticket c.in-Replied.reply _ _ _ c.loop.invariant.waits c.in-Replied.ensures

pub unreachable-requires : goal.unreachable-requires
unreachable-requires g c = never c.args.ticket c.take.result _ _ c.take.ensures c.in-Begun.is

pub loop-preserved : goal.loop-preserved
loop-preserved g c =
    let w = waits_on c.args.ticket _ _ _ c.loop.invariant.waits c.in-NotYet.ensures in
    record { iterator = (tt, tt); waits = waits_pause c.args.ticket _ _ _ w c.in-Again.ensures }

pub drop_ticket-requires-clause-numbers : goal.drop_ticket-requires-clause-numbers
drop_ticket-requires-clause-numbers g c κs within =
    (stopped_waits c.args.ticket _ _ _ (waits_on c.args.ticket _ _ _ c.loop.invariant.waits c.in-NotYet.ensures) c.in-Stopped.ensures).numbers

pub drop_ticket-requires-clause-begun : goal.drop_ticket-requires-clause-begun
drop_ticket-requires-clause-begun g c κs within =
    (stopped_waits c.args.ticket _ _ _ (waits_on c.args.ticket _ _ _ c.loop.invariant.waits c.in-NotYet.ensures) c.in-Stopped.ensures).begun

pub returns-in-Stopped-clause-awaits : goal.returns-in-Stopped-clause-awaits
returns-in-Stopped-clause-awaits g c =
    ends_stopped c.args.ticket _ _ _ _ (waits_on c.args.ticket _ _ _ c.loop.invariant.waits c.in-NotYet.ensures) c.in-Stopped.ensures
    c.drop_ticket.ensures

pub drop_ticket-requires-in-WriteFault-clause-numbers : goal.drop_ticket-requires-in-WriteFault-clause-numbers
drop_ticket-requires-in-WriteFault-clause-numbers g c κs within =
    unread_numbers c.args.ticket _ _ _ (waits_on c.args.ticket _ _ _ c.loop.invariant.waits c.in-NotYet.ensures) c.in-WriteFault.ensures

pub drop_ticket-requires-in-WriteFault-clause-begun : goal.drop_ticket-requires-in-WriteFault-clause-begun
drop_ticket-requires-in-WriteFault-clause-begun g c κs within =
    unread_begun c.args.ticket _ _ _ (waits_on c.args.ticket _ _ _ c.loop.invariant.waits c.in-NotYet.ensures) c.in-WriteFault.ensures

pub returns-in-WriteFault-clause-awaits : goal.returns-in-WriteFault-clause-awaits
returns-in-WriteFault-clause-awaits g c =
    ends_unread c.args.ticket _ _ _ _ (waits_on c.args.ticket _ _ _ c.loop.invariant.waits c.in-NotYet.ensures) c.in-WriteFault.ensures
    c.drop_ticket-in-WriteFault.ensures

pub drop_ticket-requires-in-NoMemory-clause-numbers : goal.drop_ticket-requires-in-NoMemory-clause-numbers
drop_ticket-requires-in-NoMemory-clause-numbers g c κs within = (waits_short c.args.ticket _ _ _ c.loop.invariant.waits c.in-NoMemory.ensures).numbers

pub drop_ticket-requires-in-NoMemory-clause-begun : goal.drop_ticket-requires-in-NoMemory-clause-begun
drop_ticket-requires-in-NoMemory-clause-begun g c κs within = (waits_short c.args.ticket _ _ _ c.loop.invariant.waits c.in-NoMemory.ensures).begun

pub returns-in-NoMemory-clause-awaits : goal.returns-in-NoMemory-clause-awaits
returns-in-NoMemory-clause-awaits g c =
    ends_short c.args.ticket _ _ _ (waits_short c.args.ticket _ _ _ c.loop.invariant.waits c.in-NoMemory.ensures) c.drop_ticket-in-NoMemory.ensures
