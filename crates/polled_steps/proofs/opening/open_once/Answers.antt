use Rattle.exchange_laws.proofs.CallLemmas.{built_may}
use Rattle.exchange_laws.proofs.ReplyLemmas.{stream_never, streams_end_none}
use Rattle.polled_steps.proofs.OpenLemmas.{opens_full, opens_reply, opens_short}
use Rattle.polled_steps.proofs.opening.open_once.Goals as goal

pub turn-requires-clause-may : goal.turn-requires-clause-may
turn-requires-clause-may g c =
    built_may (g.T.Turns.pass c.args.turns.now).charter c.args.conn (g.T.Turns.pass c.args.turns.now).seen c.args.call.now
    (streams_end_none c.args.call.now c.requires.streamed) c.requires.sound

pub returns-in-Replied : goal.returns-in-Replied
returns-in-Replied g c =
    opens_reply c.args.conn c.args.handed c.args.call.now c.in-Replied.reply c.by_reply.result _ _ c.requires.pair c.requires.streamed c.by_reply.ensures
    c.in-Replied.ensures

pub returns-in-JournalFull : goal.returns-in-JournalFull
returns-in-JournalFull g c = opens_full c.args.conn c.args.handed c.args.call.now _ _ c.requires.pair c.requires.streamed c.in-JournalFull.ensures

pub returns-in-NoMemory : goal.returns-in-NoMemory
returns-in-NoMemory g c = opens_short c.args.conn c.args.handed c.args.call.now _ _ c.requires.pair c.requires.streamed c.in-NoMemory.ensures

pub unreachable-requires : goal.unreachable-requires
unreachable-requires g c =
    stream_never c.args.conn c.args.handed c.args.call.now c.turn.result _ _ c.requires.streamed c.turn.ensures c.in-Begun.is
