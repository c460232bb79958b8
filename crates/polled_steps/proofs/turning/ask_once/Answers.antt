use Rattle.std.proofs.Common.{refl}
use Rattle.exchange_laws.proofs.CallLemmas.{built_may, never_other}
use Rattle.polled_steps.proofs.TurnLemmas.{asks_once}
use Rattle.polled_steps.specs.declared.turning.Asked.{Asked}
use Rattle.polled_steps.proofs.turning.ask_once.Goals as goal

pub turn-requires-clause-may : goal.turn-requires-clause-may
turn-requires-clause-may g c = built_may (g.T.Turns.pass c.args.turns.now).charter c.args.conn (g.T.Turns.pass c.args.turns.now).seen c.args.call.now c.requires.kind c.requires.sound

pub returns-in-Replied : goal.returns-in-Replied
returns-in-Replied g c =
    asks_once c.args.conn c.args.handed c.args.call.now (Asked.Replied c.in-Replied.reply) _ _ _ c.requires.pair c.requires.feeds c.requires.kind
    c.requires.whole refl c.in-Replied.ensures

pub returns-in-Begun : goal.returns-in-Begun
returns-in-Begun g c =
    asks_once c.args.conn c.args.handed c.args.call.now (Asked.Begun c.in-Begun.ticket) _ _ _ c.requires.pair c.requires.feeds c.requires.kind
    c.requires.whole refl c.in-Begun.ensures

pub returns-in-JournalFull : goal.returns-in-JournalFull
returns-in-JournalFull g c =
    asks_once c.args.conn c.args.handed c.args.call.now Asked.JournalFull _ _ _ c.requires.pair c.requires.feeds c.requires.kind c.requires.whole refl
    c.in-JournalFull.ensures

pub returns-in-NoMemory : goal.returns-in-NoMemory
returns-in-NoMemory g c =
    asks_once c.args.conn c.args.handed c.args.call.now Asked.NoMemory _ _ _ c.requires.pair c.requires.feeds c.requires.kind c.requires.whole refl
    c.in-NoMemory.ensures

pub unreachable-requires : goal.unreachable-requires
unreachable-requires g c =
    never_other c.args.conn c.args.handed c.args.call.now c.turn.result _ _ c.requires.feeds c.requires.kind c.turn.ensures c.in-NotYet.is
