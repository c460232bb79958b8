use Rattle.std.proofs.Common.{sym}
use Rattle.http_edge.specs.Reader.{request_of}
use Rattle.exchange_laws.proofs.CallLemmas.{built_may}
use Rattle.engine_serve.proofs.AskLemmas.{full_at, opened_at, replied_at, short_at}
use Rattle.exchange_laws.proofs.AttachLemmas.{asks_over, attach_answers, attach_never, ends_none}
use Rattle.engine_serve.proofs.overtaking.open.Goals as goal

pub turn-requires-clause-may : goal.turn-requires-clause-may
turn-requires-clause-may g c κs within =
    built_may c.args.conn.now.pass.charter c.args.conn.now.who.number c.args.conn.now.pass.seen c.args.call.now
    (ends_none c.args.call.now c.requires.attaching) c.requires.sound

pub send_reply-requires-after_bounds : goal.send_reply-requires-after_bounds
send_reply-requires-after_bounds g c κs within =
    attach_answers c.args.conn.now.who.number c.in-Replied.ensures.handed c.args.call.now c.in-Replied.reply _ _ c.requires.attaching
    c.in-Replied.ensures.turn (sym c.in-None.ensures)

pub unreachable-requires : goal.unreachable-requires
unreachable-requires g c =
    attach_never c.args.conn.now.who.number c.turn.ensures.handed c.args.call.now c.turn.result _ _ c.requires.attaching c.turn.ensures.turn c.in-Begun.is

pub returns-in-Some-clause-tries : goal.returns-in-Some-clause-tries
returns-in-Some-clause-tries g c =
    opened_at (request_of c.args.request.now) c.args.call.now c.args.upgrade c.in-Replied.reply c.in-Some.spec _ _ c.requires.numbers c.requires.class
    c.requires.attaching (sym c.in-Some.ensures) c.in-Replied.ensures

pub returns-in-Replied-clause-tries : goal.returns-in-Replied-clause-tries
returns-in-Replied-clause-tries g c =
    replied_at (request_of c.args.request.now) c.of-terms.result c.args.call.now c.in-Replied.reply c.send_reply.result _ _ _ _ c.of-terms.ensures
    c.requires.numbers (asks_over (request_of c.args.request.now) c.args.call.now c.args.upgrade c.requires.class)
    (ends_none c.args.call.now c.requires.attaching) c.in-Replied.ensures c.conn.view_is c.send_reply.ensures

pub returns-in-JournalFull-clause-tries : goal.returns-in-JournalFull-clause-tries
returns-in-JournalFull-clause-tries g c =
    full_at (request_of c.args.request.now) c.of-terms.result c.args.call.now c.send_journal_full.result _ _ _ _ c.of-terms.ensures c.requires.numbers
    (asks_over (request_of c.args.request.now) c.args.call.now c.args.upgrade c.requires.class)
    (ends_none c.args.call.now c.requires.attaching) c.in-JournalFull.ensures c.conn.view_is
    c.send_journal_full.ensures

pub returns-in-NoMemory-clause-tries : goal.returns-in-NoMemory-clause-tries
returns-in-NoMemory-clause-tries g c =
    short_at (request_of c.args.request.now) c.of-terms.result c.args.call.now c.send_out_of_memory.result _ _ _ _ c.of-terms.ensures c.requires.numbers
    (asks_over (request_of c.args.request.now) c.args.call.now c.args.upgrade c.requires.class)
    (ends_none c.args.call.now c.requires.attaching) c.in-NoMemory.ensures c.conn.view_is
    c.send_out_of_memory.ensures
