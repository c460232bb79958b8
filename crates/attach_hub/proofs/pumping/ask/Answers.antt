use Rattle.std.proofs.Common.{subst, sym, Some}
use Rattle.machine_model.specs.History.{input_of}
use Rattle.session_model.specs.Pass.{IsNumber}
use Rattle.session_model.specs.Turning.{Turn}
use Rattle.session_model.specs.declared.turned.Turned.TheVariants as T
use Rattle.attach_hub.proofs.HearLemmas.{asks_again, asks_first, asks_pause, feed_never, heard, heard_full, heard_short, heard_stopped, replies_fed}
use Rattle.attach_hub.proofs.pumping.ask.Goals as goal

pub loop-init : goal.loop-init
loop-init g c = record { iterator = (tt, tt); number = c.requires.number; asking = asks_first c.args.conn _ _ }

pub is_taken-requires : goal.is_taken-requires
is_taken-requires g c = replies_fed (input_of c.args.conn) c.now-handed.result c.args.call.now c.in-Replied.reply _ _ c.requires.kind c.in-Replied.ensures

pub returns-in-Replied : goal.returns-in-Replied
returns-in-Replied g c =
    heard c.args.conn c.now-handed.result c.args.call.now c.is_taken.result _ _ _ _ _ _ c.requires.kind c.loop.invariant.asking c.now-handed.ensures
    (subst (λ r. Turn (input_of c.args.conn) c.now-handed.result (Some c.args.call.now) (T.Replied r) (g.T.Turns.pass c.loop.turns) (g.T.Turns.pass c.ask_once.new.turns))
    c.is_taken.ensures c.in-Replied.ensures)

pub returns-in-Stop : goal.returns-in-Stop
returns-in-Stop g c =
    heard_stopped c.args.conn c.now-handed.result c.args.call.now _ _ _ _ _ _ _ c.requires.sound c.loop.invariant.asking c.now-handed.ensures c.in-NotYet.ensures
    c.in-Stop.ensures.0 c.in-Stop.ensures.1

pub returns-in-JournalFull : goal.returns-in-JournalFull
returns-in-JournalFull g c =
    heard_full c.args.conn c.now-handed.result c.args.call.now _ _ _ _ _ _ c.loop.invariant.asking c.now-handed.ensures c.in-JournalFull.ensures

pub returns-in-NoMemory : goal.returns-in-NoMemory
returns-in-NoMemory g c =
    heard_short c.args.conn c.now-handed.result c.args.call.now _ _ _ _ _ _ c.loop.invariant.asking c.now-handed.ensures c.in-NoMemory.ensures

pub unreachable-requires : goal.unreachable-requires
unreachable-requires g c = feed_never (input_of c.args.conn) c.now-handed.result c.args.call.now c.ask_once.result _ _ c.requires.kind c.ask_once.ensures c.in-Begun.is

pub loop-preserved : goal.loop-preserved
loop-preserved g c =
    let one = asks_again c.args.conn c.now-handed.result c.args.call.now _ _ _ _ _ _ c.loop.invariant.asking c.now-handed.ensures c.in-NotYet.ensures in
    record {
      iterator = (tt, tt);
      number = subst (λ n. IsNumber n (input_of c.args.conn)) (sym c.in-NotYet.ensures.turns.stays.number) c.loop.invariant.number;
      asking = asks_pause c.args.conn _ _ _ _ _ one c.in-Go.ensures;
    }
