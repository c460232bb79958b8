use Rattle.std.proofs.Common.{subst, Err}
use Rattle.engine_ports.specs.Sink.{SinkTook, WriteSays}
use Rattle.attach_hub.specs.Following.{written_of}
use Rattle.attach_hub.specs.Streams.{reply_of}
use Rattle.attach_hub.proofs.PartLemmas.{begins, ends_failed, ends_gone, ends_short, ends_stopped, ends_unread, ends_whole, goes_on, part_stands, pauses}
use Rattle.attach_hub.proofs.following.follow.Goals.{in-More+in-Ok, in-UpToDate+in-Again}
use Rattle.attach_hub.proofs.following.follow.Goals as goal

pub loop-init : goal.loop-init
loop-init g c = record { iterator = (tt, tt); following = begins _ c.args.chunked _ _ c.requires.number c.first_of-place.ensures }

pub part_of-requires-clause-stands : goal.part_of-requires-clause-stands
part_of-requires-clause-stands g c κs within = part_stands (reply_of c.args.stream.now) c.args.chunked _ _ _ c.requires.stands c.loop.invariant.following

pub returns-in-Err-clause-follows : goal.returns-in-Err-clause-follows
returns-in-Err-clause-follows g c =
    ends_failed _ c.args.chunked _ _ c.in-Err.field-0 _ _ _ _ _ c.in-More.next c.loop.invariant.following c.in-More.ensures c.new-out.ensures.items
    c.in-Err.ensures.same
    (subst (λ x. WriteSays (Err c.in-Err.field-0) (written_of c.args.chunked x) c.part_of.new.conn.sink c.write_piece.new.conn.sink)
    c.as_slice.ensures.value c.in-Err.ensures.says)

pub returns-in-Stopped-clause-follows : goal.returns-in-Stopped-clause-follows
returns-in-Stopped-clause-follows g c =
    ends_stopped _ c.args.chunked _ _ _ _ _ _ _ c.loop.invariant.following c.in-UpToDate.ensures c.in-Stopped.ensures

pub returns-in-WriteFault-clause-follows : goal.returns-in-WriteFault-clause-follows
returns-in-WriteFault-clause-follows g c =
    ends_unread _ c.args.chunked _ _ _ _ _ _ _ c.loop.invariant.following c.in-UpToDate.ensures c.in-WriteFault.ensures

pub returns-in-Whole-clause-follows : goal.returns-in-Whole-clause-follows
returns-in-Whole-clause-follows g c = ends_whole _ c.args.chunked _ _ _ _ _ _ c.loop.invariant.following c.in-Whole.ensures

pub returns-in-Gone-clause-follows : goal.returns-in-Gone-clause-follows
returns-in-Gone-clause-follows g c = ends_gone _ c.args.chunked _ _ _ _ _ _ c.in-Gone.next c.in-Gone.first c.loop.invariant.following c.in-Gone.ensures

pub returns-in-NoMemory-clause-follows : goal.returns-in-NoMemory-clause-follows
returns-in-NoMemory-clause-follows g c = ends_short _ c.args.chunked _ _ _ _ _ _ c.loop.invariant.following c.in-NoMemory.ensures

pub loop-preserved : goal.loop-preserved
loop-preserved g c = elim c.match-part_of.branch [
  | in-More+in-Ok w ↦ rw (w.conn-is, w.place-is) (record {
    iterator = (tt, tt);
    following = goes_on _ c.args.chunked _ _ _ _ _ _ _ w.in-More.next c.loop.invariant.following w.in-More.ensures c.new-out.ensures.items
        w.in-Ok.ensures.same
        (subst (λ x. SinkTook c.part_of.new.conn.sink (written_of c.args.chunked x) w.write_piece.new.conn.sink) w.as_slice.ensures.value w.in-Ok.ensures.says);
  })
  | in-UpToDate+in-Again w ↦ rw (w.conn-is, w.place-is) (record {
    iterator = (tt, tt);
    following = pauses _ c.args.chunked _ _ _ _ _ _ _ c.loop.invariant.following w.in-UpToDate.ensures w.in-Again.ensures;
  })
]
