use Rattle.attach_hub.specs.Streams.{reply_of}
use Rattle.attach_hub.proofs.PartLemmas.{FollowsTo}
use Rattle.attach_hub.proofs.following.follow.Given as goal

abbrev pub invariant-loop : goal.invariant-loop
invariant-loop g l = record {
  iterator : (goal.iterator-loop g).can_next l.iterator' × (goal.iterator-loop g).is_finite l.iterator';
  following : FollowsTo (reply_of l.stream) l.chunked l.fn.conn l.conn l.place;
}
