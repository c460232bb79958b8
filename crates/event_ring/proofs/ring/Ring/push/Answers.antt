use Rattle.std.proofs.Common.{◌≡◌, ◌∷◌, [], ◌++◌, ◌&&◌, length, sym, ap, subst, ◌∙◌, refl, arith}
use Rattle.circular_buffer.specs.Buffer.{Buffer, last_item}
use Rattle.engine_text.specs.Lists.{last_of}
use Rattle.engine_text.specs.declared.event.Event.{Event}
use Rattle.event_ring.specs.Ring.{Kept, capacity}
use Rattle.event_ring.specs.RingInside.{AreInOrder, is_until_there}
use Rattle.event_ring.proofs.RingLemmas.{length_next, in_order_next}
use Rattle.event_ring.proofs.ring.Ring.push.Goals as goal

-- the events are the last of one more
items : (c : goal.Joined-push_back) → c.push_back.new.self.items ≡ last_of capacity (c.self.inside.kept.items ++ c.args.prepared ∷ [])
items c =
    ap (λ (b : Buffer Event). b.items) c.push_back.ensures.items
    ∙ ap (λ n. last_of n (c.self.inside.kept.items ++ c.args.prepared ∷ [])) c.self.invariant.sized

pub invariant_of-self : goal.invariant_of-self
invariant_of-self c =
    let count = ap (λ (k : Kept). k.count) c.self.view_is in
    record {
      sized = ap (λ (b : Buffer Event). b.capacity) c.push_back.ensures.items ∙ c.self.invariant.sized;
      last = ap length (items c) ∙ length_next capacity c.self.inside.count c.self.inside.kept.items c.args.prepared c.self.invariant.last;
      few = omega (arith, count, c.requires);
      ordered = λ noted. subst AreInOrder (sym (items c))
          (in_order_next capacity c.self.inside.kept.items c.args.prepared c.self.inside.in_order
          (is_until_there c.args.prepared.moment (last_item c.self.inside.kept.items)) c.self.invariant.ordered refl
          (ap (λ m. c.self.inside.in_order && is_until_there m (last_item c.self.inside.kept.items)) (sym c.moment-moment.ensures) ∙ sym c.stays_in_order-in_order.ensures ∙ noted));
    }
