use Rattle.std.proofs.Common.{◌≡◌, ◌∷◌, [], ◌++◌, append_assoc, length-append, ap, ◌∙◌, arith}
use Rattle.std.specs.Vec.Iter.{into_iter_items}
use Rattle.event_ring.specs.Ring.{ring_of}
use Rattle.daemon_core.proofs.telling.keep_all.Goals as goal

pub loop-line-preserved : goal.loop-line-preserved
loop-line-preserved c =
    let at = c.loop-line in
    let line = c.in-Some.line in
    let steps : into_iter_items at.line-iterator ≡ line ∷ into_iter_items c.next.new.self = c.in-Some.ensures.steps.0 in
    let longer = length-append at.yielded (line ∷ []) in
    record {
      iterator = (tt, tt);
      left = append_assoc at.yielded (line ∷ []) _ ∙ rw (← steps) at.invariant.left;
      count = omega (arith, c.push.ensures.count, at.invariant.count, longer);
      told = λ all is. c.push.ensures.all (all ++ at.yielded) (at.invariant.told all is)
          ∙ ap ring_of (append_assoc all at.yielded (line ∷ []));
    }
