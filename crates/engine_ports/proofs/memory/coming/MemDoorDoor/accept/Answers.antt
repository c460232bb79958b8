use Rattle.std.proofs.Common.{◌≡◌, subst}
use Rattle.std.specs.Prelude.{All}
use Rattle.std.proofs.lemmas.List.Elements.{All-tail}
use Rattle.engine_ports.proofs.memory.coming.MemDoorDoor.accept.Goals as goal

pub invariant_of-self-in-Some-clause-unstopped : goal.invariant_of-self-in-Some-clause-unstopped
invariant_of-self-in-Some-clause-unstopped g c =
    All-tail (λ w. (g.T.Clock.times w.clock).stops ≡ 0) c.in-Some.field-0 c.pop_front.new.self.items
    (subst (All (λ w. (g.T.Clock.times w.clock).stops ≡ 0)) c.in-Some.ensures.items c.args.self.now.unstopped)
