use Rattle.std.proofs.Common.{ap, sym, ◌∙◌}
use Rattle.std.specs.Option.{option_copied}
use Rattle.event_ring.proofs.RingLemmas.{rest_some}
use Rattle.event_ring.proofs.part.RingPartIterator.next.Goals as goal

pub returns-in-Some-clause-steps : goal.returns-in-Some-clause-steps
returns-in-Some-clause-steps c =
    sym c.self.view_is
    ∙ rest_some c.self.inside.kept.now.items c.self.inside.place c.in-Some.found.now (sym c.get.ensures ∙ ap option_copied c.in-Some.is)
