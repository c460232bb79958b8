use Rattle.std.proofs.Common.{◌≡◌}
use Rattle.std.specs.List.{concat}
use Rattle.drill_model.specs.Requests.{drill_requests}
use Rattle.engine_drill.proofs.MakingLemmas.{standing}
use Rattle.engine_drill.proofs.making.requests.Given as goal

abbrev pub invariant-loop-place : goal.invariant-loop-place
invariant-loop-place l =
    (l.bytes.items ≡ concat (drill_requests l.fn.seed l._place)) × (l.rng ≡ standing l.fn.seed l._place)
