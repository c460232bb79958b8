use Rattle.std.proofs.Common.{◌≡◌}
use Rattle.form_urlencoded.specs.Form.{raw_pairs}
use Rattle.form_urlencoded.specs.Parse.{pairs_left}
use Rattle.api_routes.specs.Query as spec
use Rattle.api_routes.proofs.query.query_value.Given as goal

abbrev pub invariant-pairs : goal.invariant-pairs
invariant-pairs l =
    (goal.iterator-pairs).can_next l.pairs × (goal.iterator-pairs).is_finite l.pairs
    × (spec.first_value l.fn.key (pairs_left l.pairs) ≡ spec.first_value l.fn.key (raw_pairs l.fn.query))
