use Rattle.std.proofs.Common.{◌≡◌, drop}
use Rattle.api_json.specs.EventRules as spec
use Rattle.api_json.proofs.event_rules.values_fit.Given as goal

abbrev pub invariant-pairs : goal.invariant-pairs
invariant-pairs l = spec.values_fit (drop l.pair-index l.pairs) ≡ spec.values_fit l.fn.pairs
