use Rattle.std.proofs.Common.{◌≡◌, length}
use Rattle.http_edge.specs.Asks.{has_token}
use Rattle.http_edge.proofs.asks.has_token.Given as goal

abbrev pub invariant-parts : goal.invariant-parts
invariant-parts l = has_token l.token l.fn.value ≡ has_token l.token l.rest

abbrev pub decreases-parts : goal.decreases-parts
decreases-parts l = length l.rest
