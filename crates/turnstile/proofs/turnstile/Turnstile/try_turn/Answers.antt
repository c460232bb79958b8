use Rattle.std.proofs.Common.{le_refl}
use Rattle.turnstile.proofs.Turning.{turned}
use Rattle.turnstile.proofs.turnstile.Turnstile.try_turn.Goals as goal

pub returns-in-Some-clause-done : goal.returns-in-Some-clause-done
returns-in-Some-clause-done g c = let v = g.V.Chronicle in let old = c.args.pass.now.me.0 in turned v.author v.legal v.history v.charter _ old old.found_busy (le_refl old.found_busy) _ _ _ c.in-Some.ensures.some c.act.ensures.acted
