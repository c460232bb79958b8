use Rattle.std.proofs.Common.{◌+◌, ap, ◌∙◌, arith}
use Rattle.turnstile.specs.Views.{refused}
use Rattle.turnstile.proofs.turnstile.Turnstile.wait.Goals as goal

pub loop-preserved : goal.loop-preserved
loop-preserved g c =
    let i = c.loop.invariant in
    let me = c.in_default.ensures.none in
    let same = c.enter.ensures.same in (
      record { own_table = same.0 ∙ i.0.own_table; empty = ap (λ m. m.1) me; live = ap (λ m. m.0.spent) me ∙ i.0.live; between = ap (λ m. m.0.holds_turn) me ∙ i.0.between },
      (same.0 ∙ i.1.0, same.1 ∙ i.1.1),
      (i.2.0 + 1, (let p = i.2.1 in omega arith), ap (λ m. m.0) me ∙ ap refused i.2.2),
    )
