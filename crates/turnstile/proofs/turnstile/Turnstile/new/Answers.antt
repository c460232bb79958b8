use Rattle.std.proofs.Common.{rules, ◌++◌, ◌∷◌, [], Some, ap, ◌∙◌}
use Rattle.turnstile.proofs.Opens.{opens_as}
use Rattle.turnstile.proofs.turnstile.Turnstile.new.Goals as goal

pub new-requires : goal.new-requires
new-requires g c =
    let v = g.V.Chronicle in let y = c.args.value in
    opens_as v.author v.legal v.history v.charter y c.of-first.result.value c.steps-steps.result c.push_reserved.new.self.items
    (c.push_reserved.ensures.items ∙ ap (λ l. l ++ Some y ∷ []) c.in-Ok.ensures.items) (search rules) (search rules) c.requires.legal c.requires.free
