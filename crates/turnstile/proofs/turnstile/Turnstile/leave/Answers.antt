use Rattle.std.proofs.Common.{rules, ◌∷◌, Some, refl, ap, ◌∙◌}
use Rattle.atomic_table.specs.Table.{rest}
use Rattle.turnstile.specs.Views.{raised}
use Rattle.turnstile.proofs.Keeps.{leaves_as}
use Rattle.turnstile.proofs.turnstile.Turnstile.leave.Goals as goal

pub store-requires : goal.store-requires
store-requires g c =
    let v = g.V.Chronicle in let p = c.exchange.new.seat in let old = c.args.pass.now in let y = c.args.value in
    let up = c.raise.ensures.raised in
    let me = c.exchange.ensures.3 ∙ ap (λ m. (m.0, (0, Some y) ∷ rest m.1)) up in
    (c.exchange.ensures.0 ∙ (c.raise.ensures.same.0 ∙ c.requires.own), search rules, leaves_as v.author v.legal v.history v.charter c.args.self.now.table.shared.table_id.slots p.id p.me (raised v.author old.me.0 (v.history y)) y me c.requires.hand.1 c.requires.hand.2 refl c.requires.value.0)
