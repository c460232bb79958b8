use Rattle.std.proofs.Common.{rules, ◌∷◌, Some, ap, sym, ◌∙◌}
use Rattle.atomic_table.specs.Table.{rest}
use Rattle.turnstile.proofs.Keeps.{enters}
use Rattle.turnstile.proofs.turnstile.Turnstile.enter.Goals as goal

pub compare_exchange-requires : goal.compare_exchange-requires
compare_exchange-requires g c = let v = g.V.Chronicle in let p = c.args.pass.now in (c.requires.own_table, search rules, enters v.author v.legal v.history v.charter c.args.self.now.table.shared.table_id.slots p.id p.me c.requires.live c.requires.between)

pub exchange-requires : goal.exchange-requires
exchange-requires g c =
    let t = c.compare_exchange.ensures.2.0 c.if-compare_exchange-eq0.true in
    let held = ap (λ m. m.1) t.after in
    (c.compare_exchange.ensures.0 ∙ c.requires.own_table, (Some t.value, held ∙ ap (λ l. (0, Some t.value) ∷ rest l) (sym held)))
