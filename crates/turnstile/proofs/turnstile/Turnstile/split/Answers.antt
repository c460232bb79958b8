use Rattle.std.proofs.Common.{rules, ℕ, sym, subst}
use Rattle.turnstile.specs.Views.{MayAdmit}
use Rattle.turnstile.proofs.Splits.{splits}
use Rattle.turnstile.proofs.turnstile.Turnstile.split.Goals as goal

pub split_seat-requires : goal.split_seat-requires
split_seat-requires g c =
    let v = g.V.Chronicle in let p = c.args.pass.now in let r = c.requires.pass in
    let may = subst (λ (n : ℕ). MayAdmit n p.me.0) (sym c.requires.number) c.requires.may in
    (r.own_table, search rules, splits v.author v.legal v.history v.charter p.id p.me.0 g.N.Numbered.number r.live may)
