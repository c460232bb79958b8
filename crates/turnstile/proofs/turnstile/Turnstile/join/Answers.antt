use Rattle.std.proofs.Common.{rules}
use Rattle.turnstile.proofs.Joins.{joins}
use Rattle.turnstile.proofs.turnstile.Turnstile.join.Goals as goal

pub join_seat-requires : goal.join_seat-requires
join_seat-requires g c =
    let v = g.V.Chronicle in let p = c.args.pass.now in let o = c.args.other in let r = c.requires.pass in let q = c.requires.other in
    (r.own_table, q.own_table, q.empty, search rules, joins v.author v.legal v.history v.charter p.id p.me.0 o.id o.me.0 r.live q.live r.between q.between)
