use Rattle.std.proofs.Common.{rules}
use Rattle.turnstile.proofs.Keeps.{learns}
use Rattle.turnstile.proofs.turnstile.Turnstile.learn.Goals as goal

pub load-requires : goal.load-requires
load-requires g c = let v = g.V.Chronicle in let p = c.args.pass.now in let r = c.requires in (r.own_table, search rules, learns v.author v.legal v.history v.charter c.args.self.now.table.shared.table_id.slots p.id p.me r.live)
