use Rattle.std.proofs.Common.{subst, rules}
use Rattle.machine_model.specs.History.{IsLegal}
use Rattle.attach_hub.specs.Connection.{ConnectionView}
use Rattle.engine_serve.proofs.session.serve_by_routes.Goals as goal

pub returns : goal.returns
returns g c =
    let legal = subst (λ (v : ConnectionView). IsLegal v.pass.charter v.pass.seen) c.conn.view_is (g.met.T.Turns.sound c.conn.inside.turns.now) in
    let serves = c.serve_requests-ending.ensures.serves legal in
    search (rules, serves)
