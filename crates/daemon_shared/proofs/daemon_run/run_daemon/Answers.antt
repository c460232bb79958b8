use Rattle.std.proofs.Common.{◌≡◌, ap, sym, subst, rules}
use Rattle.daemon_shared.specs.Sharing.{charter_by}
use Rattle.door_model.specs.Connections.{most_from}
use Rattle.daemon_shared.specs.Running.{RunsDaemon}
use Rattle.daemon_shared.proofs.EndLemmas.{runs}
use Rattle.daemon_shared.proofs.daemon_run.run_daemon.Goals as goal

pub returns-in-Ok-clause-some : goal.returns-in-Ok-clause-some
returns-in-Ok-clause-some g c =
    let there : c.door-1.given.0 ≡ c.serve_all-worst.result.2.door.now = search rules in
    subst (λ d. RunsDaemon (charter_by c.args.opening) c.args.steps (most_from 0 c.args.limit) c.serve_all-worst.result.0
    d (g.D.Door.opens c.args.door.now) (g.D.Door.opens c.door-1.given.0)) (sym c.into_inner.ensures)
    (subst (λ z. RunsDaemon (charter_by c.args.opening) c.args.steps (most_from 0 c.args.limit) c.serve_all-worst.result.0
    c.close-daemon.result.daemon.value (g.D.Door.opens c.args.door.now) (g.D.Door.opens z)) (sym there)
    (runs _ _ _ _ _ _ _ _ _ _ _ _ _ _ (ap (λ v. v.charter) c.in-Ok.ensures.1) c.most_from.ensures c.serve_all-worst.ensures.serves c.close-daemon.ensures))
