use Rattle.std.proofs.Common.{◌∙◌, ap, length}
use Rattle.machine_model.specs.State.{State}
use Rattle.event_ring.specs.Ring.{Kept}
use Rattle.daemon_core.proofs.DaemonLemmas.{told_of}
use Rattle.daemon_core.proofs.daemon.Daemon.counts.Goals as goal

pub returns-clause-events : goal.returns-clause-events
returns-clause-events c = c.count.ensures ∙ ap (λ (r : Kept). r.count) (told_of c.args.self.now).ring

pub returns-clause-containers : goal.returns-clause-containers
returns-clause-containers c = c.container_count.ensures ∙ ap (λ (s : State). length s.containers) (told_of c.args.self.now).state
