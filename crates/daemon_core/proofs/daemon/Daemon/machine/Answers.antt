use Rattle.daemon_core.proofs.DaemonLemmas.{stands}
use Rattle.daemon_core.proofs.daemon.Daemon.machine.Goals as goal

pub returns : goal.returns
returns c = (stands c.args.self.now).is
