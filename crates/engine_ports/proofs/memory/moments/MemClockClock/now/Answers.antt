use Rattle.std.proofs.Common.{refl}
use Rattle.engine_ports.proofs.PortLemmas.{moment_handed}
use Rattle.engine_ports.proofs.memory.moments.MemClockClock.now.Goals as goal

pub returns-clause-says : goal.returns-clause-says
returns-clause-says c = moment_handed c.args.self.now.coming c.next.result c.args.self.now c.next.new.self refl c.next.ensures
