use Rattle.std.proofs.Common.{◌++◌, Err}
use Rattle.engine_ports.proofs.PortLemmas.{sink_on, written_on}
use Rattle.control_session.proofs.journal.hand_on.Goals as goal

pub loop-preserved : goal.loop-preserved
loop-preserved g c = let i = c.loop.invariant in (i.0 ++ _, sink_on _ _ _ i.0 _ i.1 c.in-Ok.ensures)

pub returns-in-Err : goal.returns-in-Err
returns-in-Err g c = let i = c.loop.invariant in (i.0 ++ _, written_on tt (Err _) i.0 _ _ _ _ i.1 c.in-Err.ensures)
