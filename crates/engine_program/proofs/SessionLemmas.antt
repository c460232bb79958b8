-- A session that found no memory, by either clock.
use Rattle.std.proofs.Common.{ℕ, Option, Some, None, refl}
use Rattle.std.specs.Prelude.{IsTrue}
use Rattle.engine_ports.specs.Source.{SourceView}
use Rattle.engine_ports.specs.Sink.{SinkView}
use Rattle.engine_ports.specs.Clock.{ClockView}
use Rattle.engine_ports.specs.Door.{outside}
use Rattle.machine_model.specs.History.{IsLegal}
use Rattle.session_model.specs.declared.ending.Ending.TheVariants.{NoMemory}
use Rattle.session_model.specs.Pass.{PassView}
use Rattle.engine_serve.proofs.ServeLemmas.{ended_unread}
use Rattle.daemon_shared.specs.Running.{ServesBy}
use Rattle.engine_serve.specs.OwnClock.{unstopped}

-- nothing was read or written
pub unread : (steps : Option (ℕ × ℕ)) (k : ℕ) (p : PassView) (s : SourceView) (u : SinkView) (t : ClockView)
    → IsTrue p.pair → IsLegal p.charter p.seen → ServesBy steps k NoMemory p p (outside s u t) (outside s u t)
unread None k p s u t pair legal = ended_unread k p s u t pair legal
unread (Some stepping) k p s u t pair legal = (refl, ended_unread k p s u unstopped pair legal)
