-- What the statuses 4 and 5 come of, of one session.
use Rattle.std.proofs.Common.{◌≡◌, ◌⊎◌, inl, inr, ℕ, refl, subst, arith, Some}
use Rattle.engine_ports.specs.Rose.{Rose}
use Rattle.engine_ports.specs.Clock.{ClockView}
use Rattle.engine_ports.specs.Door.{Outside}
use Rattle.session_model.specs.declared.ending.Ending.{Ending}
use Rattle.session_model.specs.declared.ending.Ending.TheVariants as E
use Rattle.session_model.specs.declared.ending.Worst.{Worst}
use Rattle.session_model.specs.declared.ending.Worst.TheVariants as W
use Rattle.session_model.specs.Session.{EndingCause}
use Rattle.engine_serve.specs.OwnClock.{unstopped}
use Rattle.program_parts.specs.Statuses.{status_by, status_of}

pub never_rose : Rose 0 0 → ⊥
never_rose (inl less) = omega (arith, less)
never_rose (inr top) = omega (arith, top)

-- the statuses differ
pub stopped_alone : (w : Worst) → status_by w ≡ 5 → w ≡ W.Stopped
stopped_alone W.Stopped is = refl
stopped_alone W.NoMemory is = absurd (omega (arith, is))
stopped_alone W.Fault is = absurd (omega (arith, is))
stopped_alone W.Refused is = absurd (omega (arith, is))
stopped_alone W.Closed is = absurd (omega (arith, is))

pub fault_alone : (w : Worst) → status_by w ≡ 4 → w ≡ W.Fault
fault_alone W.Fault is = refl
fault_alone W.NoMemory is = absurd (omega (arith, is))
fault_alone W.Stopped is = absurd (omega (arith, is))
fault_alone W.Refused is = absurd (omega (arith, is))
fault_alone W.Closed is = absurd (omega (arith, is))

-- by a clock of the line's own no session is stopped
pub unstopped_by : (e : Ending) (o o' : Outside) → o.clock ≡ unstopped → o'.clock ≡ unstopped → EndingCause (Some e) o o' → status_of e ≡ 5 → ⊥
unstopped_by E.Stopped o o' old new cause is = never_rose (subst (λ (z : ClockView × ClockView). Rose z.0.stops z.1.stops) (λ i. (old i, new i)) cause)
unstopped_by E.Closed o o' old new cause is = omega (arith, is)
unstopped_by E.CutShort o o' old new cause is = omega (arith, is)
unstopped_by (E.Refused status) o o' old new cause is = omega (arith, is)
unstopped_by E.JournalFull o o' old new cause is = omega (arith, is)
unstopped_by (E.Lagged next first) o o' old new cause is = omega (arith, is)
unstopped_by E.ReadFault o o' old new cause is = omega (arith, is)
unstopped_by E.WriteFault o o' old new cause is = omega (arith, is)
unstopped_by E.NoMemory o o' old new cause is = omega (arith, is)

-- a session that calls for a fault had one
pub faulted : (e : Ending) (o o' : Outside) → EndingCause (Some e) o o' → status_of e ≡ 4 → Rose o.source.faults o'.source.faults ⊎ Rose o.sink.faults o'.sink.faults
faulted E.ReadFault o o' cause is = inl cause
faulted E.WriteFault o o' cause is = inr cause
faulted E.Closed o o' cause is = absurd (omega (arith, is))
faulted E.CutShort o o' cause is = absurd (omega (arith, is))
faulted (E.Refused status) o o' cause is = absurd (omega (arith, is))
faulted E.Stopped o o' cause is = absurd (omega (arith, is))
faulted E.JournalFull o o' cause is = absurd (omega (arith, is))
faulted (E.Lagged next first) o o' cause is = absurd (omega (arith, is))
faulted E.NoMemory o o' cause is = absurd (omega (arith, is))
