-- That nothing of a drill is refused.
use Rattle.std.proofs.Common.{arith, ◌≡◌, ◌∙◌, ℕ, sym, Option, Some, None}
use Rattle.std.specs.Prelude.{Result, Ok, Err}
use Rattle.engine_ports.specs.Clock.{ClockView}
use Rattle.engine_ports.specs.Sink.{SinkView}
use Rattle.engine_text.specs.declared.memory.NoMemory.{NoMemory}
use Rattle.machine_model.specs.History.{Charter}
use Rattle.session_model.specs.declared.ending.Ending.{Ending}
use Rattle.session_model.specs.declared.ending.Ending.TheVariants as E
use Rattle.drill_session.specs.declared.drill.Drilled.{Drilled}
use Rattle.drill_session.specs.declared.drill.Drilled.TheVariants.{Reported, Ended}
use Rattle.drill_session.proofs.DrillLemmas.{unrefused}
use Rattle.drill_model.proofs.UnrefusedLemmas.{IsUnrefused}
use Rattle.engine_serve.specs.OwnClock.{unstopped}
use Rattle.program_parts.specs.Statuses.{status_of}
use Rattle.engine_program.specs.Drilling.{DrillsBy, TellsDrilled}

three : (e : Ending) → IsUnrefused e → status_of e ≡ 3 → ⊥
three E.CutShort un is = un
three (E.Refused status) un is = un
three E.JournalFull un is = un
three (E.Lagged next first) un is = un
three E.Closed un is = omega (arith, is)
three E.Stopped un is = omega (arith, is)
three E.ReadFault un is = omega (arith, is)
three E.WriteFault un is = omega (arith, is)
three E.NoMemory un is = omega (arith, is)

unrefused_drill : (steps : Option (ℕ × ℕ)) (ch : Charter) (requests : ℕ) (e : Ending) (t t' : ClockView)
    → DrillsBy steps ch requests (Ok (Ended e)) t t' → IsUnrefused e
unrefused_drill None ch requests e t t' drills = unrefused ch requests e t t' drills.2
unrefused_drill (Some stepping) ch requests e t t' drills = unrefused ch requests e unstopped unstopped drills.1.2

-- its status is never 3
pub never_three : (steps : Option (ℕ × ℕ)) (ch : Charter) (requests : ℕ) (t t' : ClockView) (r : Result Drilled NoMemory) (status : ℕ) (u u' : SinkView)
    → DrillsBy steps ch requests r t t' → TellsDrilled r status u u' → status ≡ 3 → ⊥
never_three steps ch requests t t' (Ok (Reported text)) status u u' drills (Ok x, told, wrote) is = omega (arith, told, is)
never_three steps ch requests t t' (Ok (Reported text)) status u u' drills (Err x, told, wrote) is = omega (arith, told, is)
never_three steps ch requests t t' (Ok (Ended e)) status u u' drills told is =
    three e (unrefused_drill steps ch requests e t t' drills) (sym told.0 ∙ is)
never_three steps ch requests t t' (Err none) status u u' drills told is = omega (arith, told.0, is)
