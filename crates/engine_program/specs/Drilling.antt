-- What a run of a line that drills says: of its session, its report and the status (own).
use Rattle.std.specs.Prelude.{ℕ, ◌≡◌, ◌≢◌, Option, Some, None, Result, Ok, Err}
use Rattle.engine_ports.specs.Clock.{ClockView}
use Rattle.engine_ports.specs.Sink.{SinkView, WriteSays}
use Rattle.engine_ports.specs.Door.{Outside}
use Rattle.engine_ports.specs.declared.ports.Failed.{Failed}
use Rattle.engine_text.specs.declared.memory.NoMemory.{NoMemory}
use Rattle.engine_line.specs.declared.line.Line.{Line}
use Rattle.machine_model.specs.History.{Charter}
use Rattle.session_model.specs.declared.ending.Worst.TheVariants as worst
use Rattle.drill_session.specs.Running.{Drills}
use Rattle.drill_session.specs.declared.drill.Drilled.{Drilled}
use Rattle.drill_session.specs.declared.drill.Drilled.TheVariants.{Reported, Ended}
use Rattle.engine_serve.specs.OwnClock.{unstopped}
use Rattle.program_parts.specs.Opening.{OpensAt}
use Rattle.program_parts.specs.Statuses.{status_by, status_of}
use Rattle.engine_program.specs.Opening.{charter_by, steps_of}

-- by the handed clock; or by the line's, which is never stopped, and the handed one isn't asked
abbrev pub DrillsBy : Option (ℕ × ℕ) → Charter → ℕ → Result Drilled NoMemory → ClockView → ClockView → Type 0
DrillsBy None ch requests drilled t t' = Drills ch requests drilled t t'
DrillsBy (Some stepping) ch requests drilled t t' = (t' ≡ t) × Drills ch requests drilled unstopped unstopped

-- the status by whether the report was written
abbrev pub status_written : Result (Unit {0}) Failed → ℕ
status_written (Ok x) = status_by worst.Closed
status_written (Err x) = status_by worst.Fault

-- the report is written, or its write failed; where there is none, nothing is, and the status is that of the ending, or
-- tells that memory was refused
abbrev pub TellsDrilled : Result Drilled NoMemory → ℕ → SinkView → SinkView → Type 0
TellsDrilled (Ok (Reported text)) status u u' =
    (written : Result (Unit {0}) Failed) × (status ≡ status_written written) × WriteSays written text u u'
TellsDrilled (Ok (Ended e)) status u u' = (status ≡ status_of e) × (u' ≡ u)
TellsDrilled (Err none) status u u' = (status ≡ status_by worst.NoMemory) × (u' ≡ u)

-- a drill of so many requests, under the line's seed and entries; the number of connections has no effect
pub record RunsDrill (line : Line) (requests status : ℕ) (u u' : SinkView) (t t' : ClockView) : Type 0 where
  pub opening : ℕ
  pub opened : ClockView
  pub opens : OpensAt line.clock opening t opened
  pub drilled : Result Drilled NoMemory
  pub drills : DrillsBy (steps_of line.clock) (charter_by line opening) requests drilled opened t'
  pub tells : TellsDrilled drilled status u u'
  -- a drill's requests are requests, and none of them asks for a stream: so none is refused or cut, no stream falls behind,
  -- and no input finds the journal full
  pub unrefused : status ≢ 3

-- and nothing is read
abbrev pub DrillSays : ℕ → Line → ℕ → Outside → Outside → Type 0
DrillSays requests line status o o' =
    RunsDrill line requests status o.sink o'.sink o.clock o'.clock × (o'.source ≡ o.source)
