-- What a run of `enginelab` says, whatever its words are (own).
use Rattle.std.specs.Prelude.{ℕ, ◌≡◌, ◌⊎◌, List, Result, Ok, Err}
use Rattle.engine_ports.specs.Clock.{ClockView}
use Rattle.engine_ports.specs.Door.{DoorView}
use Rattle.engine_ports.specs.Sink.{SinkView, WriteSays}
use Rattle.engine_ports.specs.declared.ports.Failed.{Failed}
use Rattle.lab_line.specs.Lines.{WordsAsk}
use Rattle.lab_line.specs.Texts.{help, version, reason}
use Rattle.lab_line.specs.declared.line.Lab.{Lab}
use Rattle.lab_line.specs.declared.line.Asked.{Asked}
use Rattle.lab_line.specs.declared.line.Asked.TheVariants.{Line, Help, Version, Wrong}
use Rattle.lab_program.specs.Serving.{ServesLab}
use Rattle.lab_program.specs.Starting.{Starts}
use Rattle.lab_program.specs.Whys.{status_by, text_by}
use Rattle.lab_program.specs.declared.starting.Started.{Started}
use Rattle.lab_program.specs.declared.why.Why.{Why}
use Rattle.lab_program.specs.declared.why.Why.TheVariants.{NoMemory}

-- what changes: the system's clock, standard output, standard error, the daemon's door, and control's
pub record Outer : Type 0 where
  pub clock : ClockView
  pub output : SinkView
  pub error : SinkView
  pub tools : DoorView
  pub control : DoorView

abbrev pub outer : ClockView → SinkView → SinkView → DoorView → DoorView → Outer
outer t u v d e = record { clock = t; output = u; error = v; tools = d; control = e }

-- a line didn't start; or it did, and its doors were served
abbrev pub RunsLine : Lab → Why → ClockView → ClockView → SinkView → SinkView → DoorView → DoorView → DoorView → DoorView → Type 0
RunsLine lab why t t' u u' d d' e e' =
    Starts lab (Err why) t t' u u' d d' e e'
    ⊎ ((started : Started) × (tools : DoorView) × (control : DoorView)
    × Starts lab (Ok started) t t' u u' d tools e control × ServesLab lab started.moment why tools d' control e')

-- a text is written, or a front of it where that fails, which isn't told
abbrev pub Puts : List ℕ → SinkView → SinkView → Type 0
Puts text u u' = (written : Result (Unit {0}) Failed) × WriteSays written text u u'

-- a text is put to standard output, or to standard error, and nothing else is touched
abbrev pub OnlyPuts : List ℕ → Outer → Outer → Type 0
OnlyPuts text o o' = Puts text o.output o'.output × (o' ≡ record o { output = o'.output })

abbrev pub OnlyWarns : List ℕ → Outer → Outer → Type 0
OnlyWarns text o o' = Puts text o.error o'.error × (o' ≡ record o { error = o'.error })

-- what words that ask so come to
abbrev pub RunsAsked : Asked → ℕ → Outer → Outer → Type 0
RunsAsked Help status o o' = (status ≡ 0) × OnlyPuts help o o'
RunsAsked Version status o o' = (status ≡ 0) × OnlyPuts version o o'
RunsAsked (Wrong wrong) status o o' = (status ≡ 2) × OnlyWarns (reason wrong) o o'
RunsAsked (Line lab) status o o' =
    (why : Why) × (status ≡ status_by why)
    × RunsLine lab why o.clock o'.clock o.output o'.output o.tools o'.tools o.control o'.control
    × Puts (text_by why) o.error o'.error

-- memory was refused for the line, which is told; or it goes by what the words ask for
abbrev pub RunsLab : List (List ℕ) → ℕ → Outer → Outer → Type 0
RunsLab words status o o' =
    ((status ≡ status_by NoMemory) × OnlyWarns (text_by NoMemory) o o')
    ⊎ ((asked : Asked) × WordsAsk words asked × RunsAsked asked status o o')
