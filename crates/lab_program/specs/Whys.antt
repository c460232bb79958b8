-- Why the program ends, with which status, and what is told of it (own).
use Rattle.std.specs.Prelude.{ℕ, Bool, List, codes, if◌then◌else◌}
use Rattle.session_model.specs.declared.ending.Worst.{Worst}
use Rattle.session_model.specs.declared.ending.Worst.TheVariants as worst
use Rattle.lab_program.specs.declared.why.Control.{Control}
use Rattle.lab_program.specs.declared.why.Control.TheVariants as control
use Rattle.lab_program.specs.declared.why.Why.{Why}
use Rattle.lab_program.specs.declared.why.Why.TheVariants.{Asked, InputEnded, NoListen, NoControl, Untold, Failed, NoMemory}

-- by whether the daemon's door failed, and by what control came to
abbrev pub why_by_control : Control → Why
why_by_control control.Asked = Asked
why_by_control control.Shut = InputEnded
why_by_control control.Failed = Failed
why_by_control control.NoMemory = NoMemory

abbrev pub why_of : Bool → Control → Why
why_of failed came = if failed then Failed else why_by_control came

-- a session without memory comes first
abbrev pub why_by : Worst → Bool → Control → Why
why_by worst.NoMemory failed came = NoMemory
why_by other failed came = why_of failed came

abbrev pub status_by : Why → ℕ
status_by Asked = 0
status_by InputEnded = 0
status_by NoListen = 4
status_by NoControl = 4
status_by Untold = 4
status_by Failed = 4
status_by NoMemory = 6

abbrev pub text_by : Why → List ℕ
text_by Asked = codes "enginelab: control stopped it\n"
text_by InputEnded = codes "enginelab: standard input ended\n"
text_by NoListen = codes "enginelab: the address of --listen can't be bound\n"
text_by NoControl = codes "enginelab: the address of --control can't be bound\n"
text_by Untold = codes "enginelab: standard output takes no line\n"
text_by Failed = codes "enginelab: taking connections in failed\n"
text_by NoMemory = codes "enginelab: memory was refused\n"
