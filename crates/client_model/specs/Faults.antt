-- The statuses and the lines of faults (own).
use Rattle.std.specs.Prelude.{ℕ, List, [], ◌++◌, codes, decimal, Option, Some, None}
use Rattle.client_model.specs.Lines.{address_in}
use Rattle.client_model.specs.Usage.{usage_line}
use Rattle.client_model.specs.declared.fault.Fault.{Fault}
use Rattle.client_model.specs.declared.fault.Fault.TheVariants as F

-- the status that a command ends with
abbrev pub status_of : Fault → ℕ
status_of F.Words = 2
status_of F.Input = 122
status_of F.Output = 122
status_of F.Errors = 122
status_of F.Answer = 123
status_of (F.AnswerTo request status) = 123
status_of F.NoCode = 123
status_of F.NoCheck = 123
status_of F.EventsGone = 123
status_of F.TooLong = 123
status_of F.NoMemory = 124
status_of (F.Refused message) = 125
status_of F.Link = 125
status_of F.Connection = 125

-- a line of the program's own
abbrev pub own_line : List ℕ → List ℕ
own_line text = codes "dockc: " ++ text ++ codes "\n"

-- the status of an answer, as it is told
abbrev pub status_text : Option ℕ → List ℕ
status_text None = codes "no status"
status_text (Some status) = codes "status " ++ decimal status

-- what is told on standard error, of these words: a refusal's message alone, and nothing where standard error is what failed
abbrev pub fault_line : List (List ℕ) → Fault → List ℕ
fault_line words F.Words = usage_line words
fault_line words F.Input = own_line (codes "standard input can't be read")
fault_line words F.Output = own_line (codes "standard output can't be written")
fault_line words F.Errors = []
fault_line words F.Answer = own_line (codes "the answer isn't one of the Engine API's")
fault_line words (F.AnswerTo request status) =
    own_line (codes "the answer to " ++ request ++ codes " isn't one of the Engine API's: " ++ status_text status)
fault_line words F.NoCode = own_line (codes "the exec has no exit code")
fault_line words F.NoCheck = own_line (codes "the container has no health check")
fault_line words F.EventsGone = own_line (codes "the first events are no longer kept")
fault_line words F.TooLong = own_line (codes "the answer has more than 67108864 bytes")
fault_line words F.NoMemory = own_line (codes "out of memory")
fault_line words (F.Refused message) = message ++ codes "\n"
fault_line words F.Link = own_line (codes "can't connect to the daemon at " ++ address_in words)
fault_line words F.Connection = own_line (codes "the connection to the daemon failed")
