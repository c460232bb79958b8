-- The line of a fault, in two parts (own: what an answer was asked, and its status, are written behind the rest of the line).
use Rattle.std.specs.Prelude.{ℕ, List, [], ◌++◌, codes}
use Rattle.client_model.specs.Faults.{status_text, fault_line}
use Rattle.client_model.specs.declared.fault.Fault.{Fault}
use Rattle.client_model.specs.declared.fault.Fault.TheVariants as F

-- the line up to the request that it names; all of it where it names none
abbrev pub before_request : List (List ℕ) → Fault → List ℕ
before_request words (F.AnswerTo request status) = codes "dockc: the answer to "
before_request words fault = fault_line words fault

-- the request, the status and the end of the line
abbrev pub answer_behind : Fault → List ℕ
answer_behind (F.AnswerTo request status) = request ++ codes " isn't one of the Engine API's: " ++ (status_text status ++ codes "\n")
answer_behind fault = []
