-- What a request to networks is answered that others share (own: by the names that stood when their lock was taken).
use Rattle.std.specs.Prelude.{ℕ, ◌≡◌, List, Result, Ok, Err}
use Rattle.http_edge.specs.Message.{Request}
use Rattle.engine_text.specs.declared.memory.NoMemory.{NoMemory}
use Rattle.lab_networks.specs.Steps.{step}
use Rattle.lab_networks.specs.declared.answer.Answer.{Answer}
use Rattle.lab_networks.specs.declared.asking.Kind.{Kind}

-- by some names that stood
abbrev pub IsAnswerTo : Kind → Request → Answer → Type 0
IsAnswerTo kind request told = (names : List (List ℕ)) × (told ≡ (step kind names request).1)

-- or there was no memory
abbrev pub AnswersSo : Kind → Request → Result Answer NoMemory → Type 0
AnswersSo kind request (Ok told) = IsAnswerTo kind request told
AnswersSo kind request (Err lack) = Unit {0}
