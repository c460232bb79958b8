-- The line of a fault, in two parts.
use Rattle.std.proofs.Common.{◌≡◌, ℕ, List, [], ◌++◌, codes, refl, sym, ap, ◌∙◌, append_assoc, append-nil, subst, Option, Result, Ok, Err}
use Rattle.engine_ports.specs.Sink.{SinkView, WriteSays}
use Rattle.engine_ports.specs.declared.ports.Failed.{Failed}
use Rattle.engine_ports.proofs.PortLemmas.{sink_none, failed_first, written_on}
use Rattle.client_model.specs.Faults.{status_text, fault_line}
use Rattle.client_model.specs.declared.fault.Fault.{Fault}
use Rattle.client_model.specs.declared.fault.Fault.TheVariants as F
use Rattle.client_parts.specs.Telling.{before_request, answer_behind}

-- both are the line
pub line_so : (words : List (List ℕ)) (fault : Fault) → before_request words fault ++ answer_behind fault ≡ fault_line words fault
line_so words (F.AnswerTo request status) =
    ap (λ l. codes "dockc: the answer to " ++ l)
    (sym (append_assoc (request ++ codes " isn't one of the Engine API's: ") (status_text status) (codes "\n")))
line_so words F.Words = append-nil (fault_line words F.Words)
line_so words F.Input = append-nil (fault_line words F.Input)
line_so words F.Output = append-nil (fault_line words F.Output)
line_so words F.Errors = append-nil (fault_line words F.Errors)
line_so words F.Answer = append-nil (fault_line words F.Answer)
line_so words F.NoCode = append-nil (fault_line words F.NoCode)
line_so words F.NoCheck = append-nil (fault_line words F.NoCheck)
line_so words F.EventsGone = append-nil (fault_line words F.EventsGone)
line_so words F.TooLong = append-nil (fault_line words F.TooLong)
line_so words F.NoMemory = append-nil (fault_line words F.NoMemory)
line_so words (F.Refused message) = append-nil (fault_line words (F.Refused message))
line_so words F.Link = append-nil (fault_line words F.Link)
line_so words F.Connection = append-nil (fault_line words F.Connection)

-- another fault than that of an answer has none behind it
pub no_answer : (fault : Fault) → ((request : List ℕ) (status : Option ℕ) → fault ≡ F.AnswerTo request status → ⊥) → answer_behind fault ≡ []
no_answer (F.AnswerTo request status) other = absurd (other request status refl)
no_answer F.Words other = refl
no_answer F.Input other = refl
no_answer F.Output other = refl
no_answer F.Errors other = refl
no_answer F.Answer other = refl
no_answer F.NoCode other = refl
no_answer F.NoCheck other = refl
no_answer F.EventsGone other = refl
no_answer F.TooLong other = refl
no_answer F.NoMemory other = refl
no_answer (F.Refused message) other = refl
no_answer F.Link other = refl
no_answer F.Connection other = refl

-- ---- what is written

-- of a fault, behind its line
pub behind_so : (fault other : Fault) (result : Result (Unit {0}) Failed) (v v' : SinkView) → fault ≡ other → WriteSays result (answer_behind other) v v'
    → WriteSays result (answer_behind fault) v v'
behind_so fault other result v v' is says = subst (λ l. WriteSays result l v v') (ap answer_behind (sym is)) says

pub behind_none : (fault : Fault) (x : Unit {0}) (v : SinkView) → ((request : List ℕ) (status : Option ℕ) → fault ≡ F.AnswerTo request status → ⊥)
    → WriteSays (Ok x) (answer_behind fault) v v
behind_none fault x v other = subst (λ l. WriteSays (Ok x) l v v) (sym (no_answer fault other)) (sink_none v)

-- both parts of it
pub line_written : (words : List (List ℕ)) (fault : Fault) (front : List ℕ) (x : Unit {0}) (result : Result (Unit {0}) Failed) (u v w : SinkView)
    → front ≡ before_request words fault → WriteSays (Ok x) front u v → WriteSays result (answer_behind fault) v w → WriteSays result (fault_line words fault) u w
line_written words fault front x result u v w is first behind =
    subst (λ l. WriteSays result l u w) (ap (λ l. l ++ answer_behind fault) is ∙ line_so words fault)
    (written_on x result front (answer_behind fault) u v w first behind)

pub line_failed : (words : List (List ℕ)) (fault : Fault) (front : List ℕ) (x : Failed) (u v : SinkView) → front ≡ before_request words fault
    → WriteSays (Err x) front u v → WriteSays (Err x) (fault_line words fault) u v
line_failed words fault front x u v is first =
    subst (λ l. WriteSays (Err x) l u v) (ap (λ l. l ++ answer_behind fault) is ∙ line_so words fault)
    (failed_first x front (answer_behind fault) u v first)
