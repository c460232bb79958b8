-- What holds of turns, and of the answers that they bring. own: the serving of this project.
use Rattle.std.specs.Prelude.{ℕ, ◌≡◌, List, [], ◌∷◌, Some, IsFalse, IsTrue}
use Rattle.engine_ports.specs.Clock.{ClockView, ClockHanded}
use Rattle.engine_text.specs.declared.call.Call.{Call}
use Rattle.engine_text.specs.declared.reply.Reply.TheVariants.{Answer}
use Rattle.http_edge.specs.Message.{Request}
use Rattle.machine_model.specs.History.{IsLegal, is_drop}
use Rattle.api_routes.specs.Class.{class_of}
use Rattle.api_routes.specs.declared.class.Class.TheVariants.{Direct, Ask}
use Rattle.api_routes.specs.declared.class.DirectAnswer.{DirectAnswer}
use Rattle.session_model.specs.declared.turned.Awaited.{Awaited}
use Rattle.session_model.specs.declared.turned.Turned.{Turned}
use Rattle.session_model.specs.declared.turned.Turned.TheVariants.{Replied, Begun, JournalFull, NoMemory}
use Rattle.session_model.specs.Exchange.{call_of, flow_of, is_early}
use Rattle.session_model.specs.Pass.{PassView}
use Rattle.session_model.specs.Progress.{Moves}
use Rattle.session_model.specs.Responses.{terms_of, answer_bytes, direct_bytes, journal_full_response, out_of_memory_response}
use Rattle.session_model.specs.Turning.{Turn}
use Rattle.attach_hub.specs.Waiting.{AwaitSays}
use Rattle.exchange_laws.specs.Turns.{TurnComes}
use Rattle.exchange_laws.specs.Answers.{Answers, IsOfEarlyWait, IsOfWait, early_flow, waited_flow}

-- a turn with a call that is no drop, of a pass that keeps the number of its input, comes to what its answer says
abbrev pub law_turns : Type 0
law_turns =
    (k handed : ℕ) (c : Call) (result : Turned) (p q : PassView) (v w : ClockView) → IsTrue p.pair → IsFalse (is_drop c)
    → ClockHanded v (handed ∷ []) w → Turn k handed (Some c) result p q → TurnComes k handed c result p q v w

-- what a request is answered by that its bytes decide, or whose class isn't known for want of memory; and one whose call was made
-- and answered whole, or wasn't made for want of room or of memory
pub record AnswerLaws (k : ℕ) (r : Request) (p q : PassView) (v w : ClockView) : Type 0 where
  pub direct : (answer : DirectAnswer) → class_of r ≡ Direct answer
      → Answers k r (flow_of (terms_of r)) (direct_bytes (terms_of r) answer) p p v v
  pub unclassed : Answers k r (flow_of (terms_of r)) (out_of_memory_response (terms_of r)) p p v v
  pub replied : (handed : ℕ) (c : Call) (status : ℕ) (body : List ℕ) → call_of (class_of r) ≡ Some c
      → TurnComes k handed c (Replied (Answer status body)) p q v w
      → Answers k r (flow_of (terms_of r)) (answer_bytes (terms_of r) status body) p q v w
  pub full : (handed : ℕ) (c : Call) → call_of (class_of r) ≡ Some c → TurnComes k handed c JournalFull p q v w
      → Answers k r (flow_of (terms_of r)) (journal_full_response (terms_of r)) p q v w
  pub short : (handed : ℕ) (c : Call) → call_of (class_of r) ≡ Some c → TurnComes k handed c NoMemory p q v w
      → Answers k r (flow_of (terms_of r)) (out_of_memory_response (terms_of r)) p q v w

abbrev pub law_answers : Type 0
law_answers = (k : ℕ) (r : Request) (p q : PassView) (v w : ClockView) → AnswerLaws k r p q v w

-- a request whose call gave a ticket is answered by what the wait for it came to
abbrev pub law_waits : Type 0
law_waits =
    (k handed n : ℕ) (r : Request) (c : Call) (awaited : Awaited) (whole : List ℕ) (p q s : PassView) (u v w : ClockView)
    → class_of r ≡ Ask c → IsFalse (is_early r c) → TurnComes k handed c (Begun n) p q u v
    → (last : Moves k q s v w) → AwaitSays p.charter k n q.seen s.seen awaited last.handed v w
    → IsOfWait (terms_of r) awaited whole → Answers k r (waited_flow (terms_of r) awaited) whole p s u w

-- the same of a wait whose head came early
abbrev pub law_early_waits : Type 0
law_early_waits =
    (k handed n : ℕ) (r : Request) (c : Call) (awaited : Awaited) (whole : List ℕ) (p q s : PassView) (u v w : ClockView)
    → class_of r ≡ Ask c → IsTrue (is_early r c) → TurnComes k handed c (Begun n) p q u v → IsLegal p.charter q.seen
    → (last : Moves k q s v w) → AwaitSays p.charter k n q.seen s.seen awaited last.handed v w
    → IsOfEarlyWait (terms_of r) awaited whole → Answers k r (early_flow (terms_of r) awaited) whole p s u w
