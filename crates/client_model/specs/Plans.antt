-- What a command does, step by step: what it writes, what it asks, and how it goes on by the answer (own).
use Rattle.std.specs.Prelude.{ℕ, ◌==◌, nat_lt, List, [], ◌∷◌, ◌++◌, length, Bool, false, Option, Some, None, codes, if◌then◌else◌}
use Rattle.std.specs.Option.{option_map_or}
use Rattle.std.specs.List.{before_first}
use Rattle.http_edge.specs.Message.{Request}
use Rattle.http_edge.specs.declared.head.Head.{Head}
use Rattle.machine_model.specs.History.{Charter}
use Rattle.response_reader.specs.Answers.{Answer, NoHead, Answered}
use Rattle.client_model.specs.Bodies.{message_in}
use Rattle.client_model.specs.Requests.{request_bytes}
use Rattle.client_model.specs.Judgement.{Judgement}
use Rattle.client_model.specs.declared.fault.Fault.{Fault}
use Rattle.client_model.specs.declared.fault.Fault.TheVariants as F
use Rattle.client_model.specs.declared.showing.Showing.{Showing}
use Rattle.client_model.specs.declared.showing.Showing.TheVariants.{Kept}

-- what is written to standard output and to standard error
pub record Written : Type 0 where
  pub out : List ℕ
  pub err : List ℕ

-- a request, whether standard input follows it, and what is done with its answer's body as it comes
pub record Asked : Type 0 where
  pub request : Request
  pub input : Bool
  pub showing : Showing

-- how a command ends: with a status, or by a fault
pub data Ending : Type 0 where
  Done : ℕ → Ending
  Fails : Fault → Ending

-- it writes this, and ends; or it writes this, asks, and goes on by the answer; or it reads standard input to its end,
-- and goes on by what is said of that journal of a daemon opened so
pub data Plan : Type 0 where
  Ends : Written → Ending → Plan
  Asks : Written → Asked → (Answer → Plan) → Plan
  Judges : Charter → (Judgement → Plan) → Plan

-- ---- writing

abbrev pub nothing : Written
nothing = record { out = []; err = [] }

-- to standard output alone
abbrev pub to_out : List ℕ → Written
to_out text = record { out = text; err = [] }

-- this and then that
abbrev pub joined : Written → Written → Written
joined w v = record { out = w.out ++ v.out; err = w.err ++ v.err }

-- it writes this first
abbrev pub writes : Written → Plan → Plan
writes w (Ends v ending) = Ends (joined w v) ending
writes w (Asks v asked next) = Asks (joined w v) asked next
writes w (Judges charter next) = Judges charter (λ judgement. writes w (next judgement))

-- it prints a line, or each of some lines
abbrev pub prints : List ℕ → Plan → Plan
prints line plan = writes (to_out (line ++ codes "\n")) plan

abbrev pub prints_all : List (List ℕ) → Plan → Plan
prints_all [] plan = plan
prints_all (line ∷ lines) plan = prints line (prints_all lines plan)

-- ---- ending

abbrev pub ends : ℕ → Plan
ends status = Ends nothing (Done status)

abbrev pub done : Plan
done = ends 0

abbrev pub fails : Fault → Plan
fails fault = Ends nothing (Fails fault)

-- it goes on by what was read; where nothing could be, the answer isn't one of this API's
abbrev pub goes_on : {A : Type 0} → (A → Plan) → Option A → Plan
goes_on next read = option_map_or next read (fails F.Answer)

-- ---- bodies that are kept

-- the most bytes of a body that are kept: 64 MiB. own: so that no answer takes more memory
abbrev pub most_kept : ℕ
most_kept = 67108864

abbrev pub is_too_long : List ℕ → Bool
is_too_long body = nat_lt most_kept (length body)

-- what a body comes to that is kept and wasn't read to its end
abbrev pub cut_fault : List ℕ → Fault
cut_fault body = if is_too_long body then F.TooLong else F.Answer

-- it goes on by what is read of a whole body
abbrev pub reads : {A : Type 0} → (List ℕ → Option A) → (A → Plan) → List ℕ → Bool → Plan
reads read next body whole = if whole then goes_on next (read body) else fails (cut_fault body)

-- by a message: the request was refused
abbrev pub refuses : List ℕ → Bool → Plan
refuses = reads message_in (λ message. fails (F.Refused message))

-- ---- answers

-- An answer without a head isn't one of this API's. One with a status of 400 or more refuses, by a body that tells a
-- message. By another it goes on.
abbrev pub by_answer : (Head → List ℕ → Bool → Plan) → Answer → Plan
by_answer next NoHead = fails F.Answer
by_answer next (Answered h body whole) = if nat_lt h.status 400 then next h body whole else refuses body whole

-- the first line of a request, without its end
abbrev pub first_line : List ℕ → List ℕ
first_line bytes = before_first (λ b. b == 13) bytes

abbrev pub line_to : Request → List ℕ
line_to request = first_line (request_bytes request)

-- the status of an answer, where it has a head
abbrev pub status_in : Answer → Option ℕ
status_in NoHead = None
status_in (Answered h body whole) = Some h.status

-- a fault of an answer, told by the request's line and the answer's status; another as it is
abbrev pub fault_to : List ℕ → Option ℕ → Fault → Fault
fault_to line status F.Answer = F.AnswerTo line status
fault_to line status fault = fault

-- a plan that ends at once by a fault of an answer tells it so
abbrev pub named : List ℕ → Option ℕ → Plan → Plan
named line status (Ends w (Fails fault)) = Ends w (Fails (fault_to line status fault))
named line status plan = plan

-- it goes on by the answer to this request
abbrev pub by_answer_to : Request → (Head → List ℕ → Bool → Plan) → Answer → Plan
by_answer_to request next answer = named (line_to request) (status_in answer) (by_answer next answer)

-- ---- asking

-- it asks, and goes on by the answer to that
abbrev pub asks_for : Asked → (Head → List ℕ → Bool → Plan) → Plan
asks_for asked next = Asks nothing asked (by_answer_to asked.request next)

-- a request whose answer's body is kept
abbrev pub kept : Request → Asked
kept request = record { request = request; input = false; showing = Kept }

-- it asks, and goes on by what is read of the answer's body
abbrev pub asks : {A : Type 0} → Request → (List ℕ → Option A) → (A → Plan) → Plan
asks request read next = asks_for (kept request) (λ h body whole. reads read next body whole)

-- it asks, and prints this
abbrev pub asks_and_prints : Request → List ℕ → Plan
asks_and_prints request line = asks request Some (λ body. prints line done)

-- it asks, and prints the body
abbrev pub asks_and_shows : Request → Plan
asks_and_shows request = asks request Some (λ body. prints body done)
