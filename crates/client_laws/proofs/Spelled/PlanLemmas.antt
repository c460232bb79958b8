-- Plans that ask only what is spelled by its bytes, whatever the answers are.
use Rattle.std.proofs.Common.{ℕ, ◌++◌, List, [], ◌∷◌, Bool, true, false, cond, codes, Option, Some, None, All}
use Rattle.std.specs.Prelude.{⊤, nat_lt, ◌&&◌}
use Rattle.std.specs.Option.{IfSome}
use Rattle.std.proofs.lemmas.List.Elements.{All-nil, All-cons}
use Rattle.http_edge.specs.Message.{Request}
use Rattle.http_edge.specs.declared.head.Head.{Head}
use Rattle.response_reader.specs.Answers.{Answer, NoHead, Answered}
use Rattle.client_model.specs.Judgement.{Judgement}
use Rattle.client_model.specs.declared.fault.Fault.TheVariants as F
use Rattle.client_model.specs.Bodies.{message_in}
use Rattle.client_model.specs.Plans.{Plan, Ends, Asks, Judges, Done, Fails, Written, Asked, to_out, writes, prints, prints_all, fails, done, goes_on, reads, refuses, kept, by_answer, line_to, status_in, named, asks_for, asks, asks_and_prints, asks_and_shows}
use Rattle.client_model.specs.Streams.{shows, may_end, streams}
use Rattle.client_model.specs.declared.showing.Showing.{Showing}
use Rattle.client_model.specs.Client.{said_by}
use Rattle.client_laws.specs.Spelled.{IsSpelled}
use Rattle.client_laws.proofs.Spelled.WordLemmas.{IfSome-each}
use Rattle.client_laws.proofs.Spelled.RequestLemmas.{SpellsItself}

-- each request that the plan asks for is spelled by its bytes, by any answers
abbrev pub AsksSpelled : Plan → Type 0
AsksSpelled (Ends w ending) = ⊤
AsksSpelled (Asks w asked next) = IsSpelled asked × ((answer : Answer) → AsksSpelled (next answer))
AsksSpelled (Judges charter next) = (judgement : Judgement) → AsksSpelled (next judgement)

-- ---- writing

pub written : (w : Written) (plan : Plan) → AsksSpelled plan → AsksSpelled (writes w plan)
written w (Ends v ending) is = tt
written w (Asks v asked next) is = is
written w (Judges charter next) is = λ judgement. written w (next judgement) (is judgement)

pub printed : (line : List ℕ) (plan : Plan) → AsksSpelled plan → AsksSpelled (prints line plan)
printed line plan is = written (to_out (line ++ codes "\n")) plan is

pub all_printed : (lines : List (List ℕ)) (plan : Plan) → AsksSpelled plan → AsksSpelled (prints_all lines plan)
all_printed [] plan is = is
all_printed (line ∷ lines) plan is = printed line (prints_all lines plan) (all_printed lines plan is)

-- ---- asking

going : {A : Type 0} (next : A → Plan) (read : Option A) → IfSome read (λ x. AsksSpelled (next x)) → AsksSpelled (goes_on next read)
going next None is = tt
going next (Some x) is = is

pub reading : {A : Type 0} (read : List ℕ → Option A) (next : A → Plan) (body : List ℕ) (whole : Bool) → IfSome (read body) (λ x. AsksSpelled (next x))
    → AsksSpelled (reads read next body whole)
reading read next body true is = going next (read body) is
reading read next body false is = tt

answered : (next : Head → List ℕ → Bool → Plan)
    → ((h : Head) (body : List ℕ) (whole : Bool) → AsksSpelled (next h body whole))
    → (answer : Answer) → AsksSpelled (by_answer next answer)
answered next each NoHead = tt
answered next each (Answered h body whole) = by (nat_lt h.status 400)
  where
    by : (t : Bool) → AsksSpelled (cond t (next h body whole) (refuses body whole))
    by true = each h body whole
    by false =
        reading message_in (λ message. fails (F.Refused message)) body whole
        (IfSome-each (λ message. AsksSpelled (fails (F.Refused message))) (message_in body) (λ message. tt))

-- also where a fault names its request
telling : (line : List ℕ) (status : Option ℕ) (plan : Plan) → AsksSpelled plan → AsksSpelled (named line status plan)
telling line status (Ends w (Done code)) is = is
telling line status (Ends w (Fails fault)) is = is
telling line status (Asks w asked next) is = is
telling line status (Judges charter next) is = is

-- it asks, and goes on so by each answer that doesn't refuse
pub asking_for : (asked : Asked) (next : Head → List ℕ → Bool → Plan) → IsSpelled asked
    → ((h : Head) (body : List ℕ) (whole : Bool) → AsksSpelled (next h body whole)) → AsksSpelled (asks_for asked next)
asking_for asked next is each =
    (is, λ answer. telling (line_to asked.request) (status_in answer) (by_answer next answer) (answered next each answer))

-- it asks, and what is read of an answer goes on so
pub asking : {A : Type 0} (request : Request) (read : List ℕ → Option A) (next : A → Plan) → SpellsItself request
    → ((body : List ℕ) → IfSome (read body) (λ x. AsksSpelled (next x)))
    → AsksSpelled (asks request read next)
asking request read next is each =
    asking_for (kept request) (λ h body whole. reads read next body whole) is (λ h body whole. reading read next body whole (each body))

-- it goes on so whatever is read
pub asking_any : {A : Type 0} (request : Request) (read : List ℕ → Option A) (next : A → Plan) → SpellsItself request
    → ((x : A) → AsksSpelled (next x)) → AsksSpelled (asks request read next)
asking_any request read next is each =
    asking request read next is (λ body. IfSome-each (λ x. AsksSpelled (next x)) (read body) each)

pub asking_prints : (request : Request) (line : List ℕ) → SpellsItself request → AsksSpelled (asks_and_prints request line)
asking_prints request line is = asking_any request Some (λ body. prints line done) is (λ body. tt)

pub asking_shows : (request : Request) → SpellsItself request → AsksSpelled (asks_and_shows request)
asking_shows request is = asking_any request Some (λ body. prints body done) is (λ body. tt)

pub streaming : (showing : Showing) (request : Request) (input : Bool) (next : Plan)
    → SpellsItself request → AsksSpelled next → AsksSpelled (streams showing request input next)
streaming showing request input next is behind =
    asking_for (record { request = request; input = input; showing = showing })
    (λ h body whole. writes (shows showing body) (cond (whole && may_end showing body) next (fails F.Answer))) is
    (λ h body whole. written (shows showing body) (cond (whole && may_end showing body) next (fails F.Answer)) (by (whole && may_end showing body)))
  where
    by : (t : Bool) → AsksSpelled (cond t next (fails F.Answer))
    by true = behind
    by false = tt

-- ---- what is said

pub all_spelled : (plan : Plan) (verdict : Option Judgement) (answers : List Answer) → AsksSpelled plan
    → All IsSpelled (said_by plan verdict answers).asked
all_spelled (Ends w ending) verdict answers is = All-nil IsSpelled
all_spelled (Asks w asked next) verdict [] is = All-cons IsSpelled asked [] is.0 (All-nil IsSpelled)
all_spelled (Asks w asked next) verdict (answer ∷ answers) is =
    All-cons IsSpelled asked (said_by (next answer) verdict answers).asked is.0 (all_spelled (next answer) verdict answers (is.1 answer))
all_spelled (Judges charter next) None answers is = All-nil IsSpelled
all_spelled (Judges charter next) (Some verdict) answers is = all_spelled (next verdict) None answers (is verdict)
