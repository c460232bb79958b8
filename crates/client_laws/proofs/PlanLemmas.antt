-- The classes of what a plan asks, step by step.
use Rattle.std.proofs.Common.{◌≡◌, ℕ, ◌&&◌, Bool, true, false, List, [], ◌∷◌, ◌++◌, codes, cond, Option, Some, None, refl, ap, ◌∙◌}
use Rattle.std.specs.Prelude.{nat_lt}
use Rattle.std.specs.Option.{option_map_or}
use Rattle.http_edge.specs.Message.{Request}
use Rattle.http_edge.specs.declared.head.Head.{Head}
use Rattle.response_reader.specs.Answers.{Answer, NoHead, Answered}
use Rattle.api_routes.specs.Class.{class_of, or_refusal}
use Rattle.client_model.specs.Judgement.{Judgement}
use Rattle.client_model.specs.Bodies.{message_in}
use Rattle.client_model.specs.Plans.{Plan, Ends, Asks, Judges, Done, Fails, Written, Asked, to_out, writes, prints_all, done, fails, goes_on, reads, refuses, kept, by_answer, line_to, status_in, named, by_answer_to, asks_for, asks}
use Rattle.client_model.specs.Streams.{shows, may_end, streams}
use Rattle.client_model.specs.declared.showing.Showing.{Showing}
use Rattle.client_model.specs.declared.showing.Showing.TheVariants.{Kept}
use Rattle.client_model.specs.Client.{said_by}
use Rattle.client_model.specs.declared.fault.Fault.TheVariants as F
use Rattle.client_laws.specs.Classes as class
use Rattle.client_laws.specs.Table.{Entry, alone, fed, if_whole, body_by, then_by, once}
use Rattle.client_laws.specs.Asked.{entry_of, entries_of}

-- what a plan asks, as the daemon classifies it
abbrev pub entries : Plan → Option Judgement → List Answer → List Entry
entries plan verdict answers = entries_of (said_by plan verdict answers).asked

-- it asks nothing
abbrev pub AsksNone : Plan → Type 0
AsksNone plan = (verdict : Option Judgement) (answers : List Answer) → entries plan verdict answers ≡ []

-- what is written first asks nothing more
pub writes-asks : (w : Written) (plan : Plan) (verdict : Option Judgement) (answers : List Answer)
    → entries (writes w plan) verdict answers ≡ entries plan verdict answers
writes-asks w (Ends v ending) verdict answers = refl
writes-asks w (Asks v asked next) verdict [] = refl
writes-asks w (Asks v asked next) verdict (answer ∷ answers) = refl
writes-asks w (Judges charter next) None answers = refl
writes-asks w (Judges charter next) (Some verdict) answers = writes-asks w (next verdict) None answers

pub all-printed : (lines : List (List ℕ)) → AsksNone (prints_all lines done)
all-printed [] verdict answers = refl
all-printed (line ∷ lines) verdict answers = writes-asks (to_out (line ++ codes "\n")) (prints_all lines done) verdict answers ∙ all-printed lines verdict answers

-- ---- the way on behind an answer

-- what a plan asks behind an answer, where it goes on by what is read of it
abbrev GoesBy : {A : Type 0} → (Answer → Plan) → Option Judgement → (Answer → Option A) → (A → List Answer → List Entry) → Type 0
GoesBy next verdict read after = (answer : Answer) (answers : List Answer) → entries (next answer) verdict answers ≡ option_map_or (λ x. after x answers) (read answer) []

-- how a fault is told asks nothing
named-asks : (line : List ℕ) (status : Option ℕ) (plan : Plan) (verdict : Option Judgement) (answers : List Answer)
    → entries (named line status plan) verdict answers ≡ entries plan verdict answers
named-asks line status (Ends w (Done code)) verdict answers = refl
named-asks line status (Ends w (Fails fault)) verdict answers = refl
named-asks line status (Asks w asked next) verdict answers = refl
named-asks line status (Judges charter next) verdict answers = refl

-- it asks, and goes on by the answer to that
pub asks-for : {A : Type 0} (asked : Asked) (next : Head → List ℕ → Bool → Plan) (verdict : Option Judgement) (entry : Entry)
    (read : Answer → Option A) (after : A → List Answer → List Entry) → entry_of asked ≡ entry → GoesBy (by_answer next) verdict read after
    → (answers : List Answer) → entries (asks_for asked next) verdict answers ≡ then_by entry read after answers
asks-for asked next verdict entry read after same on [] = ap (λ e. e ∷ []) same
asks-for asked next verdict entry read after same on (answer ∷ answers) =
    ap (λ e. e ∷ entries (by_answer_to asked.request next answer) verdict answers) same
    ∙ ap (λ rest. entry ∷ rest) (named-asks (line_to asked.request) (status_in answer) (by_answer next answer) verdict answers ∙ on answer answers)

-- a request of this meaning
pub same-entry : (request : Request) (input : Bool) (showing : Showing) (says : class.Meaning) → class_of request ≡ or_refusal says
    → entry_of (record { request = request; input = input; showing = showing }) ≡ fed input says
same-entry request input showing says same = ap (λ c. record { class = c; input = input }) same

-- what is read of a body
pub read-goes : {A : Type 0} (read : List ℕ → Option A) (next : A → Plan) (body : List ℕ) (whole : Bool) (verdict : Option Judgement) (answers : List Answer) (after : A → List Entry)
    → ((x : A) → read body ≡ Some x → entries (next x) verdict answers ≡ after x)
    → entries (reads read next body whole) verdict answers ≡ option_map_or after (if_whole whole (read body)) []
read-goes {A = A} read next body true verdict answers after on = found (read body) refl
  where
    found : (o : Option A) → read body ≡ o → entries (goes_on next o) verdict answers ≡ option_map_or after o []
    found None same = refl
    found (Some x) same = on x same
read-goes read next body false verdict answers after on = refl

-- nothing is asked, whatever is read
pub none-read : {A : Type 0} (o : Option A) → option_map_or {U = List Entry} (λ x. []) o [] ≡ []
none-read None = refl
none-read (Some x) = refl

-- a refusal ends the command
pub refused : (whole : Bool) (body : List ℕ) (verdict : Option Judgement) (answers : List Answer) → entries (refuses body whole) verdict answers ≡ []
refused whole body verdict answers =
    read-goes message_in (λ message. fails (F.Refused message)) body whole verdict answers (λ message. []) (λ message same. refl)
    ∙ none-read (if_whole whole (message_in body))

body-goes-by : {A : Type 0} (read : List ℕ → Option A) (next : A → Plan) (verdict : Option Judgement) (after : A → List Answer → List Entry)
    → ((x : A) (body : List ℕ) → read body ≡ Some x → (answers : List Answer) → entries (next x) verdict answers ≡ after x answers)
    → GoesBy (by_answer (λ h body whole. reads read next body whole)) verdict (body_by read) after
body-goes-by {A = A} read next verdict after on NoHead answers = refl
body-goes-by {A = A} read next verdict after on (Answered h body whole) answers = by (nat_lt h.status 400)
  where
    by : (t : Bool) → entries (cond t (reads read next body whole) (refuses body whole)) verdict answers
        ≡ option_map_or (λ x. after x answers) (cond t (if_whole whole (read body)) None) []
    by true = read-goes read next body whole verdict answers (λ x. after x answers) (λ x same. on x body same answers)
    by false = refused whole body verdict answers

-- it asks, and goes on by what is read of the body
pub asks-calls : {A : Type 0} (request : Request) (read : List ℕ → Option A) (next : A → Plan) (verdict : Option Judgement) (says : class.Meaning)
    (after : A → List Answer → List Entry) → class_of request ≡ or_refusal says
    → ((x : A) (body : List ℕ) → read body ≡ Some x → (answers : List Answer) → entries (next x) verdict answers ≡ after x answers)
    → (answers : List Answer) → entries (asks request read next) verdict answers ≡ then_by (alone says) (body_by read) after answers
asks-calls request read next verdict says after same on =
    asks-for (kept request) (λ h body whole. reads read next body whole)
    verdict (alone says) (body_by read) after (same-entry request false Kept says same) (body-goes-by read next verdict after on)

-- what a whole body is, where it ends where it may
abbrev pub if_ended : (List ℕ → Bool) → List ℕ → Option (List ℕ)
if_ended may_end body = cond (may_end body) (Some body) None

stream-goes-by : (showing : Showing) (next : Plan) (verdict : Option Judgement) (after : List Answer → List Entry)
    → ((answers : List Answer) → entries next verdict answers ≡ after answers)
    → GoesBy (by_answer (λ h body whole. writes (shows showing body) (cond (whole && may_end showing body) next (fails F.Answer)))) verdict
    (body_by (if_ended (may_end showing))) (λ body. after)
stream-goes-by showing next verdict after on NoHead answers = refl
stream-goes-by showing next verdict after on (Answered h body whole) answers = by (nat_lt h.status 400)
  where
    behind : (t : Bool) → entries (cond t next (fails F.Answer)) verdict answers ≡ option_map_or (λ x. after answers) (cond t (Some body) None) []
    behind true = on answers
    behind false = refl

    by_whole : (whole : Bool) → entries (cond (whole && may_end showing body) next (fails F.Answer)) verdict answers
        ≡ option_map_or (λ x. after answers) (if_whole whole (if_ended (may_end showing) body)) []
    by_whole true = behind (may_end showing body)
    by_whole false = refl

    by : (t : Bool) → entries (cond t (writes (shows showing body) (cond (whole && may_end showing body) next (fails F.Answer))) (refuses body whole)) verdict answers
        ≡ option_map_or (λ x. after answers) (cond t (if_whole whole (if_ended (may_end showing) body)) None) []
    by true = writes-asks (shows showing body) (cond (whole && may_end showing body) next (fails F.Answer)) verdict answers ∙ by_whole whole
    by false = refused whole body verdict answers

-- it asks, writes what comes, and goes on behind it
pub streams-calls : (showing : Showing) (request : Request) (input : Bool) (next : Plan) (verdict : Option Judgement)
    (says : class.Meaning) (after : List Answer → List Entry) → class_of request ≡ or_refusal says
    → ((answers : List Answer) → entries next verdict answers ≡ after answers)
    → (answers : List Answer) → entries (streams showing request input next) verdict answers ≡ then_by (fed input says) (body_by (if_ended (may_end showing))) (λ body. after) answers
streams-calls showing request input next verdict says after same on =
    asks-for (record { request = request; input = input; showing = showing })
    (λ h body whole. writes (shows showing body) (cond (whole && may_end showing body) next (fails F.Answer)))
    verdict (fed input says) (body_by (if_ended (may_end showing))) (λ body. after) (same-entry request input showing says same) (stream-goes-by showing next verdict after on)

-- ---- one request

-- nothing is asked behind it
pub none-behind : {A : Type 0} (says : class.Meaning) (read : Answer → Option A) (answers : List Answer) → then_by (alone says) read (λ x answers. []) answers ≡ once says
none-behind {A = A} says read [] = refl
none-behind {A = A} says read (answer ∷ answers) = by (read answer)
  where
    by : (o : Option A) → alone says ∷ option_map_or (λ x. []) o [] ≡ once says
    by None = refl
    by (Some x) = refl

pub asks-once : {A : Type 0} (request : Request) (read : List ℕ → Option A) (next : A → Plan) (verdict : Option Judgement) (says : class.Meaning)
    → class_of request ≡ or_refusal says → ((x : A) → AsksNone (next x))
    → (answers : List Answer) → entries (asks request read next) verdict answers ≡ once says
asks-once request read next verdict says same none answers =
    asks-calls request read next verdict says (λ x answers. []) same (λ x body found. none x verdict) answers ∙ none-behind says (body_by read) answers

pub streams-once : (showing : Showing) (request : Request) (next : Plan) (verdict : Option Judgement)
    (says : class.Meaning) → class_of request ≡ or_refusal says → AsksNone next
    → (answers : List Answer) → entries (streams showing request false next) verdict answers ≡ once says
streams-once showing request next verdict says same none answers =
    streams-calls showing request false next verdict says (λ answers. []) same (none verdict) answers ∙ none-behind says (body_by (if_ended (may_end showing))) answers
