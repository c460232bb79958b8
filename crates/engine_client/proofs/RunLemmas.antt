-- What a call says of its outside, by what was done of its plan.
use Rattle.std.proofs.Common.{◌≡◌, ◌⊎◌, ◌≤◌, inl, inr, ℕ, List, [], ◌∷◌, ◌++◌, length, map, refl, sym, ap, ◌∙◌, subst, append-nil, Option, Some, None, Bool, true, false}
use Rattle.std.specs.Prelude.{if◌then◌else◌}
use Rattle.std.specs.List.{list_any}
use Rattle.engine_ports.specs.Rose.{Rose}
use Rattle.engine_ports.specs.Source.{SourceView, SourceGave}
use Rattle.engine_ports.specs.Sink.{SinkView, SinkTook, IsFront}
use Rattle.engine_ports.specs.Link.{LinkView, others, but_for}
use Rattle.engine_ports.proofs.PortLemmas.{sink_on, rose_since}
use Rattle.response_reader.specs.Answers.{Answer}
use Rattle.client_model.specs.Judgement.{Judgement}
use Rattle.client_model.specs.Requests.{request_bytes}
use Rattle.client_model.specs.Faults.{fault_line}
use Rattle.client_model.specs.Lines.{address_in}
use Rattle.client_model.specs.Plans.{Plan, Ends, Asks, Judges, Asked, Written, Ending, nothing, joined}
use Rattle.client_model.specs.Client.{Said, said, said_by, plan_for, IsJudged, status_at, line_at}
use Rattle.client_model.specs.Runs.{Outside, Exchange, HaveCome, AreLeft, sent_by, WasSent, asks_input, InputStands, AreFronts, WroteLine, IsEnded, Course, LacksJudgement, but_last, said_sooner, BreaksBehind, BreaksWithin, missed_by, IsBrokenOff}
use Rattle.client_model.specs.declared.fault.Fault.{Fault}
use Rattle.client_exchange.specs.Outputs.{outputs, BothTook}
use Rattle.client_exchange.proofs.OutputLemmas.{both_on, fronts_none, fronts_all, fronts_behind, fronts_longer, none_first}
use Rattle.client_exchange.specs.Exchanges.{Reach, FailsOn}
use Rattle.client_exchange.specs.Walks.{IsAsking, said_behind, WroteBefore, Walked, AsksFirst, StopsBefore, StopsIn, StopsQuietly}
use Rattle.client_exchange.proofs.WalkLemmas.{came_on, left_on}
use Rattle.engine_client.specs.Running.{outside_of, reach_of, Tells}
use Rattle.engine_client.proofs.CauseLemmas.{alone_cause, behind_until, within_cause, within_until, as_often}

-- ---- plans that ask for no judgement

not_judging : (plan : Plan) (input : List ℕ) → IsAsking plan → IsJudged plan input None
not_judging (Ends w ending) input asking = refl
not_judging (Asks w asked next) input asking = refl
not_judging (Judges charter next) input asking = absurd asking

read_so : (plan : Plan) (asked : List Asked) (now : Bool) (given input : List ℕ) (v v' : SourceView) → IsAsking plan
    → InputStands (list_any (λ a. a.input) asked) now given input v v' → InputStands (asks_input plan asked) now given input v v'
read_so (Ends w ending) asked now given input v v' asking reads = reads
read_so (Asks w first next) asked now given input v v' asking reads = reads
read_so (Judges charter next) asked now given input v v' asking reads = absurd asking

-- ---- the line of a fault

pub line_since : (e e' e'' : SinkView) (part line : List ℕ) → e.faults ≤ e'.faults → WroteLine e' part line e'' → WroteLine e part line e''
line_since e e' e'' part line le (inl is) = inl is
line_since e e' e'' part line le (inr (front, rose)) = inr (front, rose_since e.faults e'.faults e''.faults le rose)

-- ---- ends

pub ended : (words : List (List ℕ)) (input : List ℕ) (next : Plan) (w : Written) (ending : Ending) (status : ℕ) (o o' : Outside) (p : Reach) (e : SinkView) (part : List ℕ)
    → IsAsking (plan_for words) → (way : Walked (plan_for words) input (reach_of (address_in words) o) next p) → next ≡ Ends w ending → BothTook p.shown w (outputs o'.out e)
    → but_for (address_in words) o'.link ≡ p.link
    → SourceGave o.input input o'.input → InputStands (list_any (λ a. a.input) way.asked) false [] input o.input o'.input
    → SinkTook e part o'.err → WroteLine e part (line_at words ending) o'.err → status ≡ status_at ending → IsEnded words status o o'
ended words input next w ending status o o' p e part asking way next_is took link gave reads told line status_is = record {
  xs = way.xs;
  answers = way.answers;
  input = input;
  judgement = None;
  said = said way.asked all (Some ending);
  ending = ending;
  part = part;
  meets = record {
    came = subst (λ (l : LinkView). HaveCome o.link.coming (map (λ x. x.came) way.xs) l.coming) (sym link) way.came;
    left = subst (λ (l : LinkView). AreLeft o.link.past (map (λ x. x.left) way.xs) l.past) (sym link) way.left;
    others = ap (λ (l : LinkView). l.addresses) link ∙ way.others;
    input_gave = gave;
  };
  missed = ap (λ (l : LinkView). l.faults) link ∙ way.faults;
  whole = record { judged = not_judging (plan_for words) input asking; answered = way.answered; sent = way.sent };
  says = says;
  ended = refl;
  input_read = read_so (plan_for words) way.asked false [] input o.input o'.input asking reads;
  out = both.out;
  err = sink_on o.err e o'.err all.err part both.err told;
  line = line_since o.err e o'.err part (line_at words ending) both.err.faults line;
  status_is = status_is;
}
  where
    all : Written
    all = joined way.written w

    both : BothTook (outputs o.out o.err) (joined way.written w) (outputs o'.out e)
    both = both_on (outputs o.out o.err) p.shown (outputs o'.out e) way.written w way.took took

    says : said way.asked (joined way.written w) (Some ending) ≡ said_by (plan_for words) None way.answers
    says =
        ap (λ l. said l (joined way.written w) (Some ending)) (sym (append-nil way.asked))
        ∙ ap (λ n. said_behind way.asked way.written (said_by n None [])) (sym next_is) ∙ sym (way.says [])
        ∙ ap (said_by (plan_for words) None) (append-nil way.answers)

-- ---- what was said before the last answer

abbrev last_in : Answer → List Answer → Answer
last_in answer [] = answer
last_in answer (next ∷ answers) = last_in next answers

but_last_on : (answer : Answer) (answers : List Answer) → answer ∷ answers ≡ but_last answer answers ++ last_in answer answers ∷ []
but_last_on answer [] = refl
but_last_on answer (next ∷ answers) = ap (λ l. answer ∷ l) (but_last_on next answers)

sooner_front : (plan : Plan) (answers : List Answer) (w : Written) → WroteBefore plan answers w → AreFronts (said_sooner plan None answers) w
sooner_front plan [] w wrote = fronts_none w
sooner_front plan (answer ∷ answers) w wrote = wrote (but_last answer answers) (last_in answer answers) (but_last_on answer answers)

-- ---- broken off

abbrev pub Breaks : Plan → Fault → Course → Outside → Outside → Type 0
Breaks plan fault c o o' = LacksJudgement plan fault c o o' ⊎ (BreaksBehind plan fault c o o' ⊎ BreaksWithin plan fault c o o')

breaks_until : (plan : Plan) (fault : Fault) (c : Course) (o m : Outside) (e : SinkView) → m.err.faults ≤ e.faults → Breaks plan fault c o m
    → Breaks plan fault c o (outside_of m.link m.input m.out e)
breaks_until plan fault c o m e le (inl b) =
    inl (record { judging = b.judging; none = b.none; unasked = b.unasked; says = b.says; cause = b.cause })
breaks_until plan fault c o m e le (inr (inl b)) = inr (inl (record {
  answers = b.answers;
  done = b.done;
  more = b.more;
  whole = b.whole;
  says = b.says;
  asked = b.asked;
  input_read = b.input_read;
  wrote = b.wrote;
  unfailed = b.unfailed;
  cause = behind_until fault c (said_sooner plan c.judgement b.answers) b.more o m e b.cause;
}))
breaks_until plan fault c o m e le (inr (inr b)) = inr (inr (record {
  before = b.before;
  last = b.last;
  answers = b.answers;
  answer = b.answer;
  done = b.done;
  now = b.now;
  more = b.more;
  xs_are = b.xs_are;
  whole = b.whole;
  tells = b.tells;
  says = b.says;
  asked = b.asked;
  sent = b.sent;
  input_read = b.input_read;
  wrote = b.wrote;
  cause = within_until fault b.last b.answer b.now c (said_by plan c.judgement b.answers).written o m e le b.cause;
}))

pub broken_off : (words : List (List ℕ)) (c : Course) (fault : Fault) (status : ℕ) (o m : Outside) (e : SinkView)
    → HaveCome o.link.coming (map (λ x. x.came) c.xs) m.link.coming → AreLeft o.link.past (map (λ x. x.left) c.xs) m.link.past
    → others (address_in words) m.link.addresses ≡ others (address_in words) o.link.addresses → SourceGave o.input c.input m.input
    → Breaks (plan_for words) fault c o m → AreFronts c.wrote c.said.written → BothTook (outputs o.out o.err) c.wrote (outputs m.out m.err)
    → m.link.faults ≡ missed_by fault o.link.faults → Tells words fault status m.err e → IsBrokenOff words status o (outside_of m.link m.input m.out e)
broken_off words c fault status o m e came left others gave breaks fronts took missed tells = record {
  fault = fault;
  course = c;
  part = tells.part;
  meets = record { came = came; left = left; others = others; input_gave = gave };
  missed = missed;
  breaks = breaks_until (plan_for words) fault c o m e tells.took.faults breaks;
  fronts = fronts;
  out = took.out;
  err = sink_on o.err m.err e c.wrote.err tells.part took.err tells.took;
  line = line_since o.err m.err e tells.part (fault_line words fault) took.err.faults tells.line;
  status_is = tells.status_is;
}

-- ---- behind exchanges

none_only : (part bytes : List ℕ) → bytes ≡ [] → IsFront part bytes → part ≡ bytes
none_only part bytes none (cut, is) = none_first part cut (is ∙ none) ∙ sym none

-- of nothing all was written
fronts_whole : (part w : Written) → w ≡ nothing → AreFronts part w → part ≡ w
fronts_whole part w none f = λ i. record {
  out = none_only part.out w.out (ap (λ (u : Written). u.out) none) f.out i;
  err = none_only part.err w.err (ap (λ (u : Written). u.err) none) f.err i;
}

-- a plan that asks first has written nothing, and asks one thing
pub asks_one : (next : Plan) (w part : Written) → AreFronts part (said_by next None []).written → AsksFirst next
    → (joined w part ≡ joined w (said_by next None []).written) × (length (said_by next None []).asked ≡ 1)
asks_one next w part fronts asks = (
  ap (joined w) (fronts_whole part (said_by next None []).written (ap (λ (n : Plan). (said_by n None []).written) asks.is) fronts),
  ap (λ (n : Plan). length (said_by n None []).asked) asks.is,
)

abbrev pub course : List Exchange → List ℕ → Option Judgement → Said → Written → Course
course xs input judgement s wrote = record { xs = xs; input = input; judgement = judgement; said = s; wrote = wrote }

-- before anything more was asked
pub stopped_before : (words : List (List ℕ)) (input : List ℕ) (next : Plan) (fault : Fault) (status : ℕ) (o m : Outside) (p : Reach) (e : SinkView)
    → IsAsking (plan_for words) → (way : Walked (plan_for words) input (reach_of (address_in words) o) next p) → StopsBefore next fault p (reach_of (address_in words) m)
    → SourceGave o.input input m.input → InputStands (list_any (λ a. a.input) way.asked) false [] input o.input m.input → Tells words fault status m.err e
    → IsBrokenOff words status o (outside_of m.link m.input m.out e)
stopped_before words input next fault status o m p e asking way b gave reads tells =
    broken_off words (course way.xs input None (said_behind way.asked way.written (said_by next None [])) (joined way.written b.began.part)) fault status o m e
    (subst (HaveCome o.link.coming (map (λ x. x.came) way.xs)) (sym b.missed.coming) way.came)
    (subst (AreLeft o.link.past (map (λ x. x.left) way.xs)) (sym b.missed.past) way.left)
    (b.missed.others ∙ way.others)
    gave (inr (inl behind))
    (fronts_behind way.written b.began.part (said_by next None []).written b.began.fronts)
    (both_on (outputs o.out o.err) p.shown (outputs m.out m.err) way.written b.began.part way.took b.began.took)
    (b.missed.faults ∙ ap (missed_by fault) way.faults) tells
  where
    behind : BreaksBehind (plan_for words) fault (course way.xs input None (said_behind way.asked way.written (said_by next None [])) (joined way.written b.began.part)) o m
    behind = record {
      answers = way.answers;
      done = way.asked;
      more = (said_by next None []).asked;
      whole = record { judged = not_judging (plan_for words) input asking; answered = way.answered; sent = way.sent };
      says = sym (way.says []) ∙ ap (said_by (plan_for words) None) (append-nil way.answers);
      asked = refl;
      input_read = read_so (plan_for words) way.asked false [] input o.input m.input asking reads;
      wrote = fronts_longer (said_sooner (plan_for words) None way.answers) way.written b.began.part (sooner_front (plan_for words) way.answers way.written way.wrote);
      unfailed = b.unfailed;
      cause =
          alone_cause next fault (course way.xs input None (said_behind way.asked way.written (said_by next None [])) (joined way.written b.began.part)) (said_sooner (plan_for words) None way.answers) way.written o m p (reach_of (address_in words) m) refl
          (sooner_front (plan_for words) way.answers way.written way.wrote) way.took refl
          (asks_one next way.written b.began.part b.began.fronts) b.cause;
    }

-- ---- within an exchange

-- what is sent of a request that no input follows
same_sent : (a : Asked) (input : List ℕ) → a.input ≡ false → sent_by [] a ≡ sent_by input a
same_sent a input quiet =
    ap (λ t. if t then request_bytes a.request ++ [] else request_bytes a.request) quiet
    ∙ sym (ap (λ t. if t then request_bytes a.request ++ input else request_bytes a.request) quiet)

-- an exchange without input, told together with some
pub quiet_stop : (next : Plan) (input : List ℕ) (fault : Fault) (p q : Reach) → StopsQuietly next fault p q → StopsIn next input ⊥ fault p q
quiet_stop next input fault p q s = let b = s.stops in record {
  asks = b.asks;
  exchange = b.exchange;
  answer = b.answer;
  meets = b.meets;
  tells = b.tells;
  sent = subst (WasSent fault b.exchange) (same_sent b.asks.asked input s.quiet) b.sent;
  began = b.began;
  cause = b.cause;
  had = b.had;
  all = b.all;
}

-- in its next exchange
pub stopped_in : (words : List (List ℕ)) (input : List ℕ) (next : Plan) (starved : Type 0) (fault : Fault) (status : ℕ) (o m : Outside) (p : Reach) (e : SinkView)
    → IsAsking (plan_for words) → (way : Walked (plan_for words) input (reach_of (address_in words) o) next p) → (b : StopsIn next input starved fault p (reach_of (address_in words) m))
    → (starved → (b.asks.asked.input ≡ true) × Rose o.input.faults m.input.faults) → SourceGave o.input input m.input
    → InputStands (list_any (λ a. a.input) way.asked) b.asks.asked.input b.exchange.given input o.input m.input → Tells words fault status m.err e
    → IsBrokenOff words status o (outside_of m.link m.input m.out e)
stopped_in words input next starved fault status o m p e asking way b rose gave reads tells =
    broken_off words (course (way.xs ++ b.exchange ∷ []) input None (said_behind way.asked way.written (said_by next None (b.answer ∷ []))) (joined way.written b.began.part)) fault status o m e
    (came_on o.link.coming p.link.coming m.link.coming way.xs (b.exchange ∷ []) way.came b.meets.came)
    (left_on o.link.past p.link.past m.link.past way.xs (b.exchange ∷ []) way.left b.meets.left)
    (b.meets.others ∙ way.others)
    gave (inr (inr within))
    (fronts_behind way.written b.began.part (said_by next None (b.answer ∷ [])).written b.began.fronts)
    (both_on (outputs o.out o.err) p.shown (outputs m.out m.err) way.written b.began.part way.took b.began.took)
    (as_often fault o.link.faults m.link.faults (λ is. subst (λ f. FailsOn starved f b.exchange p.shown (outputs m.out m.err)) is b.cause) (b.meets.faults ∙ way.faults))
    tells
  where
    none_yet : (said_by next None []).written ≡ nothing
    none_yet = ap (λ (n : Plan). (said_by n None []).written) b.asks.is

    start : said_by (plan_for words) None way.answers ≡ said_behind way.asked way.written (said_by next None [])
    start = ap (said_by (plan_for words) None) (sym (append-nil way.answers)) ∙ way.says []

    before_is : (said_by (plan_for words) None way.answers).written ≡ way.written
    before_is =
        ap (λ (s : Said). s.written) start ∙ ap (joined way.written) none_yet
        ∙ (λ i. record { out = append-nil way.written.out i; err = append-nil way.written.err i })

    within : BreaksWithin (plan_for words) fault (course (way.xs ++ b.exchange ∷ []) input None (said_behind way.asked way.written (said_by next None (b.answer ∷ []))) (joined way.written b.began.part)) o m
    within = record {
      before = way.xs;
      last = b.exchange;
      answers = way.answers;
      answer = b.answer;
      done = way.asked;
      now = b.asks.asked;
      more = (said_by (b.asks.next b.answer) None []).asked;
      xs_are = refl;
      whole = record { judged = not_judging (plan_for words) input asking; answered = way.answered; sent = way.sent };
      tells = b.tells;
      says = sym (way.says (b.answer ∷ []));
      asked = ap (λ (n : Plan). way.asked ++ (said_by n None (b.answer ∷ [])).asked) b.asks.is;
      sent = b.sent;
      input_read = read_so (plan_for words) way.asked b.asks.asked.input b.exchange.given input o.input m.input asking reads;
      wrote =
          subst (λ (w : Written). AreFronts w (joined way.written b.began.part)) (sym before_is)
          (fronts_all way.written b.began.part);
      cause =
          within_cause starved b.exchange b.answer b.asks.asked
          (course (way.xs ++ b.exchange ∷ []) input None (said_behind way.asked way.written (said_by next None (b.answer ∷ []))) (joined way.written b.began.part)) o m p way.written b.began.part (said_by next None (b.answer ∷ [])).written
          (said_by (plan_for words) None way.answers).written fault before_is refl refl way.took rose b.cause b.had b.all;
    }
