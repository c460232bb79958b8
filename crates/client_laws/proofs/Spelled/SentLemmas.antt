-- What connections were sent, by what was asked.
use Rattle.std.proofs.Common.{◌≡◌, ◌⊎◌, inl, inr, ℕ, List, [], ◌∷◌, ◌++◌, map, Bool, true, false, cond, Option, All, refl, sym, ap, ◌∙◌, subst, append-nil}
use Rattle.std.specs.List.{AllZip}
use Rattle.std.proofs.lemmas.List.{map-append}
use Rattle.std.proofs.lemmas.List.Elements.{All-head, All-tail}
use Rattle.engine_ports.specs.Sink.{IsFront}
use Rattle.response_reader.specs.Answers.{Answer}
use Rattle.client_model.specs.Judgement.{Judgement}
use Rattle.client_model.specs.Requests.{request_bytes}
use Rattle.client_model.specs.Plans.{Asked}
use Rattle.client_model.specs.Client.{Said, said_by, plan_for}
use Rattle.client_model.specs.Runs.{Outside, Exchange, sent_by, WasSent, Course, LacksJudgement, BreaksBehind, BreaksWithin}
use Rattle.client_model.specs.declared.fault.Fault.{Fault}
use Rattle.client_model.specs.declared.fault.Fault.TheVariants as F
use Rattle.client_laws.specs.Spelled.{IsShortLine, IsSpelled}
use Rattle.client_laws.specs.Sent.{IsSent, AreSentUpTo, EndedCallsSend, BrokenCallsSend}
use Rattle.client_laws.proofs.Spelled.TableLemmas.{spelled_requests}

-- ---- what was asked

spelled : (words : List (List ℕ)) (verdict : Option Judgement) (answers : List Answer) (s : Said) → IsShortLine words
    → s ≡ said_by (plan_for words) verdict answers → All IsSpelled s.asked
spelled words verdict answers s line is =
    subst (λ (s : Said). All IsSpelled s.asked) (sym is) (spelled_requests words verdict answers line)

-- ---- bytes

sent_so : (input : List ℕ) (asked : Asked) → IsSpelled asked → IsSent input (sent_by input asked) asked
sent_so input asked spells = (request_bytes asked.request, spells, by asked.input)
  where
    by : (t : Bool) → cond t (request_bytes asked.request ++ input) (request_bytes asked.request) ≡ request_bytes asked.request ++ cond t input []
    by true = refl
    by false = sym (append-nil (request_bytes asked.request))

all_sent : (input : List ℕ) (asked : List Asked) → All IsSpelled asked → AllZip (IsSent input) (map (sent_by input) asked) asked
all_sent input [] spells = tt
all_sent input (asked ∷ more) spells =
    (sent_so input asked (All-head IsSpelled asked more spells), all_sent input more (All-tail IsSpelled asked more spells))

-- each was sent all of its request, and more was asked
sent_whole : (input : List ℕ) (done more : List Asked) → All IsSpelled (done ++ more)
    → AreSentUpTo input (map (sent_by input) done) (done ++ more)
sent_whole input [] more spells = tt
sent_whole input (a ∷ []) more spells =
    (sent_by input a, ([], append-nil (sent_by input a)), sent_so input a (All-head IsSpelled a more spells))
sent_whole input (a ∷ b ∷ done) more spells = (
  sent_so input a (All-head IsSpelled a ((b ∷ done) ++ more) spells),
  sent_whole input (b ∷ done) more (All-tail IsSpelled a ((b ∷ done) ++ more) spells),
)

-- and one more a front of its request
sent_up_to : (input sent : List ℕ) (done : List Asked) (now : Asked) (more : List Asked) → All IsSpelled (done ++ now ∷ more)
    → IsFront sent (sent_by input now) → AreSentUpTo input (map (sent_by input) done ++ sent ∷ []) (done ++ now ∷ more)
sent_up_to input sent [] now more spells front =
    (sent_by input now, front, sent_so input now (All-head IsSpelled now more spells))
sent_up_to input sent (a ∷ []) now more spells front = (
  sent_so input a (All-head IsSpelled a (now ∷ more) spells),
  sent_up_to input sent [] now more (All-tail IsSpelled a (now ∷ more) spells) front,
)
sent_up_to input sent (a ∷ b ∷ done) now more spells front = (
  sent_so input a (All-head IsSpelled a ((b ∷ done) ++ now ∷ more) spells),
  sent_up_to input sent (b ∷ done) now more (All-tail IsSpelled a ((b ∷ done) ++ now ∷ more) spells) front,
)

all_front : (x : Exchange) (bytes : List ℕ) → x.sent ≡ bytes → IsFront x.sent bytes
all_front x bytes all = ([], append-nil x.sent ∙ all)

was_front : (fault : Fault) (x : Exchange) (bytes : List ℕ) → WasSent fault x bytes → IsFront x.sent bytes
was_front F.Connection x bytes (inl all) = all_front x bytes all
was_front F.Connection x bytes (inr silent) = silent.0
was_front F.Input x bytes silent = silent.0
was_front F.Output x bytes all = all_front x bytes all
was_front F.Errors x bytes all = all_front x bytes all
was_front F.NoMemory x bytes all = all_front x bytes all
was_front F.Words x bytes all = all_front x bytes all
was_front F.Answer x bytes all = all_front x bytes all
was_front F.NoCode x bytes all = all_front x bytes all
was_front (F.AnswerTo request status) x bytes all = all_front x bytes all
was_front F.NoCheck x bytes all = all_front x bytes all
was_front F.EventsGone x bytes all = all_front x bytes all
was_front F.TooLong x bytes all = all_front x bytes all
was_front (F.Refused message) x bytes all = all_front x bytes all
was_front F.Link x bytes all = all_front x bytes all

-- ---- calls

pub ended_calls : EndedCallsSend
ended_calls words status o o' call line =
    let spells = spelled words call.judgement call.answers call.said line call.says in
    subst (λ sents. AllZip (IsSent call.input) sents call.said.asked) (sym call.whole.sent) (all_sent call.input call.said.asked spells)

module _ (words : List (List ℕ)) (fault : Fault) (c : Course) (o o' : Outside) (line : IsShortLine words) where
  abbrev AreSent : Type 0
  AreSent = AreSentUpTo c.input (map (λ x. x.sent) c.xs) c.said.asked

  lacking : LacksJudgement (plan_for words) fault c o o' → AreSent
  lacking b = subst (λ (xs : List Exchange). AreSentUpTo c.input (map (λ x. x.sent) xs) c.said.asked) (sym b.unasked) tt

  behind : BreaksBehind (plan_for words) fault c o o' → AreSent
  behind b =
      subst (λ sents. AreSentUpTo c.input sents c.said.asked) (sym b.whole.sent)
      (subst (AreSentUpTo c.input (map (sent_by c.input) b.done)) (sym b.asked)
      (sent_whole c.input b.done b.more (subst (All IsSpelled) b.asked (spelled words c.judgement b.answers c.said line b.says))))

  within : BreaksWithin (plan_for words) fault c o o' → AreSent
  within b =
      subst (λ sents. AreSentUpTo c.input sents c.said.asked)
      (sym (ap (map (λ (x : Exchange). x.sent)) b.xs_are ∙ map-append (λ (x : Exchange). x.sent) b.before (b.last ∷ []) ∙ ap (λ l. l ++ b.last.sent ∷ []) b.whole.sent))
      (subst (AreSentUpTo c.input (map (sent_by c.input) b.done ++ b.last.sent ∷ [])) (sym b.asked)
      (sent_up_to c.input b.last.sent b.done b.now b.more
      (subst (All IsSpelled) b.asked (spelled words c.judgement (b.answers ++ b.answer ∷ []) c.said line b.says))
      (was_front fault b.last (sent_by c.input b.now) b.sent)))

  broken : LacksJudgement (plan_for words) fault c o o' ⊎ (BreaksBehind (plan_for words) fault c o o' ⊎ BreaksWithin (plan_for words) fault c o o') → AreSent
  broken (inl b) = lacking b
  broken (inr (inl b)) = behind b
  broken (inr (inr b)) = within b

pub broken_calls : BrokenCallsSend
broken_calls words status o o' call line = broken words call.fault call.course o o' line call.breaks
