-- What one exchange comes to, by the plan that asks it.
use Rattle.std.proofs.Common.{◌≡◌, inl, inr, ℕ, List, [], refl, sym, ap, ◌∙◌, subst, Option, None, Err, Bool, true, false, append-nil}
use Rattle.std.specs.Prelude.{nat_lt, if◌then◌else◌, ◌&&◌}
use Rattle.http_edge.specs.Message.{Request}
use Rattle.http_edge.specs.declared.head.Head.{Head}
use Rattle.response_reader.specs.Answers.{Answer, NoHead, Answered, TellsSoFar}
use Rattle.response_reader.specs.Heads.{first_in}
use Rattle.client_model.specs.Requests.{request_bytes}
use Rattle.client_model.specs.Plans.{Plan, Ends, Asks, Judges, Asked, Written, Done, Fails, nothing, joined, writes, cut_fault, refuses, fails, by_answer, line_to, status_in, fault_to, named, by_answer_to, asks_for}
use Rattle.client_model.specs.Client.{said_by}
use Rattle.client_model.specs.Runs.{AreFronts, sent_by}
use Rattle.client_model.specs.declared.fault.Fault.{Fault}
use Rattle.client_model.specs.declared.fault.Fault.TheVariants as F
use Rattle.client_exchange.specs.Outputs.{BothBegan}
use Rattle.client_model.specs.Streams.{shows, may_end}
use Rattle.client_exchange.specs.Taking.{Taken, taken, ends_by}
use Rattle.client_exchange.specs.Telling.{HadToWrite, answer_shows}
use Rattle.client_exchange.specs.Exchanges.{Reach, HasRefused, HasBroken, KeepsOff, HasMissed}
use Rattle.client_exchange.specs.Walks.{IsAsking, Walked, Walks, FailsAlone, StopsIn, Does}
use Rattle.client_exchange.specs.Asking.{asked_as, Onward, shown_then, FailsShort}
use Rattle.client_model.specs.declared.showing.Showing.{Showing}
use Rattle.client_model.specs.declared.showing.Showing.TheVariants.{Kept, Copied, Demuxed}
use Rattle.client_exchange.proofs.OutputLemmas.{both_none, began_none}
use Rattle.client_exchange.proofs.TakingLemmas.{ends_so}
use Rattle.client_exchange.proofs.WalkLemmas.{way_one, walk_none}

writes_nothing : (plan : Plan) → IsAsking plan → plan ≡ writes nothing plan
writes_nothing (Ends w ending) is = refl
writes_nothing (Asks w asked next) is = refl
writes_nothing (Judges charter next) is = absurd is

-- a plan that fails so, reached
pub does_fail : (plan : Plan) (fault : Fault) (o o' : Reach) → Walks plan o (fails fault) o' → Does plan (Err fault) o o'
does_fail plan fault o o' w = record {
  next = fails fault;
  between = o';
  walks = w;
  comes = inl (record { written = nothing; is = refl; took = both_none o'.shown; link = refl });
}

module _ (asked : Asked) (input : List ℕ) (f : Head → List ℕ → Bool → Plan) where
  -- by a refusal the plan fails
  unfoldable pub refused_way : (fault : Fault) (status : Option ℕ) (o o' : Reach) → HasRefused (sent_by input asked) fault status asked.showing o o'
      → Walked (asks_for asked f) input o (fails (fault_to (line_to asked.request) status fault)) o'
  refused_way fault status o o' r =
      way_one asked input (by_answer_to asked.request f) r.answer nothing (fails (fault_to (line_to asked.request) status fault)) o o' r.answered r.took
      (ap (named (line_to asked.request) (status_in r.answer)) (r.refuses f) ∙ ap (λ s. fails (fault_to (line_to asked.request) s fault)) r.has) tt

  -- behind a body that was cut, all that it shows is written, and the plan fails
  abbrev pub CutFails : Type 0
  CutFails = (h : Head) (body : List ℕ) → (fault : Fault) × (f h body false ≡ writes (shows asked.showing body) (fails fault))

  -- what a cut answer comes to
  cut_so : CutFails → (answer : Answer) (given : List ℕ) → TellsSoFar given answer
      → (fault : Fault) × (by_answer f answer ≡ Ends (answer_shows asked.showing answer) (Fails fault))
  cut_so cut NoHead given tells = (F.Answer, refl)
  cut_so cut (Answered h body true) given tells = absurd tells
  cut_so cut (Answered h body false) given tells = by_status (nat_lt h.status 400)
    where
      by_status : (t : Bool) → (fault : Fault) × ((if t then f h body false else fails (cut_fault body)) ≡ Ends (if t then shows asked.showing body else nothing) (Fails fault))
      by_status true =
          let c = cut h body in
          (c.0, c.1 ∙ λ i. Ends (record { out = append-nil (shows asked.showing body).out i; err = append-nil (shows asked.showing body).err i }) (Fails c.0))
      by_status false = (cut_fault body, refl)

  pub cut_ends : CutFails → (answer : Answer) (given : List ℕ) → TellsSoFar given answer
      → (fault : Fault) × (by_answer_to asked.request f answer ≡ Ends (answer_shows asked.showing answer) (Fails fault))
  cut_ends cut answer given tells =
      let c = cut_so cut answer given tells in
      (fault_to (line_to asked.request) (status_in answer) c.0, ap (named (line_to asked.request) (status_in answer)) c.1)

  unfoldable pub broken_stops : (starved : Type 0) (fault : Fault) (o o' : Reach) → CutFails → HasBroken (sent_by input asked) starved fault asked.showing o o'
      → StopsIn (asks_for asked f) input starved fault o o'
  broken_stops starved fault o o' cut b = record {
    asks = record { asked = asked; next = by_answer_to asked.request f; is = refl };
    exchange = b.exchange;
    answer = b.answer;
    meets = b.meets;
    tells = b.tells;
    sent = b.sent;
    began = record { part = b.began.part; fronts = subst (AreFronts b.began.part) same b.began.fronts; took = b.began.took };
    cause = b.cause;
    had = subst (HadToWrite fault) same b.had;
    all = λ connection. let counted = b.all connection in (counted.0, counted.1, counted.2 ∙ same);
  }
    where
      written_first : Plan → Written
      written_first p = joined nothing (said_by p None []).written

      same : answer_shows asked.showing b.answer ≡ written_first (by_answer_to asked.request f b.answer)
      same = ap written_first (sym (cut_ends cut b.answer b.exchange.given b.tells).1)

-- no connection was made
pub missed_does : (asked : Asked) (f : Head → List ℕ → Bool → Plan) (fault : Fault) (o o' : Reach)
    → HasMissed fault o o' → Does (asks_for asked f) (Err fault) o o'
missed_does asked f fault o o' m = record {
  next = asks_for asked f;
  between = o;
  walks = walk_none (asks_for asked f) o;
  comes = inr (inl (record {
    missed = m.missed;
    began = subst (λ p. BothBegan o.shown nothing p) (sym m.shown) (began_none o.shown nothing);
    cause = by_fault fault m.cause;
    unfailed = inr tt;
  }));
}
  where
    by_fault : (fault : Fault) → KeepsOff fault → FailsAlone (asks_for asked f) fault o o'
    by_fault F.Link keeps = record { asked = asked; next = by_answer_to asked.request f; is = refl }
    by_fault F.NoMemory keeps = tt
    by_fault F.Output keeps = absurd keeps
    by_fault F.Errors keeps = absurd keeps
    by_fault F.Input keeps = absurd keeps
    by_fault F.Connection keeps = absurd keeps
    by_fault F.Words keeps = absurd keeps
    by_fault F.Answer keeps = absurd keeps
    by_fault F.NoCode keeps = absurd keeps
    by_fault (F.AnswerTo request status) keeps = absurd keeps
    by_fault F.NoCheck keeps = absurd keeps
    by_fault F.EventsGone keeps = absurd keeps
    by_fault F.TooLong keeps = absurd keeps
    by_fault (F.Refused message) keeps = absurd keeps

-- ---- a request that standard input doesn't follow

-- it refused
pub refused_does : (showing : Showing) (request : Request) (f : Head → List ℕ → Bool → Plan) (fault : Fault) (status : Option ℕ) (o o' : Reach)
    → HasRefused (request_bytes request) fault status showing o o'
    → Does (asks_for (asked_as request false showing) f) (Err (fault_to (line_to request) status fault)) o o'
unfolding refused_way way_one
refused_does showing request f fault status o o' r =
    does_fail (asks_for (asked_as request false showing) f) (fault_to (line_to request) status fault) o o'
    (record { way = refused_way (asked_as request false showing) [] f fault status o o' r; quiet = refl })

-- its connection broke off
pub broken_does : (showing : Showing) (request : Request) (f : Head → List ℕ → Bool → Plan) (fault : Fault) (o o' : Reach)
    → CutFails (asked_as request false showing) [] f → HasBroken (request_bytes request) ⊥ fault showing o o'
    → Does (asks_for (asked_as request false showing) f) (Err fault) o o'
unfolding broken_stops
broken_does showing request f fault o o' cut b = record {
  next = asks_for (asked_as request false showing) f;
  between = o;
  walks = walk_none (asks_for (asked_as request false showing) f) o;
  comes = inr (inr (record { stops = broken_stops (asked_as request false showing) [] f ⊥ fault o o' cut b; quiet = refl }));
}

-- ---- a body that came

-- how it goes on by an answer that doesn't refuse
pub by_below : (f : Head → List ℕ → Bool → Plan) (h : Head) (body : List ℕ) (whole : Bool) → nat_lt h.status 400 ≡ true → by_answer f (Answered h body whole) ≡ f h body whole
by_below f h body whole less =
    ap (λ t. if t then f h body whole else refuses body whole) less

-- what is written first stays, where a fault is told
pub named_writes : (line : List ℕ) (status : Option ℕ) (w : Written) (plan : Plan) → named line status (writes w plan) ≡ writes w (named line status plan)
named_writes line status w (Ends v (Done code)) = refl
named_writes line status w (Ends v (Fails fault)) = refl
named_writes line status w (Asks v asked next) = refl
named_writes line status w (Judges charter next) = refl

pub named_asking : (line : List ℕ) (status : Option ℕ) (plan : Plan) → IsAsking plan → IsAsking (named line status plan)
named_asking line status (Ends v (Done code)) is = tt
named_asking line status (Ends v (Fails fault)) is = tt
named_asking line status (Asks v asked next) is = tt
named_asking line status (Judges charter next) is = is

-- by where its frames stand, whether it may end
pub ends_as : (showing : Showing) (t : Taken) (body : List ℕ) → t ≡ taken showing body → ends_by t ≡ may_end showing body
ends_as showing t body is = ap ends_by is ∙ ends_so showing body

and_true : (t : Bool) → (t && true) ≡ t
and_true true = refl
and_true false = refl

-- what it shows is written first, of a kept one nothing
pub shown_writes : (showing : Showing) (next : Onward) (h : Head) (body : List ℕ) (whole : Bool)
    → IsAsking (next (first_in h.form) (taken showing body).kept (whole && may_end showing body))
    → shown_then showing next h body whole ≡ writes (shows showing body) (next (first_in h.form) (taken showing body).kept (whole && may_end showing body))
shown_writes Kept next h body whole asking =
    ap (next (first_in h.form) body) (sym (and_true whole)) ∙ writes_nothing (next (first_in h.form) body (whole && true)) asking
shown_writes Copied next h body whole asking = refl
shown_writes Demuxed next h body whole asking = refl

-- behind a body that was cut it fails
pub shown_cut : (asked : Asked) (next : Onward) → FailsShort next → (input : List ℕ) → CutFails asked input (shown_then asked.showing next)
shown_cut asked next short input h body = by_showing asked.showing
  where
    by_showing : (showing : Showing) → (fault : Fault) × (shown_then showing next h body false ≡ writes (shows showing body) (fails fault))
    by_showing Kept = let c = short (first_in h.form) body in (c.0, c.1)
    by_showing Copied = let c = short (first_in h.form) [] in (c.0, ap (writes (shows Copied body)) c.1)
    by_showing Demuxed = let c = short (first_in h.form) [] in (c.0, ap (writes (shows Demuxed body)) c.1)
