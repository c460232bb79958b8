-- One request, by the plan that asks it.
use Rattle.std.proofs.Common.{◌≡◌, inl, inr, ℕ, List, [], ◌++◌, refl, sym, ap, ap₂, ◌∙◌, subst, Option, Some, Result, Ok, Err, Bool, true, false}
use Rattle.std.specs.Prelude.{◌&&◌, if◌then◌else◌}
use Rattle.engine_ports.specs.Source.{SourceView}
use Rattle.http_edge.specs.Message.{Request}
use Rattle.response_reader.specs.Answers.{Answered}
use Rattle.response_reader.specs.Heads.{first_in}
use Rattle.client_model.specs.Requests.{request_bytes}
use Rattle.client_model.specs.Plans.{Plan, nothing, writes, fails, by_answer, first_line, line_to, fault_to, named, by_answer_to}
use Rattle.client_model.specs.Streams.{shows, may_end}
use Rattle.client_model.specs.declared.fault.Fault.{Fault}
use Rattle.client_model.specs.declared.fault.Fault.TheVariants as F
use Rattle.client_exchange.specs.Taking.{Taken, taken, ends_by}
use Rattle.client_exchange.proofs.OutputLemmas.{both_none}
use Rattle.client_model.specs.declared.showing.Showing.{Showing}
use Rattle.client_model.specs.declared.showing.Showing.TheVariants.{Kept, Copied, Demuxed}
use Rattle.client_exchange.specs.declared.failure.Failure.{Failure}
use Rattle.client_exchange.specs.declared.got.Got.{Got}
use Rattle.client_exchange.specs.declared.body.Body.{Body}
use Rattle.client_exchange.specs.Exchanges.{Reach, IsAnswered, HasGone, FailsOn, HasBroken, KeepsOff, HasMissed, FailsSo}
use Rattle.client_exchange.specs.Walks.{IsAsking, Walked, Does}
use Rattle.client_exchange.specs.Asking.{asked_as, Onward, shown_then, asks_then, DoesAs, AskDoes}
use Rattle.client_exchange.specs.Feeding.{InputFails, FedFails, FedSays, SaysAs}
use Rattle.client_exchange.proofs.WalkLemmas.{way_one, walk_none}
use Rattle.client_exchange.proofs.AskLemmas.{by_below, named_writes, named_asking, ends_as, shown_writes, shown_cut, refused_way, broken_stops, refused_does, broken_does, missed_does}

-- ---- a taker that was made

showing_of : (showing : Showing) → (taken showing []).showing ≡ showing
showing_of Kept = refl
showing_of Copied = refl
showing_of Demuxed = refl

-- it shows as it was made to
pub made_so : (t : Taken) (showing : Showing) → t ≡ taken showing [] → t.showing ≡ showing
made_so t showing is = ap (λ (k : Taken). k.showing) is ∙ showing_of showing

-- it has taken nothing
pub made_fresh : (t : Taken) (showing : Showing) → t ≡ taken showing [] → t ≡ taken t.showing []
made_fresh t showing is = is ∙ ap (λ s. taken s []) (sym (made_so t showing is))

-- ---- an answer that was read

-- what is handed on of it
pub record IsHanded (got : Got) (t : Taken) (line : List ℕ) (body : Body) : Type 0 where
  pub line_is : body.line ≡ line
  pub status : body.status ≡ got.status
  pub first : body.first ≡ got.first
  pub bytes : body.bytes.items ≡ t.kept
  pub whole : body.whole ≡ (got.whole && ends_by t)

module _ (r : Request) (showing : Showing) (next : Onward) where
  -- what is handed on is what the plan goes on by
  handed : (got : Got) (t : Taken) (body : Body) (bytes : List ℕ) (o o' : Reach) → (g : HasGone bytes got showing t o o') → IsHanded got t (line_to r) body
      → next body.first body.bytes.items body.whole ≡ next (first_in g.head.form) (taken showing g.body).kept (got.whole && may_end showing g.body)
  handed got t body bytes o o' g h =
      ap (λ f. next f body.bytes.items body.whole) (h.first ∙ g.first)
      ∙ ap (λ l. next (first_in g.head.form) l body.whole) (h.bytes ∙ ap (λ (k : Taken). k.kept) g.kept)
      ∙ ap (λ w. next (first_in g.head.form) (taken showing g.body).kept w) (h.whole ∙ ap (λ e. got.whole && e) (ends_as showing t g.body g.kept))

  -- the plan that goes on is reached
  unfoldable reached : (fed : Bool) (input : List ℕ) (got : Got) (t : Taken) (body : Body) (bytes : List ℕ) (o o' : Reach) → (g : HasGone bytes got showing t o o')
      → bytes ≡ (if fed then request_bytes r ++ input else request_bytes r) → IsHanded got t (line_to r) body
      → IsAsking (next body.first body.bytes.items body.whole)
      → Walked (asks_then (asked_as r fed showing) next) input o (named body.line (Some body.status) (next body.first body.bytes.items body.whole)) o'
  reached fed input got t body bytes o o' g sent h asking =
      way_one (asked_as r fed showing) input (by_answer_to r (shown_then showing next)) (Answered g.head g.body got.whole) (shows showing g.body)
      (named body.line (Some body.status) on) o o'
      (subst (λ b. IsAnswered b showing (Answered g.head g.body got.whole) o.link o'.link) sent g.answered) g.took
      (ap (named (line_to r) (Some g.head.status)) by_it
      ∙ named_writes (line_to r) (Some g.head.status) (shows showing g.body) on
      ∙ ap₂ (λ l s. writes (shows showing g.body) (named l (Some s) on)) (sym h.line_is) (sym (h.status ∙ g.status)))
      (named_asking body.line (Some body.status) on asking)
    where
      on : Plan
      on = next body.first body.bytes.items body.whole

      same : on ≡ next (first_in g.head.form) (taken showing g.body).kept (got.whole && may_end showing g.body)
      same = handed got t body bytes o o' g h

      by_it : by_answer (shown_then showing next) (Answered g.head g.body got.whole) ≡ writes (shows showing g.body) on
      by_it =
          by_below (shown_then showing next) g.head g.body got.whole g.below
          ∙ shown_writes showing next g.head g.body got.whole (subst IsAsking same asking)
          ∙ ap (writes (shows showing g.body)) (sym same)

-- ---- one request

-- a fault that isn't of an answer is told as it is
pub as_it_is : (line : List ℕ) (status : Option ℕ) (fault : Fault) → (fault ≡ F.Answer → ⊥) → fault ≡ fault_to line status fault
as_it_is line status F.Answer other = absurd (other refl)
as_it_is line status (F.AnswerTo request code) other = refl
as_it_is line status F.Words other = refl
as_it_is line status F.Input other = refl
as_it_is line status F.Output other = refl
as_it_is line status F.Errors other = refl
as_it_is line status F.NoCode other = refl
as_it_is line status F.NoCheck other = refl
as_it_is line status F.EventsGone other = refl
as_it_is line status F.TooLong other = refl
as_it_is line status F.NoMemory other = refl
as_it_is line status (F.Refused message) other = refl
as_it_is line status F.Link other = refl
as_it_is line status F.Connection other = refl

module _ (r : Request) (showing : Showing) (t : Taken) (v v' : SourceView) (o o' : Reach) where
  -- it was answered, without input
  pub asked_alone : (got : Got) (body : Body) → HasGone (request_bytes r) got showing t o o' → v' ≡ v → IsHanded got t (line_to r) body
      → AskDoes (asked_as r false showing) (Ok body) v v' o o'
  unfolding reached way_one
  asked_alone got body g same h = λ next asking.
      (record { way = reached r showing next false [] got t body (request_bytes r) o o' g refl h asking; quiet = refl }, same)

  -- and with input
  pub asked_fed : (got : Got) (body : Body) → FedSays (request_bytes r) (Ok got) showing t v v' o o' → IsHanded got t (line_to r) body
      → AskDoes (asked_as r true showing) (Ok body) v v' o o'
  unfolding reached way_one
  asked_fed got body (input, gave, ended, g) h = λ next asking. record {
    input = input;
    way = reached r showing next true input got t body (request_bytes r ++ input) o o' g refl h asking;
    loud = refl;
    gave = gave;
    ended = ended;
  }

  -- the plan failed, or broke off: such a fault as it is told
  abbrev pub told : Failure → Fault
  told failure = fault_to (line_to r) failure.status failure.fault

  broken_as : (starved : Type 0) (failure : Failure) → HasBroken (request_bytes r) starved failure.fault showing o o' → failure.fault ≡ told failure
  broken_as starved failure b =
      as_it_is (line_to r) failure.status failure.fault (λ is. subst (λ f. FailsOn starved f b.exchange o.shown o'.shown) is b.cause)

  missed_as : (failure : Failure) → HasMissed failure.fault o o' → failure.fault ≡ told failure
  missed_as failure m = as_it_is (line_to r) failure.status failure.fault (λ is. subst KeepsOff is m.cause)

  pub alone_fails : (failure : Failure) → FailsSo (request_bytes r) failure showing o o' → v' ≡ v → AskDoes (asked_as r false showing) (Err (told failure)) v v' o o'
  alone_fails failure (inl x) same = λ next short. (refused_does showing r (shown_then showing next) failure.fault failure.status o o' x, same)
  alone_fails failure (inr (inl x)) same = λ next short. (
    subst (λ f. Does (asks_then (asked_as r false showing) next) (Err f) o o') (broken_as ⊥ failure x)
        (broken_does showing r (shown_then showing next) failure.fault o o' (shown_cut (asked_as r false showing) next short []) x),
    same,
  )
  alone_fails failure (inr (inr x)) same = λ next short. (
    subst (λ f. Does (asks_then (asked_as r false showing) next) (Err f) o o') (missed_as failure x)
        (missed_does (asked_as r false showing) (shown_then showing next) failure.fault o o' x),
    same,
  )

  pub fed_fails : (failure : Failure) → FedFails (request_bytes r) failure showing v v' o o' → AskDoes (asked_as r true showing) (Err (told failure)) v v' o o'
  unfolding refused_way way_one broken_stops
  fed_fails failure (inl (input, gave, inl (ended, x))) = λ next short. inr (inl (record {
    next = fails (told failure);
    between = o';
    feeds = record {
      input = input;
      way = refused_way (asked_as r true showing) input (shown_then showing next) failure.fault failure.status o o' x;
      loud = refl;
      gave = gave;
      ended = ended;
    };
    comes = inl (record { written = nothing; is = refl; took = both_none o'.shown; link = refl });
  }))
  fed_fails failure (inl (input, gave, inr (b, fed))) = λ next short. inr (inr (
    failure.fault,
    ap Err (sym (as_it_is (line_to r) failure.status failure.fault (λ is. subst (λ f. FailsOn (InputFails v v') f b.exchange o.shown o'.shown) is b.cause))),
    record {
      next = asks_then (asked_as r true showing) next;
      between = o;
      walks = walk_none (asks_then (asked_as r true showing) next) o;
      input = input;
      gave = gave;
      stops = broken_stops (asked_as r true showing) input (shown_then showing next) (InputFails v v') failure.fault o o' (shown_cut (asked_as r true showing) next short input) b;
      loud = refl;
      fed = fed;
    },
  ))
  fed_fails failure (inr (same, m)) = λ next short.
      inl (
        subst (λ f. Does (asks_then (asked_as r true showing) next) (Err f) o o') (missed_as failure m)
            (missed_does (asked_as r true showing) (shown_then showing next) failure.fault o o' m),
        same,
      )

-- memory was refused before anything was asked
pub unasked : (r : Request) (fed : Bool) (showing : Showing) (v : SourceView) (o : Reach) → AskDoes (asked_as r fed showing) (Err F.NoMemory) v v o o
unasked r fed showing v o = λ next short. by fed next
  where
    missed : HasMissed F.NoMemory o o
    missed = record { missed = record { coming = refl; past = refl; others = refl; faults = refl }; shown = refl; cause = tt }

    by : (fed : Bool) (next : Onward) → DoesAs fed (asks_then (asked_as r fed showing) next) (Err F.NoMemory) v v o o
    by true next = inl (missed_does (asked_as r true showing) (shown_then showing next) F.NoMemory o o missed, refl)
    by false next = (missed_does (asked_as r false showing) (shown_then showing next) F.NoMemory o o missed, refl)

-- ---- by what an exchange says

module _ (r : Request) (bytes : List ℕ) (same : bytes ≡ request_bytes r) (shown showing : Showing) (shown_is : shown ≡ showing) (t : Taken) (v v' : SourceView) (o o' : Reach) where
  said_as : (fed : Bool) (result : Result Got Failure) → SaysAs fed bytes result shown t v v' o o' → SaysAs fed (request_bytes r) result showing t v v' o o'
  said_as fed result says = subst (λ b. SaysAs fed b result showing t v v' o o') same (subst (λ s. SaysAs fed bytes result s t v v' o o') shown_is says)

  pub asked_ok : (fed : Bool) (got : Got) (body : Body) → SaysAs fed bytes (Ok got) shown t v v' o o' → IsHanded got t (first_line bytes) body
      → AskDoes (asked_as r fed showing) (Ok body) v v' o o'
  asked_ok true got body says h = asked_fed r showing t v v' o o' got body (said_as true (Ok got) says) (subst (λ b. IsHanded got t (first_line b) body) same h)
  asked_ok false got body says h =
      let s = said_as false (Ok got) says in
      asked_alone r showing t v v' o o' got body s.0 s.1 (subst (λ b. IsHanded got t (first_line b) body) same h)

  pub asked_err : (fed : Bool) (failure : Failure) (fault : Fault) → SaysAs fed bytes (Err failure) shown t v v' o o'
      → fault ≡ fault_to (first_line bytes) failure.status failure.fault → AskDoes (asked_as r fed showing) (Err fault) v v' o o'
  asked_err fed failure fault says is =
      subst (λ f. AskDoes (asked_as r fed showing) (Err f) v v' o o') (sym (is ∙ ap (λ b. fault_to (first_line b) failure.status failure.fault) same)) (by fed says)
    where
      by : (fed : Bool) → SaysAs fed bytes (Err failure) shown t v v' o o'
          → AskDoes (asked_as r fed showing) (Err (fault_to (line_to r) failure.status failure.fault)) v v' o o'
      by true says = fed_fails r showing t v v' o o' failure (said_as true (Err failure) says)
      by false says = let s = said_as false (Err failure) says in alone_fails r showing t v v' o o' failure s.0 s.1
