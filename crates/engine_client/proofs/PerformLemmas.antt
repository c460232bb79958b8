-- A command, step by step.
use Rattle.std.proofs.Common.{arith, ◌≡◌, ◌<◌, ◌≤◌, ◌⊎◌, inl, inr, ℕ, List, [], ◌∷◌, ◌++◌, length, refl, sym, ap, ◌∙◌, subst, Some, None, Result, Ok, Err, Bool, true, false}
use Rattle.std.specs.Prelude.{if◌then◌else◌, ◌||◌, ◌==◌, Vec}
use Rattle.std.proofs.lemmas.Bool.Decides.{nat_tests}
use Rattle.std.specs.declared.alloc.Global.{Global}
use Rattle.machine_model.specs.History.{greatest_moment}
use Rattle.client_model.specs.Requests.{request_bytes}
use Rattle.client_model.specs.Commands.Replay.{replay_plan}
use Rattle.client_exchange.specs.declared.request.Ask.{Ask}
use Rattle.engine_client.specs.Printing.{lines_text}
use Rattle.engine_client.proofs.PrintLemmas.{prints_all_so}
use Rattle.engine_client.proofs.WatchLemmas.{some_text}
use Rattle.engine_ports.specs.Source.{SourceView}
use Rattle.engine_ports.specs.Sink.{SinkView, WriteSays}
use Rattle.engine_ports.specs.Link.{LinkView}
use Rattle.engine_ports.specs.declared.ports.Failed.{Failed}
use Rattle.http_edge.specs.Message.{Request}
use Rattle.client_model.specs.Plans.{Plan, Ends, Asks, Judges, Asked, Done, nothing, to_out, fails, named, ends, prints_all}
use Rattle.client_model.specs.Client.{said_by}
use Rattle.client_model.specs.declared.fault.Fault.{Fault}
use Rattle.client_model.specs.declared.fault.Fault.TheVariants as F
use Rattle.client_exchange.proofs.OutputLemmas.{both_none, began_none, out_took, out_failed}
use Rattle.client_exchange.specs.Exchanges.{Reach, reach}
use Rattle.client_exchange.specs.Walks.{IsAsking, Comes, Does}
use Rattle.client_exchange.specs.Asking.{asked_as, asks_then, Brings, DoesAs, AskDoes}
use Rattle.client_exchange.specs.Feeding.{Feeds, FedDoes}
use Rattle.client_exchange.specs.declared.body.Body.{Body}
use Rattle.client_exchange.proofs.AskLemmas.{named_asking}
use Rattle.client_exchange.proofs.WalkLemmas.{walk_none, walk_on, does_on}
use Rattle.client_exchange.proofs.FeedLemmas.{feeds_behind, feeds_on, does_fed, fed_does}
use Rattle.engine_client.specs.Places.{plan_at, feeds_at, feeds, IsStep, GoesOn}
use Rattle.engine_client.proofs.StepLemmas.{places_ask, places_short}
use Rattle.engine_client.specs.declared.onward.Then.{Then}
use Rattle.engine_client.specs.declared.step.Step.{Step}
use Rattle.engine_client.specs.declared.step.Step.TheVariants as step
use Rattle.engine_client.specs.Writing.{Prints, PrintsOrLacks}
use Rattle.engine_client.specs.Replaying.{Judged}
use Rattle.engine_client.specs.Performing.{IsFirst, IsInTime, performed_of, Follows, AskedSays, PerformSays}
use Rattle.engine_client.specs.declared.performed.Performed.{Performed}
use Rattle.engine_client.specs.declared.performed.Performed.TheVariants.{On, Ended}

-- ---- ends

short_of : (plan : Plan) (o : Reach) → Comes plan (Err F.NoMemory) o o
short_of plan o =
    inr (inl (record { missed = record { coming = refl; past = refl; others = refl; faults = refl }; began = began_none o.shown (said_by plan None []).written; cause = tt; unfailed = inl refl }))

comes_now : (plan : Plan) (result : Result ℕ Fault) (o o' : Reach) → Comes plan result o o' → Does plan result o o'
comes_now plan result o o' comes = record { next = plan; between = o; walks = walk_none plan o; comes = comes }

-- ---- what is written

pub wrote_all : (text : List ℕ) (status : ℕ) (x : Unit {0}) (link : LinkView) (u u' e : SinkView) → WriteSays (Ok x) text u u'
    → Prints (Ends (to_out text) (Done status)) (Ok status) (reach link u e) (reach link u' e)
wrote_all text status x link u u' e took = record { written = to_out text; is = refl; took = out_took text u u' e took; link = refl }

pub wrote_part : (text : List ℕ) (status : ℕ) (x : Failed) (link : LinkView) (u u' e : SinkView) → ¬ (text ≡ []) → WriteSays (Err x) text u u'
    → Prints (Ends (to_out text) (Done status)) (Err F.Output) (reach link u e) (reach link u' e)
wrote_part text status x link u u' e some broke =
    let b = out_failed x text u u' e broke in
    (refl, record { missed = record { coming = refl; past = refl; others = refl; faults = refl }; began = b.0; cause = (b.1, some); unfailed = inr tt })

pub wrote_none : (text : List ℕ) (status : ℕ) (link : LinkView) (u e : SinkView) → text ≡ [] → Prints (Ends (to_out text) (Done status)) (Ok status) (reach link u e) (reach link u e)
wrote_none text status link u e none =
    subst (λ t. Prints (Ends (to_out t) (Done status)) (Ok status) (reach link u e) (reach link u e)) (sym none)
    (record { written = nothing; is = refl; took = both_none (reach link u e).shown; link = refl })

no_length : (text : List ℕ) → (length text == 0) ≡ true → length text ≡ 0
no_length text none = grind (arith, nat_tests)

is_none : (text : List ℕ) → length text ≡ 0 → text ≡ []
is_none [] none = refl
is_none (b ∷ text) none = absurd (omega arith)

pub none_so : (text : List ℕ) → (length text == 0) ≡ true → text ≡ []
none_so text none = is_none text (no_length text none)

pub some_so : (text : List ℕ) → (length text == 0) ≡ false → ¬ (text ≡ [])
some_so text some none = let within : 0 < 0 = subst (λ (t : List ℕ). 0 < length t) none (some_text text some) in omega arith

-- lines with their ends
pub lines_print : (lines : List (List ℕ)) (status : ℕ) (bytes text : List ℕ) (result : Result ℕ Fault) (o o' : Reach) → bytes ≡ text → text ≡ lines_text lines
    → Prints (Ends (to_out bytes) (Done status)) result o o' → PrintsOrLacks (prints_all lines (ends status)) result o o'
lines_print lines status bytes text result o o' same is p =
    inl (subst (λ n. Prints n result o o') (ap (λ t. Ends (to_out t) (Done status)) (same ∙ is) ∙ sym (prints_all_so lines status)) p)

-- ---- a step behind others

module _ (plan next : Plan) (v v' v'' : SourceView) (o p q : Reach) where
  pub brings_on : (fed input : Bool) (last : Plan) → Brings fed plan v v' o next p → Brings input next v' v'' p last q → (fed ≡ true → input ≡ false) → Brings (fed || input) plan v v'' o last q
  brings_on true true last a b once = absurd (both (once refl))
    where
      both : true ≡ false → ⊥
      both e = cc
  brings_on true false last a (w, same) once = subst (λ u. Feeds plan v u o last q) (sym same) (feeds_on plan next last v v' o p q a w)
  brings_on false true last (w, same) b once = subst (λ u. Feeds plan u v'' o last q) same (feeds_behind plan next last v' v'' o p q w b)
  brings_on false false last (w, same) (w', same') once = (walk_on plan next last o p q w w', same' ∙ same)

  pub does_behind : (fed input : Bool) (result : Result ℕ Fault) → Brings fed plan v v' o next p → DoesAs input next result v' v'' p q → (fed ≡ true → input ≡ false) → FedDoes plan result v v'' o q
  does_behind true true result a d once = absurd (both (once refl))
    where
      both : true ≡ false → ⊥
      both e = cc
  does_behind true false result a (d, same) once = subst (λ u. FedDoes plan result v u o q) (sym same) (does_fed plan next result v v' o p q a d)
  does_behind false true result (w, same) d once = subst (λ u. FedDoes plan result u v'' o q) same (fed_does plan next result v' v'' o p q w d)
  does_behind false false result (w, same) (d, same') once = inl (does_on plan next result o p q w d, same' ∙ same)

-- ---- behind an answer

module _ (asked : Asked) (onward : Then) (v v' : SourceView) (o o' : Reach) where
  -- what follows there; a fault names the answer
  abbrev pub on : Body → Plan
  on body = named body.line (Some body.status) (plan_at onward body.first body.bytes.items body.whole)

  asks_on : (body : Body) → IsAsking (on body)
  asks_on body =
      named_asking body.line (Some body.status) (plan_at onward body.first body.bytes.items body.whole)
      (places_ask onward body.first body.bytes.items body.whole)

  brought : (body : Body) → AskDoes asked (Ok body) v v' o o' → Brings asked.input (asks_then asked (plan_at onward)) v v' o (on body) o'
  brought body does = does (plan_at onward) (places_ask onward body.first body.bytes.items body.whole)

  goes_to : (body : Body) (after : Step) → AskDoes asked (Ok body) v v' o o' → GoesOn (Ok after) (feeds_at onward) (on body)
      → AskedSays asked.input (feeds_at onward) (asks_then asked (plan_at onward)) (Ok (On after)) v v' o o'
  goes_to body after does (is, fed) = record {
    next = on body;
    asking = asks_on body;
    is = is;
    brings = brought body does;
    feeds_so = fed;
  }

  as_does : (input : Bool) (plan next : Plan) (fault : Fault) → Brings input plan v v' o next o' → Comes next (Err fault) o' o' → DoesAs input plan (Err fault) v v' o o'
  as_does true plan next fault b comes = inr (inl (record { next = next; between = o'; feeds = b; comes = comes }))
  as_does false plan next fault (w, same) comes = (record { next = next; between = o'; walks = w; comes = comes }, same)

  goes_wrong : (body : Body) (fault : Fault) → AskDoes asked (Ok body) v v' o o' → GoesOn (Err fault) (feeds_at onward) (on body)
      → AskedSays asked.input (feeds_at onward) (asks_then asked (plan_at onward)) (Err fault) v v' o o'
  goes_wrong body fault does why = as_does asked.input (asks_then asked (plan_at onward)) (on body) fault (brought body does) (by why)
    where
      by : (fault ≡ F.NoMemory) ⊎ (on body ≡ fails fault) → Comes (on body) (Err fault) o' o'
      by (inl lack) = subst (λ f. Comes (on body) (Err f) o' o') (sym lack) (short_of (on body) o')
      by (inr is) = inl (record { written = nothing; is = is; took = both_none o'.shown; link = refl })

  pub goes_by : (body : Body) (result : Result Performed Fault) → AskDoes asked (Ok body) v v' o o' → Follows result (feeds_at onward) (on body)
      → AskedSays asked.input (feeds_at onward) (asks_then asked (plan_at onward)) result v v' o o'
  goes_by body (Ok (On after)) does f = goes_to body after does f
  goes_by body (Ok (Ended status)) does f = f
  goes_by body (Err fault) does f = goes_wrong body fault does f

  pub asked_wrong : (fault : Fault) → AskDoes asked (Err fault) v v' o o' → AskedSays asked.input (feeds_at onward) (asks_then asked (plan_at onward)) (Err fault) v v' o o'
  asked_wrong fault does = does (plan_at onward) (places_short onward)

-- ---- what a step comes to

module _ (now : Step) (plan : Plan) (v v' : SourceView) (o o' : Reach) where
  performs : (one : Step) (result : Result Performed Fault) → one ≡ now → PerformSays one plan result v v' o o' → PerformSays now plan result v v' o o'
  performs one result is says = subst (λ s. PerformSays s plan result v v' o o') is says

pub first_of : (now : Step) (plan : Plan) → IsStep now plan → IsFirst now
first_of now plan is = record { plan = plan; is = is }

pub in_time : (now : Step) (plan : Plan) → IsStep now plan → IsInTime now
in_time (step.Asks ask onward) plan is = tt
in_time (step.Writes text status) plan is = tt
in_time (step.Judges upgrade seed moment) plan is = is.1

pub performs_ask : (now : Step) (ask : Ask) (onward : Then) (plan : Plan) (result : Result Performed Fault) (v v' : SourceView) (o o' : Reach) → now ≡ step.Asks ask onward → IsStep now plan
    → ((r : Request) → ask.request.items ≡ request_bytes r → AskedSays ask.input (feeds_at onward) (asks_then (asked_as r ask.input ask.showing) (plan_at onward)) result v v' o o')
    → PerformSays now plan result v v' o o'
performs_ask now ask onward plan result v v' o o' is begins says =
    let s = subst (λ n. IsStep n plan) is begins in
    performs now plan v v' o o' (step.Asks ask onward) result (sym is)
    (subst (λ p. AskedSays ask.input (feeds_at onward) p result v v' o o') (sym s.2) (says s.0 s.1))

pub performs_text : (now : Step) (text : Vec ℕ Global) (status : ℕ) (plan : Plan) (bytes : List ℕ) (end : Result ℕ Fault) (result : Result Performed Fault) (v : SourceView) (o o' : Reach) → now ≡ step.Writes text status → IsStep now plan
    → bytes ≡ text.items → result ≡ performed_of end → Prints (Ends (to_out bytes) (Done status)) end o o' → PerformSays now plan result v v o o'
performs_text now text status plan bytes end result v o o' is begins same told prints =
    performs now plan v v o o' (step.Writes text status) result (sym is)
    (end, told, subst (λ p. Prints p end o o') (ap (λ b. Ends (to_out b) (Done status)) same ∙ sym (subst (λ n. IsStep n plan) is begins)) prints, refl)

pub performs_judgement : (now : Step) (upgrade : Bool) (seed : List ℕ) (moment : ℕ) (plan : Plan) (end : Result ℕ Fault) (result : Result Performed Fault) (v v' : SourceView) (o o' : Reach) → now ≡ step.Judges upgrade seed moment → IsStep now plan
    → result ≡ performed_of end → Judged (replay_plan upgrade seed moment) end v v' o o' → PerformSays now plan result v v' o o'
performs_judgement now upgrade seed moment plan end result v v' o o' is begins told judged =
    let s = subst (λ n. IsStep n plan) is begins in
    performs now plan v v' o o' (step.Judges upgrade seed moment) result (sym is) (end, told, subst (λ p. Judged p end v v' o o') (sym s.0) judged)

-- ---- where a command is

-- this step is the first of a plan that whole exchanges brought it to
pub record IsAt (plan : Plan) (now : Step) (v v' : SourceView) (o o' : Reach) : Type 0 where
  pub fed : Bool
  pub next : Plan
  pub is : IsStep now next
  pub brings : Brings fed plan v v' o next o'
  pub once : fed ≡ true → feeds now ≡ false
  pub begun : (IsAsking plan × IsAsking next) ⊎ ((next ≡ plan) × (v' ≡ v) × (o' ≡ o))

pub at_first : (plan : Plan) (now : Step) (v : SourceView) (o : Reach) → IsStep now plan → IsAt plan now v v o o
at_first plan now v o is =
    record { fed = false; next = plan; is = is; brings = (walk_none plan o, refl); once = λ never. absurd (not_so never); begun = inr (refl, refl, refl) }
  where
    not_so : false ≡ true → ⊥
    not_so e = cc

-- what was done of a plan
abbrev pub WasDone : Plan → Result ℕ Fault → SourceView → SourceView → Reach → Reach → Type 0
WasDone plan result v v' o o' = (IsAsking plan × FedDoes plan result v v' o o') ⊎ Judged plan result v v' o o'

plan_asks : (plan next : Plan) (v v' : SourceView) (o o' : Reach) → IsAsking next → (IsAsking plan × IsAsking next) ⊎ ((next ≡ plan) × (v' ≡ v) × (o' ≡ o)) → IsAsking plan
plan_asks plan next v v' o o' asking (inl a) = a.0
plan_asks plan next v v' o o' asking (inr (is, sv, so)) = subst IsAsking is asking

-- none follows where input was sent
no_more : (fed input onward : Bool) → (fed ≡ true → (if input then true else onward) ≡ false) → fed ≡ true → input ≡ false
no_more fed true onward once is = absurd (not_so (once is))
  where
    not_so : true ≡ false → ⊥
    not_so e = cc
no_more fed false onward once is = refl

none_onward : (fed input onward : Bool) → (fed ≡ true → (if input then true else onward) ≡ false) → (input ≡ true → onward ≡ false) → (fed || input) ≡ true → onward ≡ false
none_onward true true onward once after e = after refl
none_onward true false onward once after e = once refl
none_onward false true onward once after e = after refl
none_onward false false onward once after e = absurd (not_so e)
  where
    not_so : false ≡ true → ⊥
    not_so e = cc

by_end : (plan next : Plan) (v v' v'' : SourceView) (o p q : Reach) (end : Result ℕ Fault) → ((IsAsking plan × IsAsking next) ⊎ ((next ≡ plan) × (v' ≡ v) × (p ≡ o)))
    → (IsAsking next → ⊥) → Judged next end v' v'' p q → WasDone plan end v v'' o q
by_end plan next v v' v'' o p q end (inl a) not judged = absurd (not a.1)
by_end plan next v v' v'' o p q end (inr (is, sv, so)) not judged =
    inr (subst (λ n. Judged n end v v'' o q) is (subst (λ u. Judged next end u v'' o q) sv (subst (λ r. Judged next end v' v'' r q) so judged)))

written_end : (plan next : Plan) (v v' v'' : SourceView) (o p q : Reach) (fed : Bool) (end : Result ℕ Fault) → Brings fed plan v v' o next p → Prints next end p q → v'' ≡ v' → FedDoes plan end v v'' o q
written_end plan next v v' v'' o p q fed end brings prints same =
    does_behind plan next v v' v'' o p q fed false end brings (comes_now next end p q (comes end prints), same) (λ is. refl)
  where
    comes : (end : Result ℕ Fault) → Prints next end p q → Comes next end p q
    comes (Ok status) f = f
    comes (Err fault) s = inr (inl s.1)

module _ (plan : Plan) (v v' v'' : SourceView) (o p q : Reach) where
  -- one step more
  at_next : (now after : Step) (at : IsAt plan now v v' o p) → PerformSays now at.next (Ok (On after)) v' v'' p q → IsAt plan after v v'' o q
  at_next (step.Asks ask onward) after at goes = record {
    fed = at.fed || ask.input;
    next = goes.next;
    is = goes.is;
    brings = brings_on plan at.next v v' v'' o p q at.fed ask.input goes.next at.brings goes.brings (no_more at.fed ask.input (feeds_at onward) at.once);
    once = λ is. goes.feeds_so ∙ none_onward at.fed ask.input (feeds_at onward) at.once at.is.3 is;
    begun = inl (plan_asks plan at.next v v' o p (subst IsAsking (sym at.is.2) tt) at.begun, goes.asking);
  }
  at_next (step.Writes text status) after at (end, is, prints, same) = absurd (not_so end is)
    where
      not_so : (end : Result ℕ Fault) → Ok (On after) ≡ performed_of end → ⊥
      not_so (Ok status) e = cc
      not_so (Err fault) e = cc
  at_next (step.Judges upgrade seed moment) after at (end, is, judged) = absurd (not_so end is)
    where
      not_so : (end : Result ℕ Fault) → Ok (On after) ≡ performed_of end → ⊥
      not_so (Ok status) e = cc
      not_so (Err fault) e = cc

  pub at_next_as : (now after : Step) (one : Performed) (at : IsAt plan now v v' o p) → one ≡ On after → PerformSays now at.next (Ok one) v' v'' p q → IsAt plan after v v'' o q
  at_next_as now after one at is says = at_next now after at (subst (λ r. PerformSays now at.next (Ok r) v' v'' p q) is says)

  same_end : (result end : Result ℕ Fault) → performed_of result ≡ performed_of end → end ≡ result
  same_end (Ok a) (Ok b) e = cc
  same_end (Ok a) (Err b) e = cc
  same_end (Err a) (Ok b) e = cc
  same_end (Err a) (Err b) e = cc

  -- the last step
  pub at_end : (now : Step) (at : IsAt plan now v v' o p) (result : Result ℕ Fault) → PerformSays now at.next (performed_of result) v' v'' p q → WasDone plan result v v'' o q
  at_end (step.Asks ask onward) at (Ok status) says = absurd says
  at_end (step.Asks ask onward) at (Err fault) says = inl (
    plan_asks plan at.next v v' o p (subst IsAsking (sym at.is.2) tt) at.begun,
    does_behind plan at.next v v' v'' o p q at.fed ask.input (Err fault) at.brings says (no_more at.fed ask.input (feeds_at onward) at.once),
  )
  at_end (step.Writes text status) at result (end, is, prints, same) = inl (
    plan_asks plan at.next v v' o p (subst IsAsking (sym at.is) tt) at.begun,
    subst (λ r. FedDoes plan r v v'' o q) (same_end result end is) (written_end plan at.next v v' v'' o p q at.fed end at.brings prints same),
  )
  at_end (step.Judges upgrade seed moment) at result (end, is, judged) =
      subst (λ r. WasDone plan r v v'' o q) (same_end result end is)
      (by_end plan at.next v v' v'' o p q end at.begun (λ asking. subst IsAsking at.is.0 asking) judged)

  pub at_end_as : (now : Step) (one : Performed) (status : ℕ) (at : IsAt plan now v v' o p) → one ≡ Ended status → PerformSays now at.next (Ok one) v' v'' p q → WasDone plan (Ok status) v v'' o q
  at_end_as now one status at is says = at_end now at (Ok status) (subst (λ r. PerformSays now at.next (Ok r) v' v'' p q) is says)
