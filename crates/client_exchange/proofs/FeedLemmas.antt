-- A request that standard input follows, by the plan that asks it.
use Rattle.std.proofs.Common.{◌≡◌, inl, inr, ℕ, List, [], ◌∷◌, ◌++◌, map, refl, sym, ap, ◌∙◌, Result, Bool, true, false}
use Rattle.std.specs.Prelude.{if◌then◌else◌, ◌||◌}
use Rattle.std.specs.List.{list_any}
use Rattle.std.proofs.lemmas.List.Folds.{list_any-append}
use Rattle.engine_ports.specs.Source.{SourceView}
use Rattle.client_model.specs.Requests.{request_bytes}
use Rattle.client_model.specs.Plans.{Plan, Asked}
use Rattle.client_model.specs.Runs.{sent_by}
use Rattle.client_model.specs.declared.fault.Fault.{Fault}
use Rattle.client_exchange.specs.Exchanges.{Reach}
use Rattle.client_exchange.specs.Walks.{AreQuiet, Walked, Walks, Does}
use Rattle.client_exchange.specs.Feeding.{Feeds, FedDoes}
use Rattle.client_exchange.proofs.WalkLemmas.{way_on, walk_on}

-- ---- walks beside input

-- what was sent without input is what would be with it
pub sent_anyway : (input : List ℕ) (asked : List Asked) → AreQuiet asked → map (sent_by []) asked ≡ map (sent_by input) asked
sent_anyway input [] quiet = refl
sent_anyway input (a ∷ asked) quiet = by_first a.input refl (sent_anyway input asked)
  where
    by_first : (t : Bool) → a.input ≡ t → (AreQuiet asked → map (sent_by []) asked ≡ map (sent_by input) asked) → map (sent_by []) (a ∷ asked) ≡ map (sent_by input) (a ∷ asked)
    by_first true is rest = absurd (loud (sym (ap (λ t. t || list_any (λ (b : Asked). b.input) asked) is) ∙ quiet))
      where
        loud : true ≡ false → ⊥
        loud e = cc
    by_first false is rest =
        ap (λ t. (if t then request_bytes a.request ++ [] else request_bytes a.request) ∷ map (sent_by []) asked) is
        ∙ ap (λ l. request_bytes a.request ∷ l) (rest (sym (ap (λ t. t || list_any (λ (b : Asked). b.input) asked) is) ∙ quiet))
        ∙ ap (λ t. (if t then request_bytes a.request ++ input else request_bytes a.request) ∷ map (sent_by input) asked) (sym is)

unfoldable pub with_input : (plan next : Plan) (input : List ℕ) (o o' : Reach) → Walks plan o next o' → Walked plan input o next o'
with_input plan next input o o' w = record {
  xs = w.way.xs;
  answers = w.way.answers;
  asked = w.way.asked;
  written = w.way.written;
  answered = w.way.answered;
  came = w.way.came;
  left = w.way.left;
  others = w.way.others;
  faults = w.way.faults;
  sent = w.way.sent ∙ sent_anyway input w.way.asked w.quiet;
  took = w.way.took;
  wrote = w.way.wrote;
  says = w.way.says;
}

loud_on : (ms ns : List Asked) → list_any (λ a. a.input) ms ≡ true → list_any (λ a. a.input) (ms ++ ns) ≡ true
loud_on ms ns loud = list_any-append (λ (x : Asked). x.input) ms ns ∙ ap (λ t. t || list_any (λ (x : Asked). x.input) ns) loud

pub loud_behind : (ms ns : List Asked) → AreQuiet ms → list_any (λ a. a.input) ns ≡ true → list_any (λ a. a.input) (ms ++ ns) ≡ true
loud_behind ms ns quiet loud = list_any-append (λ (x : Asked). x.input) ms ns ∙ ap (λ t. t || list_any (λ (x : Asked). x.input) ns) quiet ∙ loud

pub feeds_behind : (plan next last : Plan) (v v' : SourceView) (o p q : Reach) → Walks plan o next p → Feeds next v v' p last q → Feeds plan v v' o last q
unfolding way_on with_input
feeds_behind plan next last v v' o p q w f = record {
  input = f.input;
  way = way_on plan next last f.input o p q (with_input plan next f.input o p w) f.way;
  loud = loud_behind w.way.asked f.way.asked w.quiet f.loud;
  gave = f.gave;
  ended = f.ended;
}

pub feeds_on : (plan next last : Plan) (v v' : SourceView) (o p q : Reach) → Feeds plan v v' o next p → Walks next p last q → Feeds plan v v' o last q
unfolding way_on with_input
feeds_on plan next last v v' o p q f w = record {
  input = f.input;
  way = way_on plan next last f.input o p q f.way (with_input next last f.input p q w);
  loud = loud_on f.way.asked w.way.asked f.loud;
  gave = f.gave;
  ended = f.ended;
}

-- ---- plans beside input

pub does_fed : (plan next : Plan) (result : Result ℕ Fault) (v v' : SourceView) (o p q : Reach) → Feeds plan v v' o next p → Does next result p q → FedDoes plan result v v' o q
does_fed plan next result v v' o p q f d =
    inr (inl (record { next = d.next; between = d.between; feeds = feeds_on plan next d.next v v' o p d.between f d.walks; comes = d.comes }))

pub fed_does : (plan next : Plan) (result : Result ℕ Fault) (v v' : SourceView) (o p q : Reach) → Walks plan o next p → FedDoes next result v v' p q → FedDoes plan result v v' o q
fed_does plan next result v v' o p q w (inl (d, same)) =
    inl (record { next = d.next; between = d.between; walks = walk_on plan next d.next o p d.between w d.walks; comes = d.comes }, same)
fed_does plan next result v v' o p q w (inr (inl d)) =
    inr (inl (record { next = d.next; between = d.between; feeds = feeds_behind plan next d.next v v' o p d.between w d.feeds; comes = d.comes }))
fed_does plan next result v v' o p q w (inr (inr (fault, is, s))) =
    inr (inr (
      fault,
      is,
      record {
        next = s.next;
        between = s.between;
        walks = walk_on plan next s.next o p s.between w s.walks;
        input = s.input;
        gave = s.gave;
        stops = s.stops;
        loud = s.loud;
        fed = s.fed;
      },
    ))
