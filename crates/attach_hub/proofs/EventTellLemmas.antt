-- What was told of a history's events, as it goes on, and where it ends.
use Rattle.std.proofs.Common.{◌≡◌, ◌≤◌, ◌<◌, ◌&&◌, ℕ, List, [], ◌∷◌, ◌++◌, refl, sym, ◌∙◌, ap, subst, append-nil, arith, Bool, true, false, Option, Some, None, length, take, drop, take-append-drop, length-take, length-append}
use Rattle.std.specs.Prelude.{nat_le, IsSomeAnd}
use Rattle.std.specs.List.{list_all, last_or}
use Rattle.std.proofs.lemmas.Bool.{false≢true}
use Rattle.std.proofs.lemmas.Bool.Decides.{nat_tests}
use Rattle.std.proofs.lemmas.List.{take-append-le, take-take, length-take-le, drop-append-le, drop_all}
use Rattle.engine_text.specs.declared.event.Event.{Event}
use Rattle.engine_text.specs.declared.filter.FilterRow.{FilterRow}
use Rattle.engine_text.specs.declared.reply.Reply.TheVariants.{EventStream}
use Rattle.engine_text.specs.declared.step.Step.{Step}
use Rattle.machine_model.specs.EventLines.{event_lines, is_told, lines_between, lines_of}
use Rattle.machine_model.specs.Filters.{event_passes}
use Rattle.machine_model.specs.History.{Charter, Extends, events_from, events_of, opening_state, state_from}
use Rattle.machine_model.proofs.Histories.{events_append}
use Rattle.session_model.specs.declared.followed.Followed.TheVariants as F
use Rattle.session_model.specs.declared.turned.Part.TheVariants as P
use Rattle.session_model.specs.Exchange.{EndsSo, IsBody, IsCaughtUp}
use Rattle.session_model.specs.Moments.{ComesTo}
use Rattle.session_model.proofs.HistoryLemmas.{extends_same}
use Rattle.daemon_core.specs.EventTurns.{EventsSay, comes_to, is_over, is_past}
use Rattle.daemon_core.proofs.LineLemmas.{lines_append}

-- a body is the lines of a history's events up to that place
pub record TellsEvents (ch : Charter) (first : ℕ) (until : Option ℕ) (filters : List FilterRow) (b : List Step) (body : List ℕ) (place : ℕ) : Type 0 where
  pub begins : first ≤ place
  pub counted : place ≤ length (events_of ch b)
  pub tells : body ≡ lines_between ch b filters until first place

-- ---- a list between two places

none_between : {A : Type 0} (xs : List A) (a : ℕ) → drop a (take a xs) ≡ []
none_between xs a = let e = length-take a xs in drop_all a (take a xs) (omega (arith, e))

-- what lies from a place on, up to another and behind that
parted : {A : Type 0} (xs : List A) (a b : ℕ) → a ≤ b → b ≤ length xs → drop a xs ≡ drop a (take b xs) ++ drop b xs
parted xs a b le in_xs =
    let n = length-take-le b xs in_xs in
    ap (drop a) (sym (take-append-drop b xs)) ∙ drop-append-le a (take b xs) (drop b xs) (omega (arith, n, le))

between_on : {A : Type 0} (xs : List A) (a b c : ℕ) → a ≤ b → b ≤ c → c ≤ length xs
    → drop a (take c xs) ≡ drop a (take b xs) ++ drop b (take c xs)
between_on xs a b c le le' in_xs =
    let n = length-take-le c xs in_xs in
    parted (take c xs) a b le (omega (arith, n, le')) ∙ ap (λ y. drop a y ++ drop b (take c xs)) (take-take b c xs le')

-- ---- it goes on

-- nothing yet
pub events_first : (ch : Charter) (first : ℕ) (until : Option ℕ) (filters : List FilterRow) (a : List Step) → first ≤ length (events_of ch a)
    → TellsEvents ch first until filters a [] first
events_first ch first until filters a le = record {
  begins = omega arith;
  counted = le;
  tells = sym (ap (lines_of filters until) (none_between (events_of ch a) first));
}

-- a longer history has these events, and more behind them
pub events_later : (ch : Charter) (first : ℕ) (until : Option ℕ) (filters : List FilterRow) (b c : List Step) (body : List ℕ) (place : ℕ)
    → Extends b c → TellsEvents ch first until filters b body place → TellsEvents ch first until filters c body place
events_later ch first until filters b c body place (more, is) t =
    let behind : List Event = events_from (state_from (opening_state ch) b) more in
    let all : events_of ch c ≡ events_of ch b ++ behind = ap (events_of ch) is ∙ events_append (opening_state ch) b more in
    let sum = ap length all ∙ length-append (events_of ch b) behind in
    let counted = t.counted in
    let same : take place (events_of ch c) ≡ take place (events_of ch b) =
    ap (take place) all ∙ take-append-le place (events_of ch b) behind counted in
    record {
      begins = t.begins;
      counted = omega (arith, counted, sum);
      tells = t.tells ∙ ap (λ es. lines_of filters until (drop first es)) (sym same);
    }

-- more was told
pub events_more : (ch : Charter) (first : ℕ) (until : Option ℕ) (filters : List FilterRow) (b : List Step) (handed : ℕ) (body old new : List ℕ)
    (place next : ℕ) → TellsEvents ch first until filters b body place → EventsSay ch b handed filters until place (P.More next) old new → old ≡ []
    → TellsEvents ch first until filters b (body ++ new) next
events_more ch first until filters b handed body old new place next t says empty =
    let all : List Event = events_of ch b in
    let begins = t.begins in
    let later : place < next = says.1 in
    let lines : List ℕ = lines_between ch b filters until place next in
    record {
      begins = omega (arith, begins, later);
      counted = says.2;
      tells = ap (λ y. body ++ y) (says.3 ∙ ap (λ y. y ++ lines) empty) ∙ ap (λ y. y ++ lines) t.tells
          ∙ sym (ap (lines_of filters until) (between_on all first place next begins (omega (arith, later)) says.2)
          ∙ lines_append filters until (drop first (take place all)) (drop place (take next all)));
    }

-- ---- a stream that isn't whole

-- all lines are those that were told, and those of the events behind
all_lines : (ch : Charter) (first : ℕ) (until : Option ℕ) (filters : List FilterRow) (b : List Step) (body : List ℕ) (place : ℕ)
    → TellsEvents ch first until filters b body place
    → event_lines ch b first filters until ≡ body ++ lines_of filters until (drop place (events_of ch b))
all_lines ch first until filters b body place t =
    let all : List Event = events_of ch b in
    ap (lines_of filters until) (parted all first place t.begins t.counted)
    ∙ lines_append filters until (drop first (take place all)) (drop place all)
    ∙ ap (λ y. y ++ lines_of filters until (drop place all)) (sym t.tells)

pub events_broken : (ch : Charter) (first : ℕ) (until : Option ℕ) (filters : List FilterRow) (a b : List Step) (body : List ℕ) (place : ℕ)
    → TellsEvents ch first until filters b body place → IsBody ch (EventStream first until filters) false a b body
events_broken ch first None filters a b body place t =
    (lines_of filters None (drop place (events_of ch b)), sym (all_lines ch first None filters b body place t))
events_broken ch first (Some u) filters a b body place t =
    (lines_of filters (Some u) (drop place (events_of ch b)), sym (all_lines ch first (Some u) filters b body place t))

-- the next one is kept no more
pub events_gone : (ch : Charter) (first : ℕ) (until : Option ℕ) (filters : List FilterRow) (a b : List Step) (handed : ℕ) (body old new ms : List ℕ)
    (place next oldest : ℕ) → Extends a b → TellsEvents ch first until filters b body place
    → EventsSay ch b handed filters until place (P.Gone next oldest) old new
    → EndsSo ch (EventStream first until filters) (F.Lagged next oldest) body ms a b
events_gone ch first until filters a b handed body old new ms place next oldest extends t says = (
  subst (λ n. first ≤ n) (sym says.0) t.begins,
  t.tells ∙ ap (lines_between ch b filters until first) (sym says.0),
  says.2,
  (b, extends, extends_same b, says.1),
)

-- ---- a stream that is whole

and_left : (x y : Bool) → (x && y) ≡ true → x ≡ true
and_left true y h = refl
and_left false y h = h

and_right : (x y : Bool) → (x && y) ≡ true → y ≡ true
and_right true y h = h
and_right false y h = absurd (false≢true h)

and_false : (b : Bool) → (b && false) ≡ false
and_false true = refl
and_false false = refl

-- of events behind the end there is no line
no_lines : (filters : List FilterRow) (u : ℕ) (events : List Event) → list_all (is_past (Some u)) events ≡ true
    → lines_of filters (Some u) events ≡ []
no_lines filters u [] all = refl
no_lines filters u (e ∷ events) all =
    let past = and_left (is_past (Some u) e) (list_all (is_past (Some u)) events) all in
    let late : nat_le e.moment u ≡ false = grind (arith, nat_tests, past) in
    let untold : is_told filters (Some u) e ≡ false = ap (λ b. event_passes filters e && b) late ∙ and_false (event_passes filters e) in
    rw untold (no_lines filters u events (and_right (is_past (Some u) e) (list_all (is_past (Some u)) events) all))

pub events_whole : (ch : Charter) (first : ℕ) (until : Option ℕ) (filters : List FilterRow) (a b : List Step) (handed : ℕ) (body old new : List ℕ)
    (place : ℕ) → TellsEvents ch first until filters b body place → EventsSay ch b handed filters until place P.Whole old new
    → IsBody ch (EventStream first until filters) true a b body
events_whole ch first None filters a b handed body old new place t says = absurd (false≢true says.0.1)
events_whole ch first (Some u) filters a b handed body old new place t says =
    let left : List Event = drop place (events_of ch b) in
    let all = and_right (comes_to (Some u) handed) (list_all (is_past (Some u)) left) says.0.1 in
    sym (all_lines ch first (Some u) filters b body place t
    ∙ ap (λ y. body ++ y) (no_lines filters u left all) ∙ append-nil body)

-- the last moment had come to the end
pub events_came : (ch : Charter) (first : ℕ) (until : Option ℕ) (filters : List FilterRow) (b : List Step) (handed : ℕ) (old new ms : List ℕ)
    (place : ℕ) → EventsSay ch b handed filters until place P.Whole old new → last_or None ms ≡ Some handed
    → ComesTo (EventStream first until filters) F.Whole ms
events_came ch first None filters b handed old new ms place says last = tt
events_came ch first (Some u) filters b handed old new ms place says last =
    let comes = and_left (comes_to (Some u) handed) (list_all (is_past (Some u)) (drop place (events_of ch b))) says.0.1 in
    let le : u ≤ handed = grind (arith, nat_tests, comes) in subst (λ o. IsSomeAnd o (λ m. u ≤ m)) (sym last) le

-- ---- a stream that was stopped

none_left : {A : Type 0} (xs : List A) (place : ℕ) → place ≡ length xs → drop place xs ≡ []
none_left xs place is = drop_all place xs (omega (arith, is))

-- all lines were told
pub events_told : (ch : Charter) (first : ℕ) (until : Option ℕ) (filters : List FilterRow) (a b : List Step) (handed : ℕ) (body old new ms : List ℕ)
    (place : ℕ) → TellsEvents ch first until filters b body place → EventsSay ch b handed filters until place P.UpToDate old new
    → IsCaughtUp ch ms a b → EndsSo ch (EventStream first until filters) F.Stopped body ms a b
events_told ch first until filters a b handed body old new ms place t says caught = (
  sym (all_lines ch first until filters b body place t
      ∙ ap (λ es. body ++ lines_of filters until es) (none_left (events_of ch b) place says.1) ∙ append-nil body),
  caught,
)

and_true : (x : Bool) → (x && true) ≡ false → x ≡ false
and_true true h = absurd (false≢true (sym h))
and_true false h = refl

-- and the last moment lies before the end
pub events_wait : (ch : Charter) (first : ℕ) (until : Option ℕ) (filters : List FilterRow) (b : List Step) (handed : ℕ) (old new ms : List ℕ)
    (place : ℕ) → EventsSay ch b handed filters until place P.UpToDate old new → last_or None ms ≡ Some handed
    → ComesTo (EventStream first until filters) F.Stopped ms
events_wait ch first None filters b handed old new ms place says last = tt
events_wait ch first (Some u) filters b handed old new ms place says last =
    let unended = subst (λ es. is_over (Some u) handed es ≡ false) (none_left (events_of ch b) place says.1) says.0.1 in
    let late = and_true (comes_to (Some u) handed) unended in
    let less : handed < u = grind (arith, nat_tests, late) in subst (λ o. IsSomeAnd o (λ m. m < u)) (sym last) less
