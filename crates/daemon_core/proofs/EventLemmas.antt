-- A part of a stream of events, of what the ring gives and what was appended.
use Rattle.std.proofs.Common.{◌≡◌, ◌≤◌, ◌<◌, ◌+◌, ◌-◌, ◌^◌, ◌&&◌, ◌==◌, ℕ, zero, suc, Bool, true, false, if◌then◌else◌, List, [], ◌∷◌, ◌++◌, Option, Some, None, refl, sym, ◌∙◌, ap, subst, arith, drop, take, length, map, length-append, length-drop}
use Rattle.std.specs.Prelude.{nat_lt}
use Rattle.std.specs.List.{AllByRecursion, list_all}
use Rattle.std.proofs.lemmas.Bool.Decides.{nat_tests}
use Rattle.std.proofs.lemmas.List.{length-map, drop-drop, drop-take}
use Rattle.engine_text.specs.declared.event.Event.{Event}
use Rattle.engine_text.specs.declared.filter.FilterRow.{FilterRow}
use Rattle.engine_text.specs.declared.step.Step.{Step}
use Rattle.event_ring.specs.Ring.{Kept, ring_of, first_number, from_number, events_from as events_kept_from}
use Rattle.event_ring.specs.declared.part.FromRing.{FromRing}
use Rattle.event_ring.specs.declared.part.FromRing.TheVariants as From
use Rattle.machine_model.specs.Calls.Events.{first_kept}
use Rattle.machine_model.specs.EventLines.{lines_of}
use Rattle.machine_model.specs.History.{Charter, IsLegal, events_of, opening_state, state_after}
use Rattle.machine_model.specs.Laws.{NeverFall}
use Rattle.machine_model.proofs.Histories.{events_append}
use Rattle.machine_model.proofs.Kept.PastLemmas.{events_counted}
use Rattle.machine_model.proofs.Laws.{consistency_law}
use Rattle.machine_model.proofs.MomentLemmas.{never_fall}
use Rattle.session_model.specs.declared.turned.Part.TheVariants as P
use Rattle.daemon_core.specs.EventTurns.{EventsSay, IsPartFrom, StandsAt, comes_to, is_over, is_past}
use Rattle.daemon_core.specs.Telling.{PassesEvents}
use Rattle.daemon_core.proofs.TellLemmas.{few_events}

-- ---- which events are kept

-- the ring's first is the first whose moment is kept
pub first_same : (ch : Charter) (h : List Step) → first_number (ring_of (events_of ch h)) ≡ first_kept (state_after ch h)
first_same ch h =
    let all : List Event = events_of ch h in
    let moments : List ℕ = map (λ (e : Event). e.moment) all in
    let counted = events_counted ch h in
    let left = length-drop (length all - 65536) all in
    let same : length (state_after ch h).event_moments ≡ length moments - (length moments - 65536) =
    ap length counted.0 ∙ length-drop (length moments - 65536) moments in
    let as_many : length moments ≡ length all = length-map all (λ (e : Event). e.moment) in
    let count = counted.1 in
    omega (arith, left, same, as_many, count)

-- from there on the kept ones are those of the history
pub kept_from : (all : List Event) (n : ℕ) → first_number (ring_of all) ≤ n → events_kept_from n (ring_of all) ≡ drop n all
kept_from all n le =
    let left = length-drop (length all - 65536) all in
    let from : length all - 65536 + (n - first_number (ring_of all)) ≡ n = omega (arith, left, le) in
    drop-drop (n - first_number (ring_of all)) (length all - 65536) all ∙ ap (λ m. drop m all) from

-- what a ring gives from a number on
abbrev pub Gives : Charter → List Step → ℕ → FromRing → Type 0
Gives ch h number (From.Slice part) = IsPartFrom ch h number part
Gives ch h number From.UpToDate = (first_kept (state_after ch h) ≤ number) × (number ≡ length (events_of ch h))
Gives ch h number (From.Lagged next first) = (next ≡ number) × (first ≡ first_kept (state_after ch h)) × (next < first)

given : (ch : Charter) (h : List Step) (n : ℕ) (before last : Bool) → n ≤ length (events_of ch h)
    → nat_lt n (first_number (ring_of (events_of ch h))) ≡ before → (n == length (events_of ch h)) ≡ last
    → Gives ch h n (if before then From.Lagged n (first_number (ring_of (events_of ch h)))
    else (if last then From.UpToDate else From.Slice (events_kept_from n (ring_of (events_of ch h)))))
given ch h n true last le is at =
    let same = first_same ch h in
    let below : n < first_number (ring_of (events_of ch h)) = grind (arith, nat_tests, is) in
    (refl, same, below)
given ch h n false true le is at =
    let same = first_same ch h in
    let from : first_number (ring_of (events_of ch h)) ≤ n = grind (arith, nat_tests, is) in
    let here : n ≡ length (events_of ch h) = grind (arith, nat_tests, at) in
    (omega (arith, same, from), here)
given ch h n false false le is at =
    let same = first_same ch h in
    let from : first_number (ring_of (events_of ch h)) ≤ n = grind (arith, nat_tests, is) in
    let below : n < length (events_of ch h) = grind (arith, nat_tests, at, le) in
    (omega (arith, same, from), below, kept_from (events_of ch h) n from)

gives : (ch : Charter) (h : List Step) (n : ℕ) → n ≤ length (events_of ch h) → Gives ch h n (from_number n (ring_of (events_of ch h)))
gives ch h n le = given ch h n _ _ le refl refl

-- by what it gave
pub ring_gives : (ch : Charter) (h : List Step) (n : ℕ) (r : Kept) (x : FromRing) → r ≡ ring_of (events_of ch h) → n ≤ length (events_of ch h)
    → x ≡ from_number n r → Gives ch h n x
ring_gives ch h n r x told le is = subst (Gives ch h n) (sym (is ∙ ap (from_number n) told)) (gives ch h n le)

-- ---- whether a stream is whole there

fall_dropped : (n : ℕ) (events : List Event) → NeverFall (map (λ e. e.moment) events) → NeverFall (map (λ e. e.moment) (drop n events))
fall_dropped zero events fall = fall
fall_dropped (suc n) [] fall = tt
fall_dropped (suc n) (e ∷ events) fall = fall_dropped n events fall.1

-- what isn't before an event that lies after the end lies after it
all_past : (u : ℕ) (moment : ℕ) (events : List Event) → u < moment → AllByRecursion (λ n. moment ≤ n) (map (λ e. e.moment) events)
    → list_all (is_past (Some u)) events ≡ true
all_past u moment [] after all = refl
all_past u moment (e ∷ events) after all =
    let this : nat_lt u e.moment ≡ true = grind (arith, nat_tests, after, all.0) in
    ap (λ b. b && list_all (is_past (Some u)) events) this ∙ all_past u moment events after all.1

past_first : (until : Option ℕ) (e : Event) (events : List Event) (past : Bool) → NeverFall (map (λ v. v.moment) (e ∷ events))
    → is_past until e ≡ past → list_all (is_past until) (e ∷ events) ≡ past
past_first None e events past fall is = is
past_first (Some u) e events false fall is = ap (λ b. b && list_all (is_past (Some u)) events) is
past_first (Some u) e events true fall is =
    let after : u < e.moment = grind (arith, nat_tests, is) in
    ap (λ b. b && list_all (is_past (Some u)) events) is ∙ all_past u e.moment events after fall.0

-- the first of them tells it
pub stands_at : (ch : Charter) (h : List Step) (handed number : ℕ) (until : Option ℕ) (e : Event) (rest : List Event) (whole : Bool) → IsLegal ch h
    → first_kept (state_after ch h) ≤ number → drop number (events_of ch h) ≡ e ∷ rest
    → (comes_to until handed && is_past until e) ≡ whole → StandsAt ch h handed until number whole
stands_at ch h handed number until e rest whole legal from are is =
    let fall : NeverFall (map (λ v. v.moment) (e ∷ rest)) =
    subst (λ es. NeverFall (map (λ v. v.moment) es)) are (fall_dropped number (events_of ch h) (never_fall consistency_law ch h legal)) in (
      from,
      ap (is_over until handed) are ∙ ap (λ b. comes_to until handed && b) (past_first until e rest _ fall refl) ∙ is,
    )

-- and the end, where no event is left
pub stands_last : (ch : Charter) (h : List Step) (handed number : ℕ) (until : Option ℕ) (whole : Bool)
    → (first_kept (state_after ch h) ≤ number) × (number ≡ length (events_of ch h)) → comes_to until handed ≡ whole
    → StandsAt ch h handed until number whole
stands_last ch h handed number until whole (from, at) is =
    (from, ap (is_over until handed) (ap (λ n. drop n (events_of ch h)) at ∙ drop_all (events_of ch h)) ∙ last (comes_to until handed) ∙ is)
  where
    drop_all : {A : Type 0} (xs : List A) → drop (length xs) xs ≡ []
    drop_all [] = refl
    drop_all (x ∷ xs) = drop_all xs

    last : (b : Bool) → (b && true) ≡ b
    last true = refl
    last false = refl

-- ---- what was appended

-- the lines of the first n of them
pub told_events : (ch : Charter) (h : List Step) (handed number n : ℕ) (filters : List FilterRow) (until : Option ℕ) (e : Event) (rest : List Event)
    (old new : List ℕ) → StandsAt ch h handed until number false → number < length (events_of ch h)
    → drop number (events_of ch h) ≡ e ∷ rest → PassesEvents filters until (e ∷ rest) n old new
    → EventsSay ch h handed filters until number (P.More (number + n)) old new
told_events ch h handed number n filters until e rest old new stands below are (some, le, told) =
    let all : List Event = events_of ch h in
    let left = length-drop number all in
    let same = ap length are in
    let between : drop number (take (number + n) all) ≡ take n (e ∷ rest) = drop-take number n all ∙ ap (take n) are in (
      stands,
      omega (arith, some),
      omega (arith, left, same, le, below),
      told ∙ ap (λ es. old ++ lines_of filters until es) (sym between),
    )

-- their numbers fit 64 bits
pub fits_on : (ch : Charter) (h : List Step) (number n : ℕ) (events : List Event) → IsLegal ch h → number < length (events_of ch h)
    → drop number (events_of ch h) ≡ events → n ≤ length events → number + n < 2 ^ 64
fits_on ch h number n events legal below are le =
    let few = few_events ch h (consistency_law ch h legal) in
    let left = length-drop number (events_of ch h) in
    let same = ap length are in
    omega (arith, few, left, same, le, below)

-- ---- a longer history

-- has no fewer events
pub counted_on : (ch : Charter) (a b more : List Step) (n : ℕ) → n ≤ length (events_of ch a) → b ≡ a ++ more → n ≤ length (events_of ch b)
counted_on ch a b more n le is =
    let sum = ap (λ h. length (events_of ch h)) is ∙ ap length (events_append (opening_state ch) a more)
    ∙ length-append (events_of ch a) _ in
    omega (arith, le, sum)
