-- How changes of timers change what one sees of a container.
use Rattle.std.proofs.Common.{◌≡◌, ◌≢◌, ℕ, ◌≤◌, ◌==◌, Bool, true, false, List, [], ◌∷◌, Option, Some, None, if◌then◌else◌, refl, ap, sym, ◌∙◌, subst, arith}
use Rattle.std.proofs.lemmas.Bool.{eqb-true, eq-eqb}
use Rattle.std.specs.List.{AllByRecursion}
use Rattle.container_table.specs.Timers.{is_timer, timer_in, cleared, with_timer, is_listed_before}
use Rattle.container_table.specs.Lists.{placed}
use Rattle.container_table.proofs.PlacedLemmas.{all_placed}
use Rattle.machine_model.specs.State.{State}
use Rattle.machine_model.specs.Chain.{change}
use Rattle.machine_model.specs.Consistency.{is_there, AreOther, AreSingle}
use Rattle.machine_model.proofs.ListLemmas.{all_weaken}
use Rattle.machine_model.proofs.ChangeLemmas.{all_removed}
use Rattle.machine_model.proofs.Fits.PartLemmas.{Parts, parts_of, IsRanked, Leads}
use Rattle.machine_model.proofs.ObeyLemmas.{both_true}
use Rattle.engine_text.specs.declared.step.DueAction.{DueAction}

-- ---- timers

timer_parts : (r n : ℕ) (d : DueAction) → is_timer r n d ≡ true → (d.rank ≡ r) × (d.number ≡ n)
timer_parts r n d e = let both = both_true (d.rank == r) (d.number == n) e in (eqb-true d.rank r both.0, eqb-true d.number n both.1)

timer_is : (r n : ℕ) (d : DueAction) → d.rank ≡ r → d.number ≡ n → is_timer r n d ≡ true
timer_is r n d e f = rw (eq-eqb d.rank r e) (eq-eqb d.number n f)

not_timer : (b : Bool) (r n : ℕ) (d : DueAction) → is_timer r n d ≡ b → ((d.rank ≡ r) → d.number ≢ n) → b ≡ false
not_timer true r n d e other = let both = timer_parts r n d e in absurd (other both.0 both.1)
not_timer false r n d e other = refl

pub none_timer : (r n : ℕ) (ds : List DueAction) → AllByRecursion (λ d. (d.rank ≡ r) → d.number ≢ n) ds → timer_in r n ds ≡ None
none_timer r n [] h = refl
none_timer r n (d ∷ ds) h = ap (λ b. if b then Some d else timer_in r n ds) (not_timer (is_timer r n d) r n d refl h.0) ∙ none_timer r n ds h.1

cleared_cons : (b : Bool) (r n : ℕ) (d : DueAction) (ds left : List DueAction) → is_timer r n d ≡ b → AllByRecursion (AreOther d) ds → timer_in r n left ≡ None
    → timer_in r n (if b then ds else d ∷ left) ≡ None
cleared_cons true r n d ds left e other more =
    let both = timer_parts r n d e in
    none_timer r n ds (all_weaken (AreOther d) (λ e. (e.rank ≡ r) → e.number ≢ n) (λ e differ rank number. differ (both.0 ∙ sym rank) (both.1 ∙ sym number)) ds other)
cleared_cons false r n d ds left e other more = ap (λ b. if b then Some d else timer_in r n left) e ∙ more

cleared_none : (r n : ℕ) (ds : List DueAction) → AreSingle ds → timer_in r n (cleared r n ds) ≡ None
cleared_none r n [] h = refl
cleared_none r n (d ∷ ds) h = cleared_cons (is_timer r n d) r n d ds (cleared r n ds) refl h.0 (cleared_none r n ds h.1)

others_cons : (b : Bool) (r n q m : ℕ) (d : DueAction) (ds left : List DueAction) → is_timer r n d ≡ b → ((r ≡ q) → n ≢ m) → timer_in q m left ≡ timer_in q m ds
    → timer_in q m (if b then ds else d ∷ left) ≡ timer_in q m (d ∷ ds)
others_cons true r n q m d ds left e other more =
    let both = timer_parts r n d e in
    let off : is_timer q m d ≡ false = not_timer (is_timer q m d) q m d refl (λ rank number. other (sym both.0 ∙ rank) (sym both.1 ∙ number)) in
    sym (ap (λ b. if b then Some d else timer_in q m ds) off)
others_cons false r n q m d ds left e other more = ap (λ o. if is_timer q m d then Some d else o) more

cleared_others : (r n q m : ℕ) (ds : List DueAction) → ((r ≡ q) → n ≢ m) → timer_in q m (cleared r n ds) ≡ timer_in q m ds
cleared_others r n q m [] other = refl
cleared_others r n q m (d ∷ ds) other = others_cons (is_timer r n d) r n q m d ds (cleared r n ds) refl other (cleared_others r n q m ds other)

single_by : (b : Bool) (d : DueAction) (ds left : List DueAction) → AllByRecursion (AreOther d) left → AreSingle ds → AreSingle left → AreSingle (if b then ds else d ∷ left)
single_by true d ds left other first second = first
single_by false d ds left other first second = (other, second)

cleared_single : (r n : ℕ) (ds : List DueAction) → AreSingle ds → AreSingle (cleared r n ds)
cleared_single r n [] h = tt
cleared_single r n (d ∷ ds) h = single_by (is_timer r n d) d ds (cleared r n ds) (all_removed (AreOther d) (is_timer r n) ds h.0) h.1 (cleared_single r n ds h.1)

single_more : (ds : List DueAction) (d : DueAction) → AreSingle ds → AllByRecursion (λ e. AreOther e d) ds → AreSingle (placed is_listed_before d ds)
single_more [] d h other = (tt, tt)
single_more (e ∷ ds) d h other = go (is_listed_before e d) (single_more ds d h.1 other.1)
  where
    go : (b : Bool) → AreSingle (placed is_listed_before d ds) → AreSingle (if b then e ∷ placed is_listed_before d ds else d ∷ e ∷ ds)
    go true more = (all_placed is_listed_before (AreOther e) d ds other.0 h.0, more)
    go false more = (all_weaken (λ x. AreOther x d) (AreOther d) (λ x o rank number. o (sym rank) (sym number)) (e ∷ ds) other, h)

none_is : (b : Bool) (r n : ℕ) (d : DueAction) (rest : Option DueAction) → is_timer r n d ≡ b → (if b then Some d else rest) ≡ None → ((d.rank ≡ r) → d.number ≢ n) × (rest ≡ None)
none_is true r n d rest e none = absurd (cc)
none_is false r n d rest e none = (λ rank number. let yes_it_is : is_timer r n d ≡ true = timer_is r n d rank number in let never : false ≡ true = sym e ∙ yes_it_is in absurd (cc), none)

nowhere : (r n : ℕ) (ds : List DueAction) → timer_in r n ds ≡ None → AllByRecursion (λ d. (d.rank ≡ r) → d.number ≢ n) ds
nowhere r n [] none = tt
nowhere r n (d ∷ ds) none = let one = none_is (is_timer r n d) r n d (timer_in r n ds) refl none in (one.0, nowhere r n ds one.1)

found_more : (b : Bool) (x : DueAction) (r t : Option DueAction) → r ≡ t → (if b then Some x else r) ≡ (if b then Some x else t)
found_more b x r t e = ap (λ o. if b then Some x else o) e

set_others : (q m : ℕ) (ds : List DueAction) (d : DueAction) → ((d.rank ≡ q) → d.number ≢ m) → timer_in q m (placed is_listed_before d ds) ≡ timer_in q m ds
set_others q m [] d other = ap (λ b. if b then Some d else None) (not_timer (is_timer q m d) q m d refl other)
set_others q m (e ∷ ds) d other = go (is_listed_before e d) (set_others q m ds d other)
  where
    go : (b : Bool) → timer_in q m (placed is_listed_before d ds) ≡ timer_in q m ds → timer_in q m (if b then e ∷ placed is_listed_before d ds else d ∷ e ∷ ds) ≡ timer_in q m (e ∷ ds)
    go true more = found_more (is_timer q m e) e (timer_in q m (placed is_listed_before d ds)) (timer_in q m ds) more
    go false more = ap (λ b. if b then Some d else timer_in q m (e ∷ ds)) (not_timer (is_timer q m d) q m d refl other)

there_past : (b : Bool) (x : DueAction) (r : Option DueAction) → is_there r ≡ true → is_there (if b then Some x else r) ≡ true
there_past true x r h = refl
there_past false x r h = h

set_there : (r n : ℕ) (ds : List DueAction) (d : DueAction) → d.rank ≡ r → d.number ≡ n → is_there (timer_in r n (placed is_listed_before d ds)) ≡ true
set_there r n [] d e f = ap (λ b. is_there (if b then Some d else None)) (timer_is r n d e f)
set_there r n (x ∷ ds) d e f = go (is_listed_before x d) (set_there r n ds d e f)
  where
    go : (b : Bool) → is_there (timer_in r n (placed is_listed_before d ds)) ≡ true → is_there (timer_in r n (if b then x ∷ placed is_listed_before d ds else d ∷ x ∷ ds)) ≡ true
    go true more = there_past (is_timer r n x) x (timer_in r n (placed is_listed_before d ds)) more
    go false more = ap (λ b. is_there (if b then Some d else timer_in r n (x ∷ ds))) (timer_is r n d e f)

-- timers of that number alone
leads_timers : {Local : Parts → Type 0} {n : ℕ} {P Q : Parts → Type 0} (g : State → List DueAction)
    → ((s : State) → AreSingle s.timers → AllByRecursion IsRanked s.timers → AreSingle (g s) × AllByRecursion IsRanked (g s))
    → ((s : State) (q m : ℕ) → n ≢ m → timer_in q m (g s) ≡ timer_in q m s.timers)
    → ((s : State) → AreSingle s.timers → P (parts_of n s) → Q (record (parts_of n s) { stop = is_there (timer_in 1 n (g s)); removal = is_there (timer_in 2 n (g s)); restart = is_there (timer_in 3 n (g s)) }))
    → Leads Local n P (change (λ s. record s { timers = g s })) Q
leads_timers {Local} {n} {P} {Q} g keeps others k = record {
  holds = λ s h.
      let timers = keeps s h.0.2 h.0.3 in (
        (h.0.0, h.0.1, timers.0, timers.1, h.0.4, h.0.5, h.0.6, h.0.7),
        λ m other.
            let one : is_there (timer_in 1 m (g s)) ≡ is_there (timer_in 1 m s.timers) = ap is_there (others s 1 m other) in
            let two : is_there (timer_in 2 m (g s)) ≡ is_there (timer_in 2 m s.timers) = ap is_there (others s 2 m other) in
            let three : is_there (timer_in 3 m (g s)) ≡ is_there (timer_in 3 m s.timers) = ap is_there (others s 3 m other) in
            let all : record (parts_of m s) { stop = is_there (timer_in 1 m (g s)); removal = is_there (timer_in 2 m (g s)); restart = is_there (timer_in 3 m (g s)) } ≡ parts_of m s =
            λ i. record (parts_of m s) { stop = one i; removal = two i; restart = three i } in
            subst Local (sym all) (h.1 m other),
        k s h.0.2 h.2,
      );
}

cleared_keeps : (r n : ℕ) (s : State) → AreSingle s.timers → AllByRecursion IsRanked s.timers → AreSingle (cleared r n s.timers) × AllByRecursion IsRanked (cleared r n s.timers)
cleared_keeps r n s single ranked = (cleared_single r n s.timers single, all_removed IsRanked (is_timer r n) s.timers ranked)

set_keeps : (moment r n : ℕ) (s : State) → 1 ≤ r → r ≤ 3 → AreSingle s.timers → AllByRecursion IsRanked s.timers
    → AreSingle (with_timer moment r n s.timers) × AllByRecursion IsRanked (with_timer moment r n s.timers)
set_keeps moment r n s least greatest single ranked =
    let d : DueAction = record { moment = moment; rank = r; number = n } in (
      single_more (cleared r n s.timers) d (cleared_single r n s.timers single) (nowhere r n (cleared r n s.timers) (cleared_none r n s.timers single)),
      all_placed is_listed_before IsRanked d (cleared r n s.timers) (record { least = least; greatest = greatest }) (all_removed IsRanked (is_timer r n) s.timers ranked),
    )

set_elsewhere : (moment r n q m : ℕ) (ds : List DueAction) → ((r ≡ q) → n ≢ m) → timer_in q m (with_timer moment r n ds) ≡ timer_in q m ds
set_elsewhere moment r n q m ds other = set_others q m (cleared r n ds) (record { moment = moment; rank = r; number = n }) other ∙ cleared_others r n q m ds other

-- a parts_of with other timers
abbrev pub timed : Bool → Bool → Bool → Parts → Parts
timed a b c v = record v { stop = a; removal = b; restart = c }

look_timed : (v : Parts) (a b c : Bool) (x y z : Bool) (Q : Parts → Type 0) → x ≡ a → y ≡ b → z ≡ c → Q (timed a b c v) → Q (timed x y z v)
look_timed v a b c x y z Q e f g h =
    let all : timed x y z v ≡ timed a b c v = λ i. record v { stop = e i; removal = f i; restart = g i } in
    subst Q (sym all) h

pub leads_clear_1 : {Local : Parts → Type 0} {n : ℕ} {P Q : Parts → Type 0} → ((v : Parts) → P v → Q (timed false v.removal v.restart v))
    → Leads Local n P (change (λ s. record s { timers = cleared 1 n s.timers })) Q
leads_clear_1 {Local} {n} {P} {Q} k =
    leads_timers (λ s. cleared 1 n s.timers) (λ s single ranked. cleared_keeps 1 n s single ranked) (λ s q m other. cleared_others 1 n q m s.timers (λ rank. other))
    (λ s single p.
    look_timed (parts_of n s) false (parts_of n s).removal (parts_of n s).restart _ _ _ Q (ap is_there (cleared_none 1 n s.timers single)) (ap is_there (cleared_others 1 n 2 n s.timers (λ rank. absurd (omega (arith, rank)))))
    (ap is_there (cleared_others 1 n 3 n s.timers (λ rank. absurd (omega (arith, rank))))) (k (parts_of n s) p))

pub leads_clear_2 : {Local : Parts → Type 0} {n : ℕ} {P Q : Parts → Type 0} → ((v : Parts) → P v → Q (timed v.stop false v.restart v))
    → Leads Local n P (change (λ s. record s { timers = cleared 2 n s.timers })) Q
leads_clear_2 {Local} {n} {P} {Q} k =
    leads_timers (λ s. cleared 2 n s.timers) (λ s single ranked. cleared_keeps 2 n s single ranked) (λ s q m other. cleared_others 2 n q m s.timers (λ rank. other))
    (λ s single p.
    look_timed (parts_of n s) (parts_of n s).stop false (parts_of n s).restart _ _ _ Q (ap is_there (cleared_others 2 n 1 n s.timers (λ rank. absurd (omega (arith, rank))))) (ap is_there (cleared_none 2 n s.timers single))
    (ap is_there (cleared_others 2 n 3 n s.timers (λ rank. absurd (omega (arith, rank))))) (k (parts_of n s) p))

pub leads_clear_3 : {Local : Parts → Type 0} {n : ℕ} {P Q : Parts → Type 0} → ((v : Parts) → P v → Q (timed v.stop v.removal false v))
    → Leads Local n P (change (λ s. record s { timers = cleared 3 n s.timers })) Q
leads_clear_3 {Local} {n} {P} {Q} k =
    leads_timers (λ s. cleared 3 n s.timers) (λ s single ranked. cleared_keeps 3 n s single ranked) (λ s q m other. cleared_others 3 n q m s.timers (λ rank. other))
    (λ s single p.
    look_timed (parts_of n s) (parts_of n s).stop (parts_of n s).removal false _ _ _ Q (ap is_there (cleared_others 3 n 1 n s.timers (λ rank. absurd (omega (arith, rank)))))
    (ap is_there (cleared_others 3 n 2 n s.timers (λ rank. absurd (omega (arith, rank))))) (ap is_there (cleared_none 3 n s.timers single)) (k (parts_of n s) p))

pub leads_set_1 : {Local : Parts → Type 0} {n : ℕ} {P Q : Parts → Type 0} (at : State → ℕ) → ((v : Parts) → P v → Q (timed true v.removal v.restart v))
    → Leads Local n P (change (λ s. record s { timers = with_timer (at s) 1 n s.timers })) Q
leads_set_1 {Local} {n} {P} {Q} at k =
    leads_timers (λ s. with_timer (at s) 1 n s.timers) (λ s single ranked. set_keeps (at s) 1 n s (omega arith) (omega arith) single ranked)
    (λ s q m other. set_elsewhere (at s) 1 n q m s.timers (λ rank. other))
    (λ s single p.
    look_timed (parts_of n s) true (parts_of n s).removal (parts_of n s).restart _ _ _ Q (set_there 1 n (cleared 1 n s.timers) _ refl refl)
    (ap is_there (set_elsewhere (at s) 1 n 2 n s.timers (λ rank. absurd (omega (arith, rank))))) (ap is_there (set_elsewhere (at s) 1 n 3 n s.timers (λ rank. absurd (omega (arith, rank))))) (k (parts_of n s) p))

pub leads_set_2 : {Local : Parts → Type 0} {n : ℕ} {P Q : Parts → Type 0} (at : State → ℕ) → ((v : Parts) → P v → Q (timed v.stop true v.restart v))
    → Leads Local n P (change (λ s. record s { timers = with_timer (at s) 2 n s.timers })) Q
leads_set_2 {Local} {n} {P} {Q} at k =
    leads_timers (λ s. with_timer (at s) 2 n s.timers) (λ s single ranked. set_keeps (at s) 2 n s (omega arith) (omega arith) single ranked)
    (λ s q m other. set_elsewhere (at s) 2 n q m s.timers (λ rank. other))
    (λ s single p.
    look_timed (parts_of n s) (parts_of n s).stop true (parts_of n s).restart _ _ _ Q (ap is_there (set_elsewhere (at s) 2 n 1 n s.timers (λ rank. absurd (omega (arith, rank)))))
    (set_there 2 n (cleared 2 n s.timers) _ refl refl) (ap is_there (set_elsewhere (at s) 2 n 3 n s.timers (λ rank. absurd (omega (arith, rank))))) (k (parts_of n s) p))

pub leads_set_3 : {Local : Parts → Type 0} {n : ℕ} {P Q : Parts → Type 0} (at : State → ℕ) → ((v : Parts) → P v → Q (timed v.stop v.removal true v))
    → Leads Local n P (change (λ s. record s { timers = with_timer (at s) 3 n s.timers })) Q
leads_set_3 {Local} {n} {P} {Q} at k =
    leads_timers (λ s. with_timer (at s) 3 n s.timers) (λ s single ranked. set_keeps (at s) 3 n s (omega arith) (omega arith) single ranked)
    (λ s q m other. set_elsewhere (at s) 3 n q m s.timers (λ rank. other))
    (λ s single p.
    look_timed (parts_of n s) (parts_of n s).stop (parts_of n s).removal true _ _ _ Q (ap is_there (set_elsewhere (at s) 3 n 1 n s.timers (λ rank. absurd (omega (arith, rank)))))
    (ap is_there (set_elsewhere (at s) 3 n 2 n s.timers (λ rank. absurd (omega (arith, rank))))) (set_there 3 n (cleared 3 n s.timers) _ refl refl) (k (parts_of n s) p))
