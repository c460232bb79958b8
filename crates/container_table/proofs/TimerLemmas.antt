-- Timers in their two orders: what a change of one list is in the other.
use Rattle.std.proofs.Common.{◌≡◌, ℕ, suc, ◌<◌, ◌≤◌, Bool, true, false, if◌then◌else◌, List, [], ◌∷◌, length, get_or, Option, Some, None, Result, refl, sym, ◌∙◌, subst, ap, arith, inl, inr, ◌⊎◌, Ordering}
use Rattle.std.specs.List.{AllByRecursion, insert, remove}
use Rattle.std.specs.List.Sorted.{IsBinarySearchResult, IsSearchInRange}
use Rattle.std.specs.Ordering.{is_lt, is_eq, ordering_index}
use Rattle.std.specs.Cmp.{IsStrictWeakOrder, IsTotalOrder}
use Rattle.std.proofs.lemmas.Cmp.{nat_cmp_total, then_total, on_total}
use Rattle.std.proofs.lemmas.Bool.Decides.{nat_tests}
use Rattle.std.specs.declared.cmp.Ordering.TheVariants.{Less, Equal, Greater}
use Rattle.engine_text.specs.declared.step.DueAction.{DueAction}
use Rattle.container_table.specs.Lists.{placed, remove_first}
use Rattle.container_table.specs.Order.{in_order, IsInOrder, are_apart, AreApart}
use Rattle.container_table.specs.Search.{HoldsOf, Parts}
use Rattle.container_table.specs.Timers.{is_timer, timer_in, cleared, with_timer, is_before, is_listed_before, least}
use Rattle.container_table.specs.DueOrders.{listed_order, due_order, IsFound}
use Rattle.container_table.proofs.LeastLemmas.{IsIn, not_before_itself, least_is}
use Rattle.container_table.proofs.PlacedLemmas.{AreAlone, all_imp, all_in_order, all_removed, alone_in_order, in_order_back, in_order_remove, placed_swap, placed_is_in_order, ordered, length-placed}
use Rattle.container_table.proofs.SearchLemmas.{found_place, rises_in_order, holds_imp, all_at, insert_here, remove_here, find_here, find_none, none_passes, all_of_parts, parts_imp}
use Rattle.container_table.proofs.TextLemmas.{places_rise}

-- ---- the orders

pub listed_total : IsTotalOrder listed_order
listed_total = then_total (on_total (λ (d : DueAction). d.rank) nat_cmp_total) (on_total (λ (d : DueAction). d.number) nat_cmp_total)

pub due_total : IsTotalOrder due_order
due_total = then_total (on_total (λ (d : DueAction). d.moment) nat_cmp_total) listed_total

pub before_order : IsStrictWeakOrder is_before
before_order = record { one_way = λ a b e. grind (arith, nat_tests, e); chain = λ a b c e f. grind (arith, nat_tests, e, f) }

pub listed_less : (a b : DueAction) → is_listed_before a b ≡ true → listed_order a b ≡ Less
listed_less a b e = grind (arith, nat_tests, e)

pub due_less : (a b : DueAction) → is_before a b ≡ true → due_order a b ≡ Less
due_less a b e = grind (arith, nat_tests, e)

pub less_listed : (a b : DueAction) → listed_order a b ≡ Less → is_listed_before a b ≡ true
less_listed a b e = grind (arith, nat_tests, e)

pub greater_listed : (a b : DueAction) → listed_order a b ≡ Greater → is_listed_before a b ≡ false
greater_listed a b e = grind (arith, nat_tests, e)

pub less_due : (a b : DueAction) → due_order a b ≡ Less → is_before a b ≡ true
less_due a b e = grind (arith, nat_tests, e)

pub greater_due : (a b : DueAction) → due_order a b ≡ Greater → is_before a b ≡ false
greater_due a b e = grind (arith, nat_tests, e)

-- what a search by such an order tells
pub found_by : (R : DueAction → DueAction → Ordering) (before : DueAction → DueAction → Bool) → IsTotalOrder R → ((a b : DueAction) → before a b ≡ true → R a b ≡ Less)
    → (ds : List DueAction) (t : DueAction) (r : Result ℕ ℕ) → IsInOrder before ds → IsSearchInRange r (length ds) → IsBinarySearchResult (λ d. R d t) ds r → IsFound R ds t r
found_by R before o less ds t r order bound found =
    found_place (λ d. R d t) ds r (rises_in_order (λ d. ordering_index (R d t)) before ds order (λ a b e. places_rise R o a b t (less a b e))) bound found

-- ---- one of a rank and number

other_timer : (a b : DueAction) (r n : ℕ) → is_listed_before a b ≡ true → is_timer r n a ≡ true → is_timer r n b ≡ false
other_timer a b r n e f = grind (arith, nat_tests, e, f)

pub timers_alone : (r n : ℕ) (ds : List DueAction) → IsInOrder is_listed_before ds → AreAlone (is_timer r n) ds
timers_alone r n [] h = tt
timers_alone r n (d ∷ ds) h = (λ e. all_imp (λ b. is_listed_before d b ≡ true) (λ b. is_timer r n b ≡ false) (λ b f. other_timer d b r n f e) ds h.0, timers_alone r n ds h.1)

apart_due : (a b : DueAction) → is_listed_before a b ≡ true → are_apart is_before a b ≡ true
apart_due a b e = grind (arith, nat_tests, e)

pub timers_apart : (ds : List DueAction) → IsInOrder is_listed_before ds → AreApart is_before ds
timers_apart [] h = tt
timers_apart (d ∷ ds) h = (all_imp (λ b. is_listed_before d b ≡ true) (λ b. are_apart is_before d b ≡ true) (λ b e. apart_due d b e) ds h.0, timers_apart ds h.1)

pub due_in_order : (ds : List DueAction) → IsInOrder is_listed_before ds → IsInOrder is_before (in_order is_before ds)
due_in_order ds h = ordered is_before before_order ds (timers_apart ds h)

level_listed : (d t : DueAction) → listed_order d t ≡ Equal → is_timer t.rank t.number d ≡ true
level_listed d t e = grind (arith, nat_tests, e)

level_due : (d t : DueAction) → due_order d t ≡ Equal → is_timer t.rank t.number d ≡ true
level_due d t e = grind (arith, nat_tests, e)

below_listed : (d t : DueAction) → listed_order d t ≡ Less → is_timer t.rank t.number d ≡ false
below_listed d t e = grind (arith, nat_tests, e)

above_listed : (d t : DueAction) → listed_order d t ≡ Greater → is_timer t.rank t.number d ≡ false
above_listed d t e = grind (arith, nat_tests, e)

-- ---- found by rank and number

pub timer_here : (ds : List DueAction) (t : DueAction) (i : ℕ) (d : DueAction) → IsInOrder is_listed_before ds → HoldsOf (λ d. listed_order d t ≡ Equal) ds i → timer_in t.rank t.number ds ≡ Some (get_or ds i d)
timer_here ds t i d order at =
    find_here (is_timer t.rank t.number) ds i d (timers_alone t.rank t.number ds order) (holds_imp (λ d. listed_order d t ≡ Equal) (λ d. is_timer t.rank t.number d ≡ true) ds i (λ d e. level_listed d t e) at)

pub no_timer_here : (ds : List DueAction) (t : DueAction) (i : ℕ) → Parts (λ d. listed_order d t ≡ Less) (λ d. listed_order d t ≡ Greater) ds i → timer_in t.rank t.number ds ≡ None
no_timer_here ds t i at =
    find_none (is_timer t.rank t.number) ds (all_of_parts (λ d. listed_order d t ≡ Less) (λ d. listed_order d t ≡ Greater) (λ d. is_timer t.rank t.number d ≡ false) ds i (λ d e. below_listed d t e) (λ d e. above_listed d t e) at)

-- ---- taken out

pub removed_listed : (ds : List DueAction) (t : DueAction) (i : ℕ) → IsInOrder is_listed_before ds → HoldsOf (λ d. listed_order d t ≡ Equal) ds i → remove ds i ≡ cleared t.rank t.number ds
removed_listed ds t i order at =
    remove_here (is_timer t.rank t.number) ds i (timers_alone t.rank t.number ds order) (holds_imp (λ d. listed_order d t ≡ Equal) (λ d. is_timer t.rank t.number d ≡ true) ds i (λ d e. level_listed d t e) at)

pub removed_due : (ds due : List DueAction) (t gone : DueAction) (j : ℕ) → IsInOrder is_listed_before ds → due ≡ in_order is_before ds → listed_order gone t ≡ Equal
    → HoldsOf (λ d. due_order d gone ≡ Equal) due j → remove due j ≡ in_order is_before (cleared t.rank t.number ds)
removed_due ds due t gone j order is same at =
    remove_here (is_timer t.rank t.number) due j
    (subst (λ (es : List DueAction). AreAlone (is_timer t.rank t.number) es) (sym is) (alone_in_order is_before (is_timer t.rank t.number) ds (timers_alone t.rank t.number ds order)))
    (holds_imp (λ d. due_order d gone ≡ Equal) (λ d. is_timer t.rank t.number d ≡ true) due j (λ d e. through d gone t e same) at)
    ∙ ap (remove_first (is_timer t.rank t.number)) is
    ∙ sym (in_order_remove is_before before_order (is_timer t.rank t.number) ds (timers_apart ds order) (timers_alone t.rank t.number ds order))
  where
    through : (d gone t : DueAction) → due_order d gone ≡ Equal → listed_order gone t ≡ Equal → is_timer t.rank t.number d ≡ true
    through d gone t e f = grind (arith, nat_tests, e, f)

itself_due : (d : DueAction) → due_order d d ≡ Equal
itself_due d = grind (arith, nat_tests)

-- one that is listed isn't missed among those by moment
pub due_somewhere : (ds due : List DueAction) (i j : ℕ) (d : DueAction) → due ≡ in_order is_before ds → i < length ds
    → Parts (λ e. due_order e (get_or ds i d) ≡ Less) (λ e. due_order e (get_or ds i d) ≡ Greater) due j → ⊥
due_somewhere ds due i j d is less at = elim parted [ inl e ↦ clash (sym itself ∙ e) | inr e ↦ clash' (sym itself ∙ e) ]
  where
    t : DueAction
    t = get_or ds i d

    itself : due_order t t ≡ Equal
    itself = itself_due t

    parted : (due_order t t ≡ Less) ⊎ (due_order t t ≡ Greater)
    parted = all_at (λ e. (due_order e t ≡ Less) ⊎ (due_order e t ≡ Greater)) ds i d
        (in_order_back is_before (λ e. (due_order e t ≡ Less) ⊎ (due_order e t ≡ Greater)) ds
        (subst (λ (es : List DueAction). AllByRecursion (λ e. (due_order e t ≡ Less) ⊎ (due_order e t ≡ Greater)) es) is
        (all_of_parts (λ e. due_order e t ≡ Less) (λ e. due_order e t ≡ Greater) (λ e. (due_order e t ≡ Less) ⊎ (due_order e t ≡ Greater)) due j (λ e h. inl h) (λ e h. inr h) at))) less

    clash : Equal ≡ Less → ⊥
    clash e = let f : false ≡ true = ap is_lt e in absurd (cc)

    clash' : Equal ≡ Greater → ⊥
    clash' e = let f : true ≡ false = ap is_eq e in absurd (cc)

pub in_order_cleared : (r n : ℕ) (ds : List DueAction) → IsInOrder is_listed_before ds → IsInOrder is_listed_before (cleared r n ds)
in_order_cleared r n [] h = tt
in_order_cleared r n (d ∷ ds) h = go (is_timer r n d) (in_order_cleared r n ds h.1)
  where
    go : (b : Bool) → IsInOrder is_listed_before (cleared r n ds) → IsInOrder is_listed_before (if b then ds else d ∷ cleared r n ds)
    go true more = h.1
    go false more = (all_removed (λ e. is_listed_before d e ≡ true) (is_timer r n) ds h.0, more)

pub none_cleared : (r n : ℕ) (ds : List DueAction) → AreAlone (is_timer r n) ds → timer_in r n (cleared r n ds) ≡ None
none_cleared r n [] a = refl
none_cleared r n (d ∷ ds) a = go (is_timer r n d) refl (none_cleared r n ds a.1)
  where
    go : (b : Bool) → is_timer r n d ≡ b → timer_in r n (cleared r n ds) ≡ None → timer_in r n (if b then ds else d ∷ cleared r n ds) ≡ None
    go true e more = find_none (is_timer r n) ds (a.0 e)
    go false e more = rw e more

pub cleared_none : (r n : ℕ) (ds : List DueAction) → timer_in r n ds ≡ None → cleared r n ds ≡ ds
cleared_none r n [] e = refl
cleared_none r n (d ∷ ds) e = go (is_timer r n d) refl e (cleared_none r n ds)
  where
    go : (b : Bool) → is_timer r n d ≡ b → (if b then Some d else timer_in r n ds) ≡ None → (timer_in r n ds ≡ None → cleared r n ds ≡ ds) → (if b then ds else d ∷ cleared r n ds) ≡ d ∷ ds
    go true f e more = absurd (cc)
    go false f e more = ap (λ l. d ∷ l) (more e)

-- ---- put in

none_of : (r n : ℕ) (ds : List DueAction) → timer_in r n ds ≡ None → AllByRecursion (λ d. is_timer r n d ≡ false) ds
none_of r n [] e = tt
none_of r n (d ∷ ds) e = go (is_timer r n d) refl e (none_of r n ds)
  where
    go : (b : Bool) → is_timer r n d ≡ b → (if b then Some d else timer_in r n ds) ≡ None → (timer_in r n ds ≡ None → AllByRecursion (λ d. is_timer r n d ≡ false) ds) → AllByRecursion (λ d. is_timer r n d ≡ false) (d ∷ ds)
    go true f e more = absurd (cc)
    go false f e more = (f, more e)

pub none_listed : (ds : List DueAction) (t : DueAction) (i : ℕ) → timer_in t.rank t.number ds ≡ None → HoldsOf (λ d. listed_order d t ≡ Equal) ds i → ⊥
none_listed ds t i fresh at =
    none_passes (is_timer t.rank t.number) ds i (none_of t.rank t.number ds fresh) (holds_imp (λ d. listed_order d t ≡ Equal) (λ d. is_timer t.rank t.number d ≡ true) ds i (λ d e. level_listed d t e) at)

pub none_due : (ds due : List DueAction) (t : DueAction) (j : ℕ) → due ≡ in_order is_before ds → timer_in t.rank t.number ds ≡ None → HoldsOf (λ d. due_order d t ≡ Equal) due j → ⊥
none_due ds due t j is fresh at =
    none_passes (is_timer t.rank t.number) due j
    (subst (λ (es : List DueAction). AllByRecursion (λ d. is_timer t.rank t.number d ≡ false) es) (sym is) (all_in_order is_before (λ d. is_timer t.rank t.number d ≡ false) ds (none_of t.rank t.number ds fresh)))
    (holds_imp (λ d. due_order d t ≡ Equal) (λ d. is_timer t.rank t.number d ≡ true) due j (λ d e. level_due d t e) at)

pub inserted_listed : (ds : List DueAction) (t : DueAction) (i : ℕ) → Parts (λ d. listed_order d t ≡ Less) (λ d. listed_order d t ≡ Greater) ds i → insert ds i t ≡ placed is_listed_before t ds
inserted_listed ds t i at =
    insert_here is_listed_before t ds i (parts_imp (λ d. listed_order d t ≡ Less) (λ d. listed_order d t ≡ Greater) (λ d. is_listed_before d t ≡ true) (λ d. is_listed_before d t ≡ false) ds i (λ d e. less_listed d t e) (λ d e. greater_listed d t e) at)

-- the order by moment of a list in which one is placed by rank and number
placed_in_order : (t : DueAction) (ds : List DueAction) → AllByRecursion (λ d. are_apart is_before d t ≡ true) ds → in_order is_before (placed is_listed_before t ds) ≡ placed is_before t (in_order is_before ds)
placed_in_order t [] a = refl
placed_in_order t (d ∷ ds) a = go (is_listed_before d t) (placed_in_order t ds a.1)
  where
    go : (b : Bool) → in_order is_before (placed is_listed_before t ds) ≡ placed is_before t (in_order is_before ds)
        → in_order is_before (if b then d ∷ placed is_listed_before t ds else t ∷ d ∷ ds) ≡ placed is_before t (placed is_before d (in_order is_before ds))
    go true more = ap (placed is_before d) more ∙ placed_swap is_before before_order d t (in_order is_before ds) a.0
    go false more = refl

apart_other : (d t : DueAction) → is_timer t.rank t.number d ≡ false → are_apart is_before d t ≡ true
apart_other d t e = grind (arith, nat_tests, e)

listed_apart : (d t : DueAction) → is_timer t.rank t.number d ≡ false → are_apart is_listed_before t d ≡ true
listed_apart d t e = grind (arith, nat_tests, e)

pub inserted_due : (ds due : List DueAction) (t : DueAction) (j : ℕ) → due ≡ in_order is_before ds → timer_in t.rank t.number ds ≡ None
    → Parts (λ d. due_order d t ≡ Less) (λ d. due_order d t ≡ Greater) due j → insert due j t ≡ in_order is_before (placed is_listed_before t ds)
inserted_due ds due t j is fresh at =
    insert_here is_before t due j (parts_imp (λ d. due_order d t ≡ Less) (λ d. due_order d t ≡ Greater) (λ d. is_before d t ≡ true) (λ d. is_before d t ≡ false) due j (λ d e. less_due d t e) (λ d e. greater_due d t e) at)
    ∙ ap (placed is_before t) is
    ∙ sym (placed_in_order t ds (all_imp (λ d. is_timer t.rank t.number d ≡ false) (λ d. are_apart is_before d t ≡ true) (λ d e. apart_other d t e) ds (none_of t.rank t.number ds fresh)))

listed_weak : IsStrictWeakOrder is_listed_before
listed_weak = record { one_way = λ a b e. grind (arith, nat_tests, e); chain = λ a b c e f. grind (arith, nat_tests, e, f) }

pub in_order_placed : (ds : List DueAction) (t : DueAction) → IsInOrder is_listed_before ds → timer_in t.rank t.number ds ≡ None → IsInOrder is_listed_before (placed is_listed_before t ds)
in_order_placed ds t order fresh =
    placed_is_in_order is_listed_before listed_weak t ds order
    (all_imp (λ d. is_timer t.rank t.number d ≡ false) (λ d. are_apart is_listed_before t d ≡ true) (λ d e. listed_apart d t e) ds (none_of t.rank t.number ds fresh))

pub length-with_timer : (moment rank number : ℕ) (ds : List DueAction) → length (with_timer moment rank number ds) ≡ suc (length (cleared rank number ds))
length-with_timer moment rank number ds = length-placed is_listed_before (record { moment = moment; rank = rank; number = number }) (cleared rank number ds)

-- ---- the least

in_back : (x y : DueAction) (l : List DueAction) → IsIn x (placed is_before y l) → (y ≡ x) ⊎ IsIn x l
in_back x y [] i = i
in_back x y (z ∷ zs) i = go (is_before z y) i (in_back x y zs)
  where
    go : (b : Bool) → IsIn x (if b then z ∷ placed is_before y zs else y ∷ z ∷ zs) → (IsIn x (placed is_before y zs) → (y ≡ x) ⊎ IsIn x zs) → (y ≡ x) ⊎ IsIn x (z ∷ zs)
    go true i more = elim i [ inl e ↦ inr (inl e) | inr j ↦ elim (more j) [ inl e ↦ inl e | inr k ↦ inr (inr k) ] ]
    go false i more = i

pub in_order_in : (x : DueAction) (ds : List DueAction) → IsIn x (in_order is_before ds) → IsIn x ds
in_order_in x [] i = i
in_order_in x (d ∷ ds) i = elim (in_back x d (in_order is_before ds) i) [ inl e ↦ inl e | inr j ↦ inr (in_order_in x ds j) ]

-- the first by moment is the least
abbrev pub first_of : List DueAction → Option DueAction
first_of [] = None
first_of (d ∷ ds) = Some d

pub first_is_least : (ds due : List DueAction) → IsInOrder is_listed_before ds → due ≡ in_order is_before ds → first_of due ≡ least ds
first_is_least ds due order is = ap first_of is ∙ go (in_order is_before ds) refl (due_in_order ds order)
  where
    not_before : (x : DueAction) (xs : List DueAction) → AllByRecursion (λ y. is_before x y ≡ true) xs → AllByRecursion (λ d. is_before d x ≡ false) (x ∷ xs)
    not_before x xs h = (not_before_itself x, all_imp (λ y. is_before x y ≡ true) (λ d. is_before d x ≡ false) (λ d e. before_order.one_way x d e) xs h)

    none : (ds : List DueAction) → in_order is_before ds ≡ [] → None ≡ least ds
    none [] e = refl
    none (d ∷ ds) e = let un : suc (length (in_order is_before ds)) ≡ 0 = sym (length-placed is_before d (in_order is_before ds)) ∙ ap length e in absurd (omega arith)

    go : (es : List DueAction) → in_order is_before ds ≡ es → IsInOrder is_before es → first_of es ≡ least ds
    go [] e h = none ds e
    go (x ∷ xs) e h =
        sym (least_is x ds (in_order_in x ds (subst (IsIn x) (sym e) (inl refl)))
        (in_order_back is_before (λ d. is_before d x ≡ false) ds (subst (λ (fs : List DueAction). AllByRecursion (λ d. is_before d x ≡ false) fs) (sym e) (not_before x xs h.0))))

pub length-cleared : (rank number : ℕ) (ds : List DueAction) → length (cleared rank number ds) ≤ length ds
length-cleared rank number [] = omega arith
length-cleared rank number (d ∷ ds) = go (is_timer rank number d) (length-cleared rank number ds)
  where
    go : (t : Bool) → length (cleared rank number ds) ≤ length ds → length (if t then ds else d ∷ cleared rank number ds) ≤ suc (length ds)
    go true e = omega arith
    go false e = omega (arith, e)

-- One timer more wants at most one place more.
pub one_more : (moment rank number : ℕ) (ds : List DueAction) (n : ℕ) → length ds < n → length (with_timer moment rank number ds) ≤ n
one_more moment rank number ds n e = omega (arith, e, length-with_timer moment rank number ds, length-cleared rank number ds)
