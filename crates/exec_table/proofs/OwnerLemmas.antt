-- The numbers of execs in order of their containers: those of one container, one put in, one taken out.
use Rattle.std.proofs.Common.{◌≡◌, ℕ, suc, zero, ◌+◌, ◌-◌, ◌<◌, ◌≤◌, Bool, true, false, if◌then◌else◌, List, [], ◌∷◌, ◌++◌, length, take, drop, map, filter, get_or, Some, refl, sym, ◌∙◌, subst, ap, eqb, arith}
use Rattle.std.specs.Prelude.{nat_lt, slice_get}
use Rattle.std.specs.List.{AllByRecursion, AllWithin, insert, remove}
use Rattle.std.specs.List.Sorted.{IsNonDecreasingBy, IsStrictlySortedBy}
use Rattle.std.specs.Ordering.{nat_cmp}
use Rattle.std.specs.Cmp.{IsStrictWeakOrder}
use Rattle.std.specs.declared.cmp.Ordering.TheVariants.{Less}
use Rattle.std.proofs.lemmas.Bool.Decides.{nat_tests}
use Rattle.std.proofs.lemmas.List.{get_or_read, length-map}
use Rattle.engine_text.specs.declared.exec.Exec.{Exec}
use Rattle.engine_text.specs.Lists.{remove_first, update_first}
use Rattle.container_table.specs.Lists.{placed}
use Rattle.container_table.specs.Order.{are_apart, AreApart}
use Rattle.container_table.specs.Search.{HoldsOf, Parts}
use Rattle.container_table.proofs.PlacedLemmas.{AreAlone, all_imp, all_in_order, alone_in_order, in_order_append, in_order_changed, in_order_remove, length-in_order, ordered}
use Rattle.container_table.proofs.SearchLemmas.{Rises, rises_far, rises_in_order, rises_made, insert_at, remove_at}
use Rattle.container_table.proofs.KeptLemmas.{map_kept}
use Rattle.exec_table.specs.Execs.{exec_numbered, execs_of, is_exec_of}
use Rattle.exec_table.specs.ExecsInside.{by_row, execs_in, is_ahead, is_owned_before, owned_as, owned_in, sorted_by_owner}
use Rattle.exec_table.specs.declared.row.Owned.{Owned}
use Rattle.exec_table.specs.declared.row.Row.{Row}
use Rattle.exec_table.proofs.OrderLemmas.{all_numbered, numbers_alone}
use Rattle.std.proofs.lemmas.Option.{same_Some, slice_get_within}
use Rattle.exec_table.proofs.GoneLemmas.{HasGone, first_gone, execs_less}
use Rattle.exec_table.proofs.OwnLemmas.{passing_in, execs_passing}

-- ---- the order

pub owner_order : IsStrictWeakOrder is_owned_before
owner_order = record { one_way = λ x y e. grind (arith, nat_tests, e); chain = λ x y z e f. grind (arith, nat_tests, e, f) }

apart_numbers : (x y : Exec) → nat_cmp x.number y.number ≡ Less → are_apart is_owned_before x y ≡ true
apart_numbers x y e = grind (arith, nat_tests, e)

pub owners_apart : (rows : List Row) → IsStrictlySortedBy by_row rows → AreApart is_owned_before (execs_in rows)
unfolding IsStrictlySortedBy
owners_apart [] sorted = tt
owners_apart (r ∷ rs) sorted = (go rs sorted.0, owners_apart rs sorted.1)
  where
    go : (l : List Row) → AllByRecursion (λ s. by_row r s ≡ Less) l → AllByRecursion (λ y. are_apart is_owned_before r.exec y ≡ true) (execs_in l)
    go [] h = tt
    go (s ∷ ss) h = (apart_numbers r.exec s.exec h.0, go ss h.1)

no_less : (x y : Exec) → is_owned_before x y ≡ true → x.container ≤ y.container
no_less x y e = grind (arith, nat_tests, e)

each_own : (l : List Exec) → AllByRecursion (λ x. (owned_as x).container ≡ x.container) l
each_own [] = tt
each_own (x ∷ xs) = (refl, each_own xs)

pub owned_rise : (rows : List Row) (owned : List Owned) → IsStrictlySortedBy by_row rows → owned ≡ owned_in (execs_in rows) → IsNonDecreasingBy (λ (o : Owned). o.container) owned
owned_rise rows owned sorted is =
    subst (λ (os : List Owned). IsNonDecreasingBy (λ (o : Owned). o.container) os) (sym is)
    (rises_far (λ (o : Owned). o.container) (owned_in (execs_in rows))
    (rises_made owned_as (λ (o : Owned). o.container) (λ (x : Exec). x.container) is_owned_before (sorted_by_owner (execs_in rows))
    (ordered is_owned_before owner_order (execs_in rows) (owners_apart rows sorted)) (each_own (sorted_by_owner (execs_in rows))) no_less))

owners_rise : (rows : List Row) → IsStrictlySortedBy by_row rows → Rises (λ (x : Exec). x.container) (sorted_by_owner (execs_in rows))
owners_rise rows sorted = rises_in_order (λ (x : Exec). x.container) is_owned_before (sorted_by_owner (execs_in rows)) (ordered is_owned_before owner_order (execs_in rows) (owners_apart rows sorted)) no_less

-- ---- a container's execs, in the order of numbers

other_owner : (c : ℕ) (x y : Exec) → eqb x.container c ≡ true → nat_lt x.number y.number ≡ true → is_owned_before y x ≡ true → eqb y.container c ≡ false
other_owner c x y e f g = grind (arith, nat_tests, e, f, g)

of_placed : (c : ℕ) (x : Exec) (l : List Exec) → eqb x.container c ≡ true → AllByRecursion (λ y. nat_lt x.number y.number ≡ true) l → filter (is_exec_of c) (placed is_owned_before x l) ≡ x ∷ filter (is_exec_of c) l
of_placed c x [] e h = rw e refl
of_placed c x (y ∷ ys) e h = go (is_owned_before y x) refl (of_placed c x ys e h.1)
  where
    go : (b : Bool) → is_owned_before y x ≡ b → filter (is_exec_of c) (placed is_owned_before x ys) ≡ x ∷ filter (is_exec_of c) ys
        → filter (is_exec_of c) (if b then y ∷ placed is_owned_before x ys else x ∷ y ∷ ys) ≡ x ∷ filter (is_exec_of c) (y ∷ ys)
    go true f more = rw (other_owner c x y e h.0 f) more
    go false f more = rw e refl

past_placed : (p : Exec → Bool) (x : Exec) (l : List Exec) → p x ≡ false → filter p (placed is_owned_before x l) ≡ filter p l
past_placed p x [] e = rw e refl
past_placed p x (y ∷ ys) e = go (is_owned_before y x) (past_placed p x ys e)
  where
    pick : (c : Bool) (k l : List Exec) → k ≡ l → (if c then y ∷ k else k) ≡ (if c then y ∷ l else l)
    pick c k l f = ap (λ m. if c then y ∷ m else m) f

    go : (b : Bool) → filter p (placed is_owned_before x ys) ≡ filter p ys → filter p (if b then y ∷ placed is_owned_before x ys else x ∷ y ∷ ys) ≡ filter p (y ∷ ys)
    go true more = pick (p y) (filter p (placed is_owned_before x ys)) (filter p ys) more
    go false more = rw e refl

above : (a b : ℕ) → nat_cmp a b ≡ Less → nat_lt a b ≡ true
above a b e = grind (arith, nat_tests, e)

all_above : (r : Row) (l : List Row) → AllByRecursion (λ s. by_row r s ≡ Less) l → AllByRecursion (λ y. nat_lt r.exec.number y.number ≡ true) (execs_in l)
all_above r [] h = tt
all_above r (s ∷ ss) h = (above r.exec.number s.exec.number h.0, all_above r ss h.1)

pub of_owner : (c : ℕ) (rows : List Row) → IsStrictlySortedBy by_row rows → filter (is_exec_of c) (sorted_by_owner (execs_in rows)) ≡ execs_of c (execs_in rows)
unfolding IsStrictlySortedBy
of_owner c [] sorted = refl
of_owner c (r ∷ rs) sorted = go (eqb r.exec.container c) refl (of_owner c rs sorted.1)
  where
    go : (b : Bool) → eqb r.exec.container c ≡ b → filter (is_exec_of c) (sorted_by_owner (execs_in rs)) ≡ filter (is_exec_of c) (execs_in rs)
        → filter (is_exec_of c) (placed is_owned_before r.exec (sorted_by_owner (execs_in rs))) ≡ (if b then r.exec ∷ filter (is_exec_of c) (execs_in rs) else filter (is_exec_of c) (execs_in rs))
    go true e more =
        of_placed c r.exec (sorted_by_owner (execs_in rs)) e (all_in_order is_owned_before (λ y. nat_lt r.exec.number y.number ≡ true) (execs_in rs) (all_above r rs sorted.0))
        ∙ ap (λ l. r.exec ∷ l) more
    go false e more = past_placed (is_exec_of c) r.exec (sorted_by_owner (execs_in rs)) e ∙ more

each_of : (c : ℕ) (l : List Exec) → AllByRecursion (λ x. eqb (owned_as x).container c ≡ is_exec_of c x) l
each_of c [] = tt
each_of c (x ∷ xs) = (refl, each_of c xs)

pub owned_count : (c : ℕ) (rows : List Row) (owned : List Owned) → IsStrictlySortedBy by_row rows → owned ≡ owned_in (execs_in rows)
    → length (filter (λ (o : Owned). eqb o.container c) owned) ≡ length (filter (λ (r : Row). eqb r.exec.container c) rows)
owned_count c rows owned sorted is =
    ap (λ (os : List Owned). length (filter (λ (o : Owned). eqb o.container c) os)) is
    ∙ ap length (passing_in owned_as (λ (o : Owned). eqb o.container c) (is_exec_of c) (sorted_by_owner (execs_in rows)) (each_of c (sorted_by_owner (execs_in rows))))
    ∙ mapped (filter (is_exec_of c) (sorted_by_owner (execs_in rows)))
    ∙ ap length (of_owner c rows sorted ∙ execs_passing c rows)
    ∙ counted (filter (λ (r : Row). eqb r.exec.container c) rows)
  where
    mapped : (l : List Exec) → length (map owned_as l) ≡ length l
    mapped l = simp length-map refl

    counted : (l : List Row) → length (execs_in l) ≡ length l
    counted l = simp length-map refl

-- ---- what one look tells of those before or behind it

ahead_down : (with : Bool) (c a b : ℕ) → a ≤ b → is_ahead with c b ≡ true → is_ahead with c a ≡ true
ahead_down true c a b low e = grind (arith, nat_tests, low, e)
ahead_down false c a b low e = grind (arith, nat_tests, low, e)

behind_up : (with : Bool) (c a b : ℕ) → a ≤ b → is_ahead with c a ≡ false → is_ahead with c b ≡ false
behind_up true c a b low e = grind (arith, nat_tests, low, e)
behind_up false c a b low e = grind (arith, nat_tests, low, e)

same : (l : List Owned) (m : ℕ) (o d : Owned) → m < length l → o ≡ get_or l m o → get_or l m d ≡ o
same l m o d within at = sym (get_or_read l m o within at d)

pub ahead_until : (with : Bool) (c : ℕ) (l : List Owned) (m : ℕ) (o : Owned) → IsNonDecreasingBy (λ (o : Owned). o.container) l → m < length l → o ≡ get_or l m o → is_ahead with c o.container ≡ true
    → AllWithin (λ (o : Owned). is_ahead with c o.container ≡ true) l 0 (m + 1)
ahead_until with c l m o up within at e =
    λ k d low high. ahead_down with c (get_or l k d).container o.container (subst (λ (n : ℕ). (get_or l k d).container ≤ n) (ap (λ (p : Owned). p.container) (same l m o d within at)) (up k m d (omega arith) within)) e

pub behind_from : (with : Bool) (c : ℕ) (l : List Owned) (m : ℕ) (o : Owned) → IsNonDecreasingBy (λ (o : Owned). o.container) l → m < length l → o ≡ get_or l m o → is_ahead with c o.container ≡ false
    → AllWithin (λ (o : Owned). is_ahead with c o.container ≡ false) l m (length l)
behind_from with c l m o up within at e =
    λ k d low high. behind_up with c o.container (get_or l k d).container (subst (λ (n : ℕ). n ≤ (get_or l k d).container) (ap (λ (p : Owned). p.container) (same l m o d within at)) (up m k d low high)) e

-- ---- from one place to another

all_under : {X Y : Type 0} (f : X → Y) (P : Y → Type 0) (xs : List X) → AllByRecursion P (map f xs) → AllByRecursion (λ x. P (f x)) xs
all_under f P [] h = tt
all_under f P (x ∷ xs) h = (h.0, all_under f P xs h.1)

pub parts_under : {X Y : Type 0} (f : X → Y) (P Q : Y → Type 0) (xs : List X) (i : ℕ) → Parts P Q (map f xs) i → Parts (λ x. P (f x)) (λ x. Q (f x)) xs i
parts_under f P Q xs zero h = all_under f Q xs h
parts_under f P Q [] (suc i) h = h
parts_under f P Q (x ∷ xs) (suc i) h = (h.0, parts_under f P Q xs i h.1)

take_none : (n : ℕ) (l : List Exec) → l ≡ [] → take n l ≡ []
take_none zero l e = refl
take_none (suc n) [] e = refl
take_none (suc n) (x ∷ xs) e = absurd (cc)

drop_none : (n : ℕ) (l : List Exec) → l ≡ [] → drop n l ≡ []
drop_none zero l e = e
drop_none (suc n) [] e = refl
drop_none (suc n) (x ∷ xs) e = absurd (cc)

from_zero : (j : ℕ) → j - 0 ≡ j
from_zero j = omega arith

one_each : (i j : ℕ) → suc j - suc i ≡ j - i
one_each i j = omega arith

ahead_both : (c k : ℕ) → is_ahead false c k ≡ true → is_ahead true c k ≡ false → ⊥
ahead_both c k e f = grind (arith, nat_tests, e, f)

ahead_other : (c k : ℕ) → is_ahead false c k ≡ true → eqb k c ≡ false
ahead_other c k e = grind (arith, nat_tests, e)

ahead_own : (c k : ℕ) → is_ahead false c k ≡ false → is_ahead true c k ≡ true → eqb k c ≡ true
ahead_own c k e f = grind (arith, nat_tests, e, f)

behind_other : (c k : ℕ) → is_ahead true c k ≡ false → eqb k c ≡ false
behind_other c k e = grind (arith, nat_tests, e)

none_of : (c : ℕ) (l : List Exec) → AllByRecursion (λ x. is_ahead true c x.container ≡ false) l → filter (is_exec_of c) l ≡ []
none_of c [] h = refl
none_of c (x ∷ xs) h = rw (behind_other c x.container h.0) (none_of c xs h.1)

-- what stands between the two edges of a container is its own
pub between : (c : ℕ) (l : List Exec) (i j : ℕ) → Parts (λ x. is_ahead false c x.container ≡ true) (λ x. is_ahead false c x.container ≡ false) l i
    → Parts (λ x. is_ahead true c x.container ≡ true) (λ x. is_ahead true c x.container ≡ false) l j → take (j - i) (drop i l) ≡ filter (is_exec_of c) l
between c [] i j from until = take_none (j - i) (drop i []) (drop_none i [] refl)
between c (x ∷ xs) zero zero from until = ap (λ n. take n (x ∷ xs)) (from_zero 0) ∙ sym (none_of c (x ∷ xs) until)
between c (x ∷ xs) zero (suc j) from until =
    ap (λ n. take n (x ∷ xs)) (from_zero (suc j))
    ∙ rw (ahead_own c x.container from.0 until.0) (ap (λ n. x ∷ take n xs) (sym (from_zero j)) ∙ ap (λ (l : List Exec). x ∷ l) (between c xs zero j from.1 until.1))
between c (x ∷ xs) (suc i) zero from until = absurd (ahead_both c x.container from.0 until.0)
between c (x ∷ xs) (suc i) (suc j) from until =
    rw (ahead_other c x.container from.0) (ap (λ n. take n (drop i xs)) (one_each i j) ∙ between c xs i j from.1 until.1)

-- so it is for the index
pub between_owned : (c : ℕ) (rows : List Row) (owned : List Owned) (i j : ℕ) → IsStrictlySortedBy by_row rows → owned ≡ owned_in (execs_in rows)
    → Parts (λ (o : Owned). is_ahead false c o.container ≡ true) (λ (o : Owned). is_ahead false c o.container ≡ false) owned i
    → Parts (λ (o : Owned). is_ahead true c o.container ≡ true) (λ (o : Owned). is_ahead true c o.container ≡ false) owned j
    → take (j - i) (drop i (sorted_by_owner (execs_in rows))) ≡ execs_of c (execs_in rows)
between_owned c rows owned i j sorted is from until =
    between c (sorted_by_owner (execs_in rows)) i j
    (parts_under owned_as (λ (o : Owned). is_ahead false c o.container ≡ true) (λ (o : Owned). is_ahead false c o.container ≡ false) (sorted_by_owner (execs_in rows)) i
    (subst (λ (os : List Owned). Parts (λ (o : Owned). is_ahead false c o.container ≡ true) (λ (o : Owned). is_ahead false c o.container ≡ false) os i) is from))
    (parts_under owned_as (λ (o : Owned). is_ahead true c o.container ≡ true) (λ (o : Owned). is_ahead true c o.container ≡ false) (sorted_by_owner (execs_in rows)) j
    (subst (λ (os : List Owned). Parts (λ (o : Owned). is_ahead true c o.container ≡ true) (λ (o : Owned). is_ahead true c o.container ≡ false) os j) is until))
    ∙ of_owner c rows sorted

-- as many as are between them
none_owned : (c : ℕ) (l : List Owned) → AllByRecursion (λ o. is_ahead true c o.container ≡ false) l → filter (λ (o : Owned). eqb o.container c) l ≡ []
none_owned c [] h = refl
none_owned c (o ∷ os) h = rw (behind_other c o.container h.0) (none_owned c os h.1)

pub count_between : (c : ℕ) (l : List Owned) (i j : ℕ) → Parts (λ (o : Owned). is_ahead false c o.container ≡ true) (λ (o : Owned). is_ahead false c o.container ≡ false) l i
    → Parts (λ (o : Owned). is_ahead true c o.container ≡ true) (λ (o : Owned). is_ahead true c o.container ≡ false) l j → j - i ≡ length (filter (λ (o : Owned). eqb o.container c) l)
count_between c [] i zero from until = omega arith
count_between c [] i (suc j) from until = absurd until
count_between c (o ∷ os) zero zero from until = sym (ap length (none_owned c (o ∷ os) until))
count_between c (o ∷ os) zero (suc j) from until =
    rw (ahead_own c o.container from.0 until.0) (let more : j - 0 ≡ length (filter (λ (o : Owned). eqb o.container c) os) = count_between c os zero j from.1 until.1 in omega (arith, more))
count_between c (o ∷ os) (suc i) zero from until = absurd (ahead_both c o.container from.0 until.0)
count_between c (o ∷ os) (suc i) (suc j) from until =
    rw (ahead_other c o.container from.0) (let more : j - i ≡ length (filter (λ (o : Owned). eqb o.container c) os) = count_between c os i j from.1 until.1 in omega (arith, more))

pub one_on : {A : Type 0} (l : List A) (i j : ℕ) (x : A) → i < j → slice_get l i ≡ Some x → take (j - i) (drop i l) ≡ x ∷ take (j - (i + 1)) (drop (i + 1) l)
one_on [] i j x low at = absurd (cc)
one_on (y ∷ ys) zero zero x low at = absurd (omega arith)
one_on (y ∷ ys) zero (suc j) x low at =
    let is : y ≡ x = cc in
    ap (λ n. take n (y ∷ ys)) (from_zero (suc j)) ∙ ap (λ z. z ∷ take j ys) is ∙ ap (λ n. x ∷ take n ys) (same j)
  where
    same : (j : ℕ) → j ≡ suc j - (0 + 1)
    same j = omega arith
one_on (y ∷ ys) (suc i) zero x low at = absurd (omega arith)
one_on (y ∷ ys) (suc i) (suc j) x low at =
    ap (λ n. take n (drop i ys)) (one_each i j) ∙ one_on ys i j x (omega arith) at ∙ ap (λ n. x ∷ take n (drop (i + 1) ys)) (sym (more i j))
    ∙ ap (λ n. x ∷ take (suc j - (suc i + 1)) (drop n (y ∷ ys))) (next i)
  where
    next : (i : ℕ) → suc (i + 1) ≡ suc i + 1
    next i = omega arith

    more : (i j : ℕ) → suc j - (suc i + 1) ≡ j - (i + 1)
    more i j = omega arith

-- ---- one put in

before_one : (x y : Exec) → is_ahead true x.container y.container ≡ true → y.number < x.number → is_owned_before y x ≡ true
before_one x y e low = grind (arith, nat_tests, e, low)

behind_one : (x y : Exec) → is_ahead true x.container y.container ≡ false → is_owned_before y x ≡ false
behind_one x y e = grind (arith, nat_tests, e)

apart_below : (x y : Exec) → y.number < x.number → are_apart is_owned_before y x ≡ true
apart_below x y low = grind (arith, nat_tests, low)

ahead_before : (x : Exec) (l : List Exec) (i : ℕ) → AllByRecursion (λ y. y.number < x.number) l
    → Parts (λ y. is_ahead true x.container y.container ≡ true) (λ y. is_ahead true x.container y.container ≡ false) l i
    → Parts (λ y. is_owned_before y x ≡ true) (λ y. is_owned_before y x ≡ false) l i
ahead_before x l zero low h = all_imp (λ y. is_ahead true x.container y.container ≡ false) (λ y. is_owned_before y x ≡ false) (λ y e. behind_one x y e) l h
ahead_before x [] (suc i) low h = h
ahead_before x (y ∷ ys) (suc i) low h = (before_one x y h.0 low.0, ahead_before x ys i low.1 h.1)

pub filed_owned : (x : Exec) (xs : List Exec) (owned more : List Owned) (i : ℕ) → owned ≡ owned_in xs → AllByRecursion (λ y. y.number < x.number) xs
    → Parts (λ (o : Owned). is_ahead true x.container o.container ≡ true) (λ (o : Owned). is_ahead true x.container o.container ≡ false) owned i
    → more ≡ insert owned i (owned_as x) → more ≡ owned_in (xs ++ x ∷ [])
filed_owned x xs owned more i is low at put =
    put ∙ ap (λ (os : List Owned). insert os i (owned_as x)) is
    ∙ insert_at owned_as is_owned_before x (sorted_by_owner xs) i
    (ahead_before x (sorted_by_owner xs) i (all_in_order is_owned_before (λ y. y.number < x.number) xs low)
    (parts_under owned_as (λ (o : Owned). is_ahead true x.container o.container ≡ true) (λ (o : Owned). is_ahead true x.container o.container ≡ false) (sorted_by_owner xs) i
    (subst (λ (os : List Owned). Parts (λ (o : Owned). is_ahead true x.container o.container ≡ true) (λ (o : Owned). is_ahead true x.container o.container ≡ false) os i) is at)))
    ∙ ap (map owned_as) (sym (in_order_append is_owned_before owner_order xs x (all_imp (λ y. y.number < x.number) (λ y. are_apart is_owned_before y x ≡ true) (λ y e. apart_below x y e) xs low)))

-- ---- one taken out

own_number : (n : ℕ) → eqb n n ≡ true
own_number n = grind (arith, nat_tests)

stands : (l : List Exec) (i : ℕ) (x : Exec) → slice_get l i ≡ Some x → HoldsOf (λ y. eqb y.number x.number ≡ true) l i
stands [] i x at = absurd (cc)
stands (y ∷ ys) zero x at = let is : x ≡ y = cc in subst (λ (z : Exec). eqb y.number z.number ≡ true) (sym is) (own_number y.number)
stands (y ∷ ys) (suc i) x at = stands ys i x at

pub owned_less : (rows : List Row) (owned : List Owned) (i : ℕ) (x : Exec) → IsStrictlySortedBy by_row rows → owned ≡ owned_in (execs_in rows)
    → slice_get (sorted_by_owner (execs_in rows)) i ≡ Some x → remove owned i ≡ owned_in (remove_first (λ (y : Exec). eqb y.number x.number) (execs_in rows))
owned_less rows owned i x sorted is at =
    ap (λ (os : List Owned). remove os i) is
    ∙ remove_at owned_as (λ (y : Exec). eqb y.number x.number) (sorted_by_owner (execs_in rows)) i
    (alone_in_order is_owned_before (λ (y : Exec). eqb y.number x.number) (execs_in rows) (numbers_alone x.number rows sorted))
    (stands (sorted_by_owner (execs_in rows)) i x at)
    ∙ ap (map owned_as) (sym (in_order_remove is_owned_before owner_order (λ (y : Exec). eqb y.number x.number) (execs_in rows) (owners_apart rows sorted) (numbers_alone x.number rows sorted)))

-- what stands at a place of the index
pub record IsAt (xs : List Exec) (o : Owned) (i : ℕ) : Type 0 where
  pub exec : Exec
  pub at : slice_get (sorted_by_owner xs) i ≡ Some exec
  pub number : o.number ≡ exec.number
  pub held : exec_numbered o.number xs ≡ Some exec

pub found_in_order : (P : Exec → Type 0) (l : List Exec) (o : Owned) (i : ℕ) → AllByRecursion P l → i < length (map owned_as l) → o ≡ get_or (map owned_as l) i o
    → (x : Exec) × (slice_get l i ≡ Some x) × (o ≡ owned_as x) × P x
found_in_order P [] o i h low read = absurd (omega arith)
found_in_order P (x ∷ xs) o zero h low read = (x, refl, read, h.0)
found_in_order P (x ∷ xs) o (suc i) h low read = found_in_order P xs o i h.1 (omega arith) read

pub stands_at : (rows : List Row) (owned : List Owned) (o : Owned) (i : ℕ) → IsStrictlySortedBy by_row rows → owned ≡ owned_in (execs_in rows) → i < length owned → o ≡ get_or owned i o
    → IsAt (execs_in rows) o i
stands_at rows owned o i sorted is low read =
    let there = found_in_order (λ x. exec_numbered x.number (execs_in rows) ≡ Some x) (sorted_by_owner (execs_in rows)) o i
    (all_in_order is_owned_before (λ x. exec_numbered x.number (execs_in rows) ≡ Some x) (execs_in rows) (all_numbered rows sorted))
    (subst (λ (os : List Owned). i < length os) is low) (read ∙ ap (λ (os : List Owned). get_or os i o) is) in
    record {
      exec = there.0;
      at = there.1;
      number = ap (λ (p : Owned). p.number) there.2;
      held = ap (λ (p : Owned). exec_numbered p.number (execs_in rows)) there.2 ∙ there.3;
    }

-- the first of a container's
pub record IsFirstOf (c : ℕ) (l : List Exec) (i : ℕ) : Type 0 where
  pub exec : Exec
  pub at : slice_get l i ≡ Some exec
  pub rest : List Exec
  pub is : filter (is_exec_of c) l ≡ exec ∷ rest

ahead_beyond : (c k m : ℕ) → is_ahead false c k ≡ false → eqb k c ≡ false → k ≤ m → is_ahead true c m ≡ false
ahead_beyond c k m e f low = grind (arith, nat_tests, e, f, low)

pub first_of : (c : ℕ) (l : List Exec) (i : ℕ) → Rises (λ (x : Exec). x.container) l → Parts (λ x. is_ahead false c x.container ≡ true) (λ x. is_ahead false c x.container ≡ false) l i
    → 0 < length (filter (is_exec_of c) l) → IsFirstOf c l i
first_of c [] i up from some = absurd (omega arith)
first_of c (x ∷ xs) zero up from some = go (eqb x.container c) refl
  where
    go : (b : Bool) → eqb x.container c ≡ b → IsFirstOf c (x ∷ xs) zero
    go true e = record { exec = x; at = refl; rest = filter (is_exec_of c) xs; is = rw e refl }
    go false e =
        let none : filter (is_exec_of c) xs ≡ [] = none_of c xs (all_imp (λ (y : Exec). x.container ≤ y.container) (λ y. is_ahead true c y.container ≡ false) (λ y low. ahead_beyond c x.container y.container from.0 e low) xs up.0) in
        let gone : filter (is_exec_of c) (x ∷ xs) ≡ [] = rw e none in
        let k = ap length gone in absurd (omega (arith, some, k))
first_of c (x ∷ xs) (suc i) up from some =
    let e : eqb x.container c ≡ false = ahead_other c x.container from.0 in
    let same : filter (is_exec_of c) (x ∷ xs) ≡ filter (is_exec_of c) xs = rw e refl in
    let more = first_of c xs i up.1 from.1 (subst (λ (l : List Exec). 0 < length l) same some) in
    record { exec = more.exec; at = more.at; rest = more.rest; is = same ∙ more.is }

pub first_owned : (c : ℕ) (rows : List Row) (owned : List Owned) (i : ℕ) → IsStrictlySortedBy by_row rows → owned ≡ owned_in (execs_in rows)
    → Parts (λ (o : Owned). is_ahead false c o.container ≡ true) (λ (o : Owned). is_ahead false c o.container ≡ false) owned i
    → 0 < length (filter (λ (r : Row). eqb r.exec.container c) rows) → IsFirstOf c (sorted_by_owner (execs_in rows)) i
first_owned c rows owned i sorted is from some =
    first_of c (sorted_by_owner (execs_in rows)) i (owners_rise rows sorted)
    (parts_under owned_as (λ (o : Owned). is_ahead false c o.container ≡ true) (λ (o : Owned). is_ahead false c o.container ≡ false) (sorted_by_owner (execs_in rows)) i
    (subst (λ (os : List Owned). Parts (λ (o : Owned). is_ahead false c o.container ≡ true) (λ (o : Owned). is_ahead false c o.container ≡ false) os i) is from))
    (subst (λ (n : ℕ). 0 < n) (sym (ap length (of_owner c rows sorted ∙ execs_passing c rows) ∙ counted (filter (λ (r : Row). eqb r.exec.container c) rows))) some)
  where
    counted : (l : List Row) → length (execs_in l) ≡ length l
    counted l = simp length-map refl

-- ---- kept where neither numbers nor containers change

pub owned_kept : (n : ℕ) (f : Exec → Exec) (xs ys : List Exec) (owned : List Owned) → ((x : Exec) → (f x).container ≡ x.container) → ((x : Exec) → (f x).number ≡ x.number)
    → ((x : Exec) → owned_as (f x) ≡ owned_as x) → AreAlone (λ (x : Exec). eqb x.number n) xs → ys ≡ update_first (λ (x : Exec). eqb x.number n) f xs → owned ≡ owned_in xs → owned ≡ owned_in ys
owned_kept n f xs ys owned container number both alone e is =
    is ∙ sym (map_kept owned_as (λ (x : Exec). eqb x.number n) f both (sorted_by_owner xs))
    ∙ ap (map owned_as) (sym (in_order_changed is_owned_before owner_order (λ (x : Exec). eqb x.number n) f left right (λ x. ap (λ m. eqb m n) (number x)) xs alone))
    ∙ ap owned_in (sym e)
  where
    left : (y z : Exec) → is_owned_before (f y) z ≡ is_owned_before y z
    left y z = rw (container y, number y) refl

    right : (y z : Exec) → is_owned_before y (f z) ≡ is_owned_before y z
    right y z = rw (container z, number z) refl

pub first_low : (c : ℕ) (rows : List Row) (owned : List Owned) (i : ℕ) → IsStrictlySortedBy by_row rows → owned ≡ owned_in (execs_in rows)
    → Parts (λ (o : Owned). is_ahead false c o.container ≡ true) (λ (o : Owned). is_ahead false c o.container ≡ false) owned i
    → 0 < length (filter (λ (r : Row). eqb r.exec.container c) rows) → i < length owned
first_low c rows owned i sorted is from some =
    let first = first_owned c rows owned i sorted is from some in
    let within : i < length (sorted_by_owner (execs_in rows)) = slice_get_within (sorted_by_owner (execs_in rows)) i first.exec first.at in
    let same : length owned ≡ length (sorted_by_owner (execs_in rows)) = ap length is ∙ mapped (sorted_by_owner (execs_in rows)) in omega (arith, within, same)
  where
    mapped : (l : List Exec) → length (map owned_as l) ≡ length l
    mapped l = simp length-map refl

-- what is left where a container's first exec goes
pub record IsLeft (c : ℕ) (rows : List Row) (owned : List Owned) (o : Owned) (i : ℕ) : Type 0 where
  pub gone : HasGone c o.number rows
  pub index : remove owned i ≡ owned_in (execs_in (remove_first (λ (r : Row). eqb r.exec.number o.number) rows))

pub is_left : (c : ℕ) (rows : List Row) (owned : List Owned) (o : Owned) (i : ℕ) → IsStrictlySortedBy by_row rows → owned ≡ owned_in (execs_in rows)
    → Parts (λ (o : Owned). is_ahead false c o.container ≡ true) (λ (o : Owned). is_ahead false c o.container ≡ false) owned i
    → 0 < length (filter (λ (r : Row). eqb r.exec.container c) rows) → o ≡ get_or owned i o → IsLeft c rows owned o i
is_left c rows owned o i sorted is from some read =
    let first = first_owned c rows owned i sorted is from some in
    let here = stands_at rows owned o i sorted is (first_low c rows owned i sorted is from some) read in
    let one : here.exec ≡ first.exec = same_Some here.exec first.exec (sym here.at ∙ first.at) in
    let number : first.exec.number ≡ o.number = sym (here.number ∙ ap (λ (x : Exec). x.number) one) in
    record {
      gone = first_gone c o.number rows first.exec first.rest sorted (sym (of_owner c rows sorted) ∙ first.is) number;
      index = owned_less rows owned i first.exec sorted is first.at
          ∙ ap (λ n. owned_in (remove_first (λ (y : Exec). eqb y.number n) (execs_in rows))) number
          ∙ ap owned_in (sym (execs_less o.number rows));
    }

-- the index has as many numbers as there are execs
pub owned_length : (xs : List Exec) (owned : List Owned) → owned ≡ owned_in xs → length owned ≡ length xs
owned_length xs owned is =
    let e : length (owned_in xs) ≡ length (sorted_by_owner xs) = simp length-map refl in
    ap length is ∙ e ∙ length-in_order is_owned_before xs
