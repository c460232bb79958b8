-- The stream of a log, and the place of its tail.
use Rattle.std.specs.Option.{option_map_or}
use Rattle.std.proofs.Common.{◌≡◌, ℕ, suc, ◌+◌, ◌-◌, ◌<◌, ◌≤◌, Bool, true, false, List, [], ◌∷◌, ◌++◌, Option, Some, cond, refl, ap, sym, ◌∙◌, length, filter, take, drop, arith, append_assoc, length-append, length-take-le, take-append-drop, get_or, if◌then◌else◌, le-ltb, lt-ltb}
use Rattle.std.proofs.lemmas.List.{at_drop_all, at_drop_more}
use Rattle.std.specs.List.{range_with_len, slice_get}
use Rattle.std.proofs.Math.Seq.{get_or-append_seam}
use Rattle.engine_text.specs.declared.log.LogRecord.{LogRecord}
use Rattle.machine_model.specs.Calls.Logs.{from_end, places}

-- the places of those that pass, the first of these standing at k
abbrev pub places_at : (LogRecord → Bool) → ℕ → List LogRecord → List ℕ
places_at p k [] = []
places_at p k (x ∷ xs) = if p x then k ∷ places_at p (k + 1) xs else places_at p (k + 1) xs

-- the item behind these
get_behind : (front : List LogRecord) (x : LogRecord) (xs : List LogRecord) → slice_get (front ++ x ∷ xs) (length front) ≡ Some x
get_behind [] x xs = refl
get_behind (y ∷ front) x xs = get_behind front x xs

at_by : (p : LogRecord → Bool) (o : Option LogRecord) (x : LogRecord) (k : ℕ) (l m : List ℕ) → o ≡ Some x → l ≡ m
    → (if (option_map_or p o false) then k ∷ l else l) ≡ (if p x then k ∷ m else m)
at_by p o x k l m e same = ap (λ w. if (option_map_or p w false) then k ∷ l else l) e ∙ ap (λ n. if p x then k ∷ n else n) same

from_front : (p : LogRecord → Bool) (front xs : List LogRecord) (k : ℕ) → k ≡ length front
    → filter (λ i. (option_map_or p (slice_get (front ++ xs) i) false)) (range_with_len k (length xs)) ≡ places_at p k xs
from_front p front [] k at = refl
from_front p front (x ∷ xs) k at =
    let joined : front ++ x ∷ xs ≡ (front ++ x ∷ []) ++ xs = sym (append_assoc front (x ∷ []) xs) in
    let long : k + 1 ≡ length (front ++ x ∷ []) = omega (arith, length-append front (x ∷ []), at) in
    at_by p (slice_get (front ++ x ∷ xs) k) x k
    (filter (λ i. (option_map_or p (slice_get (front ++ x ∷ xs) i) false)) (range_with_len (k + 1) (length xs)))
    (places_at p (k + 1) xs)
    (ap (slice_get (front ++ x ∷ xs)) at ∙ get_behind front x xs)
    (ap (λ (l : List LogRecord). filter (λ i. (option_map_or p (slice_get l i) false)) (range_with_len (k + 1) (length xs))) joined ∙ from_front p (front ++ x ∷ []) xs (k + 1) long)

all_places : (p : LogRecord → Bool) (xs : List LogRecord) → places p xs ≡ places_at p 0 xs
all_places p xs = from_front p [] xs 0 refl

append_by : (b : Bool) (k : ℕ) (l m n : List ℕ) → l ≡ m ++ n → (if b then k ∷ l else l) ≡ (if b then k ∷ m else m) ++ n
append_by true k l m n e = ap (λ w. k ∷ w) e
append_by false k l m n e = e

at_append : (p : LogRecord → Bool) (k : ℕ) (xs ys : List LogRecord) → places_at p k (xs ++ ys) ≡ places_at p k xs ++ places_at p (k + length xs) ys
at_append p k [] ys = let e : k ≡ k + 0 = omega arith in ap (λ n. places_at p n ys) e
at_append p k (x ∷ xs) ys =
    let e : k + 1 + length xs ≡ k + suc (length xs) = omega arith in
    append_by (p x) k (places_at p (k + 1) (xs ++ ys)) (places_at p (k + 1) xs) (places_at p (k + suc (length xs)) ys)
    (at_append p (k + 1) xs ys ∙ ap (λ n. places_at p (k + 1) xs ++ places_at p n ys) e)

-- as many as pass
at_count : (p : LogRecord → Bool) (k : ℕ) (xs : List LogRecord) → length (places_at p k xs) ≡ length (filter p xs)
at_count p k [] = refl
at_count p k (x ∷ xs) = at_more (p x) (at_count p (k + 1) xs)
  where
    at_more : (b : Bool) → length (places_at p (k + 1) xs) ≡ length (filter p xs) → length (if b then k ∷ places_at p (k + 1) xs else places_at p (k + 1) xs) ≡ length (if b then x ∷ filter p xs else filter p xs)
    at_more true e = omega (arith, e)
    at_more false e = e

by_index : (a b : List ℕ) (i n : ℕ) → length b + 1 ≡ n → from_end n (a ++ i ∷ b) ≡ i
by_index a b i n count =
    let long : length (a ++ i ∷ b) ≡ length a + suc (length b) = length-append a (i ∷ b) in
    let many : n ≤ length (a ++ i ∷ b) = omega (arith, long, count) in
    let at : length (a ++ i ∷ b) - n ≡ length a = omega (arith, long, count) in
    ap (λ t. if t then 0 else get_or (a ++ i ∷ b) (length (a ++ i ∷ b) - n) 0) (le-ltb (length (a ++ i ∷ b)) n many)
    ∙ (ap (λ m. get_or (a ++ i ∷ b) m 0) at ∙ get_or-append_seam a i b 0)

-- the n-th from the end passes, and n - 1 pass behind it
pub nth_from_end : (p : LogRecord → Bool) (front : List LogRecord) (x : LogRecord) (rest : List LogRecord) (n : ℕ) → p x ≡ true → length (filter p rest) + 1 ≡ n
    → from_end n (places p (front ++ x ∷ rest)) ≡ length front
nth_from_end p front x rest n passes count =
    let start : 0 + length front ≡ length front = omega arith in
    let b : List ℕ = places_at p (length front + 1) rest in
    let is : places p (front ++ x ∷ rest) ≡ places_at p 0 front ++ length front ∷ b =
    all_places p (front ++ x ∷ rest) ∙ (at_append p 0 front (x ∷ rest)
    ∙ (ap (λ k. places_at p 0 front ++ places_at p k (x ∷ rest)) start ∙ ap (λ t. places_at p 0 front ++ (if t then length front ∷ b else b)) passes)) in
    let behind : length b + 1 ≡ n = omega (arith, at_count p (length front + 1) rest, count) in
    ap (from_end n) is ∙ by_index (places_at p 0 front) b (length front) n behind

-- fewer pass
pub few_from_end : (p : LogRecord → Bool) (log : List LogRecord) (n : ℕ) → length (filter p log) < n → from_end n (places p log) ≡ 0
few_from_end p log n few =
    let fewer : length (places p log) < n = omega (arith, ap length (all_places p log), at_count p 0 log, few) in
    ap (λ t. if t then 0 else get_or (places p log) (length (places p log) - n) 0) (lt-ltb (length (places p log)) n fewer)

-- ---- the walk from the end

one_more : (b : Bool) (x : LogRecord) (l : List LogRecord) → length (if b then x ∷ l else l) ≡ cond b 1 0 + length l
one_more true x l = omega arith
one_more false x l = omega arith

-- how many pass from a place on
pub counted : (p : LogRecord → Bool) (log : List LogRecord) (i : ℕ) (x : LogRecord) → i < length log → x ≡ get_or log i x
    → length (filter p (drop i log)) ≡ cond (p x) 1 0 + length (filter p (drop (i + 1) log))
counted p log i x low is =
    at_drop_more (λ l. length (filter p l)) log i x low
    ∙ (ap (λ (y : LogRecord). length (filter p (y ∷ drop (i + 1) log))) (sym is) ∙ one_more (p x) x (filter p (drop (i + 1) log)))

last_passes : (b : Bool) (left : ℕ) → 0 < left → cond b 1 0 + 0 ≡ left → b ≡ true
last_passes true left some last = refl
last_passes false left some last = let never : ⊥ = omega (arith, some, last) in absurd never

found_from_end : (p : LogRecord → Bool) (log : List LogRecord) (i n : ℕ) (x : LogRecord) → i < length log → x ≡ get_or log i x
    → p x ≡ true → length (filter p (drop (i + 1) log)) + 1 ≡ n → from_end n (places p log) ≡ i
found_from_end p log i n x low is passes count =
    let long : length (take i log) ≡ i = length-take-le i log (omega (arith, low)) in
    let whole : take i log ++ x ∷ drop (i + 1) log ≡ log =
    ap (λ (y : LogRecord). take i log ++ y ∷ drop (i + 1) log) is ∙ (sym (at_drop_more (λ l. take i log ++ l) log i x low) ∙ take-append-drop i log) in
    ap (λ l. from_end n (places p l)) (sym whole) ∙ (nth_from_end p (take i log) x (drop (i + 1) log) n passes count ∙ long)

-- at the log's end none was passed
pub at_first : (p : LogRecord → Bool) (log : List LogRecord) (k n : ℕ) → length log ≤ k → length (filter p (drop k log)) + n ≡ n
at_first p log k n end = let none : length (filter p (drop k log)) ≡ 0 = at_drop_all (λ l. length (filter p l)) log k end in omega (arith, none)

-- one back: as many fewer are left as pass there
pub one_back : (p : LogRecord → Bool) (log : List LogRecord) (place n left less : ℕ) (x : LogRecord) (b : Bool) → 0 < place → place ≤ length log
    → x ≡ get_or log (place - 1) x → b ≡ p x → cond b 1 0 + less ≡ left → length (filter p (drop place log)) + left ≡ n
    → length (filter p (drop (place - 1) log)) + less ≡ n
one_back p log place n left less x b some within is passes now count =
    let on : place ≡ place - 1 + 1 = omega (arith, some) in
    let more : length (filter p (drop (place - 1) log)) ≡ cond b 1 0 + length (filter p (drop (place - 1 + 1) log)) =
    counted p log (place - 1) x (omega (arith, some, within)) is ∙ ap (λ w. cond w 1 0 + length (filter p (drop (place - 1 + 1) log))) (sym passes) in
    let same : length (filter p (drop (place - 1 + 1) log)) ≡ length (filter p (drop place log)) = ap (λ k. length (filter p (drop k log))) (sym on) in
    omega (arith, more, same, now, count)

-- one back, and none is left
pub found_back : (p : LogRecord → Bool) (log : List LogRecord) (place n left less : ℕ) (x : LogRecord) (b : Bool) → 0 < place → place ≤ length log
    → x ≡ get_or log (place - 1) x → b ≡ p x → cond b 1 0 + less ≡ left → less ≡ 0 → 0 < left → length (filter p (drop place log)) + left ≡ n
    → from_end n (places p log) ≡ place - 1
found_back p log place n left less x b some within is passes now last more count =
    let hit : b ≡ true = last_passes b left more (ap (λ k. cond b 1 0 + k) (sym last) ∙ now) in
    let one : left ≡ 1 = sym now ∙ (ap (λ k. cond b 1 0 + k) last ∙ ap (λ w. cond w 1 0 + 0) hit) in
    let on : place ≡ place - 1 + 1 = omega (arith, some) in
    let same : length (filter p (drop (place - 1 + 1) log)) ≡ length (filter p (drop place log)) = ap (λ k. length (filter p (drop k log))) (sym on) in
    found_from_end p log (place - 1) n x (omega (arith, some, within)) is (sym passes ∙ hit) (omega (arith, same, one, count))

-- none is left to look at
pub none_back : (p : LogRecord → Bool) (log : List LogRecord) (place n left : ℕ) → place ≤ 0 → 0 < left → length (filter p (drop place log)) + left ≡ n
    → from_end n (places p log) ≡ 0
none_back p log place n left low some count =
    let first : place ≡ 0 = omega (arith, low) in
    let all : length (filter p (drop place log)) ≡ length (filter p log) = ap (λ k. length (filter p (drop k log))) first in
    few_from_end p log n (omega (arith, all, some, count))
