-- The text of a moment is UTF-8.
use Rattle.std.proofs.Common.{◌≡◌, ℕ, pos, zero, suc, ◌+◌, ◌/◌, ◌%◌, ◌<◌, ◌≤◌, List, [], ◌∷◌, ◌++◌, Option, Some, None, IsUtf8, IsAscii, Bool, true, ◌&&◌, nat_lt, ltb-true, refl, arith}
use Rattle.std.proofs.lemmas.Bool.{and_parts}
use Rattle.std.specs.Prelude.{codes}
use Rattle.std.proofs.lemmas.Str.{IsUtf8-append, IsUtf8-nil, IsUtf8-from_ascii}
use Rattle.jiff_core.proofs.CalendarLemmas.{days_in_month_bounds}
use Rattle.jiff_fmt.specs.Text.{pad2}
use Rattle.engine_text.specs.Moment.{IsMoment, moment_text}
use Rattle.engine_text.specs.Moment.{year_of, month_of, day_text, clock_text, date_time_text}
use Rattle.engine_text.proofs.CalendarLemmas.{year_placed, month_placed}

one_ascii : (x : ℕ) → x < 128 → IsAscii (x ∷ [])
one_ascii x h zero = h
one_ascii x h (suc i) = omega arith

and_then : (x : ℕ) (xs : List ℕ) → x < 128 → IsUtf8 xs → IsUtf8 (x ∷ xs)
and_then x xs h u = IsUtf8-append (x ∷ []) xs (IsUtf8-from_ascii (x ∷ []) (one_ascii x h)) u

pad2_then : (n : ℕ) (xs : List ℕ) → n < 100 → IsUtf8 xs → IsUtf8 (pad2 n ++ xs)
pad2_then n xs h u = and_then _ _ (omega arith) (and_then _ _ (omega arith) u)

day_then : (days : ℕ) (xs : List ℕ) → days ≤ 104_166 → IsUtf8 xs → IsUtf8 (day_text days ++ xs)
unfolding day_text
day_then days xs h u =
    let year = year_of days in
    let y = year_placed days h in
    let month = month_of year.0 year.1 in
    let m = month_placed year.0 year.1 y.1 in
    pad2_then (year.0 / 100) _ (omega (arith, y.3)) (pad2_then (year.0 % 100) _ (omega arith) (and_then 45 _ (omega arith)
    (pad2_then month.0 _ (omega (arith, m.3)) (and_then 45 _ (omega arith)
    (pad2_then (month.1 + 1) xs (omega (arith, m.1, days_in_month_bounds (pos year.0) month.0)) u)))))

clock_then : (ms : ℕ) (xs : List ℕ) → ms < 86_400_000 → IsUtf8 xs → IsUtf8 (clock_text ms ++ xs)
unfolding clock_text
clock_then ms xs h u =
    pad2_then (ms / 3_600_000) _ (omega arith) (and_then 58 _ (omega arith)
    (pad2_then (ms / 60_000 % 60) _ (omega arith) (and_then 58 _ (omega arith)
    (pad2_then (ms / 1_000 % 60) _ (omega arith) (and_then 46 _ (omega arith)
    (and_then (48 + ms / 100 % 10) _ (omega arith) (pad2_then (ms % 100) _ (omega arith)
    (and_then 48 _ (omega arith) (and_then 48 _ (omega arith) (and_then 48 _ (omega arith)
    (and_then 48 _ (omega arith) (and_then 48 _ (omega arith) (and_then 48 xs (omega arith) u)))))))))))))

pub IsUtf8-date_time_text : (m : ℕ) → m ≤ 9_000_000_000_000 → IsUtf8 (date_time_text m)
unfolding date_time_text day_text clock_text
IsUtf8-date_time_text m h =
    day_then (m / 86_400_000) _ (omega arith) (and_then 84 _ (omega arith)
    (clock_then (m % 86_400_000) _ (omega arith) (and_then 90 _ (omega arith) IsUtf8-nil)))

all_low : List ℕ → Bool
all_low [] = true
all_low (x ∷ xs) = nat_lt x 128 && all_low xs

by_test : (xs : List ℕ) → all_low xs ≡ true → IsUtf8 xs
unfolding all_low
by_test [] e = IsUtf8-nil
by_test (x ∷ xs) e = let p = and_parts _ _ e in and_then x xs (ltb-true _ _ p.0) (by_test xs p.1)

pub IsUtf8-moment_text : (moment : Option ℕ) → IsMoment moment → IsUtf8 (moment_text moment)
unfolding all_low moment_text
IsUtf8-moment_text None h = by_test (codes "0001-01-01T00:00:00Z") refl
IsUtf8-moment_text (Some m) h = IsUtf8-date_time_text m h
