-- The text of a moment as a function is the text that the calendar and the clock show.
use Rattle.std.proofs.Common.{◌≡◌, ℕ, zero, suc, ◌+◌, ◌-◌, ◌*◌, ◌/◌, ◌%◌, ◌<◌, ◌≤◌, pos, ◌*ℤ◌, List, [], ◌∷◌, ◌++◌, false, Some, refl, sym, ap₂, ◌∙◌, arith, Bool, true, cond, nat_lt, ltb-true, ltb-false}
use Rattle.std.specs.Prelude.{codes}
use Rattle.jiff_core.specs.Calendar.{days_in_year, days_in_month, days_of_months, day_count, days_from_civil}
use Rattle.jiff_core.specs.declared.civil.date.Date.{Date}
use Rattle.jiff_core.specs.declared.civil.time.Time.{Time}
use Rattle.jiff_core.specs.declared.civil.datetime.DateTime.{DateTime}
use Rattle.jiff_core.specs.Date.{epoch_day}
use Rattle.jiff_core.specs.Time.{time_nanos}
use Rattle.jiff_core.specs.DateTime.{civil_nanos}
use Rattle.jiff_core.proofs.SignedLemmas.{signed_arith}
use Rattle.jiff_core.proofs.CalendarLemmas.{day_count-next_year, day_count-epoch, day_count-day_of_year, days_from_civil-day_count, days_of_months_more, days_of_months_all, days_of_months-zero}
use Rattle.jiff_core.proofs.MarchLemmas.{day_count-early}
use Rattle.jiff_core.proofs.DateLemmas.{epoch_day_injective}
use Rattle.jiff_core.proofs.DateTimeLemmas.{civil_nanos-parts, civil_nanos_injective, time_nanos_injective}
use Rattle.jiff_fmt.specs.Text.{places, pad2, date_text, time_text}
use Rattle.engine_text.specs.Moment.{rfc3339, IsMomentText}
use Rattle.engine_text.specs.Moment.{place_of, year_of, month_of, day_text, clock_text, date_time_text}

-- r is the place of a day that lies `days` after the start of the period k
abbrev pub IsPlace : (ℕ → ℕ) → (ℕ → ℕ) → ℕ → ℕ → ℕ → ℕ × ℕ → Type 0
IsPlace len start n k days r = (start r.0 + r.1 ≡ start k + days) × (r.1 < len r.0) × (k ≤ r.0) × (r.0 ≤ k + n)

step : (len start : ℕ → ℕ) → ((k : ℕ) → 1 ≤ k → start (suc k) ≡ start k + len k) → (n k days : ℕ) → 1 ≤ k
    → (r : ℕ × ℕ) → (len k ≤ days → IsPlace len start n (suc k) (days - len k) r)
    → (b : Bool) → nat_lt days (len k) ≡ b → IsPlace len start (suc n) k days (cond b (k, days) r)
step len start next n k days low r later true e = (refl, ltb-true _ _ e, omega arith, omega arith)
step len start next n k days low r later false e =
    let ge : len k ≤ days = ltb-false _ _ e in
    let rest = later ge in
    (omega (arith, rest.0, next k low), rest.1, omega (arith, rest.2), omega (arith, rest.3))

placed : (len start : ℕ → ℕ) → ((k : ℕ) → 1 ≤ k → start (suc k) ≡ start k + len k) → (n k days : ℕ) → 1 ≤ k → start k + days < start (suc (k + n))
    → IsPlace len start n k days (place_of len n k days)
unfolding place_of
placed len start next zero k days low h =
    let end : suc (k + 0) ≡ suc k = omega arith in
    (refl, omega (arith, next k low, rw end at h), omega arith, omega arith)
placed len start next (suc n) k days low h =
    let end : suc (k + suc n) ≡ suc (suc k + n) = omega arith in
    let bound = rw end at h in
    step len start next n k days low (place_of len n (suc k) (days - len k))
    (λ ge. placed len start next n (suc k) (days - len k) (omega arith) (omega (arith, next k low, bound))) (nat_lt days (len k)) refl

abbrev pub year_start : ℕ → ℕ
year_start y = day_count (pos y) 1 1

abbrev pub month_start : ℕ → ℕ → ℕ
month_start y m = days_of_months (pos y) (m - 1)

start-2256 : day_count (pos 2256) 1 1 ≡ 4_476_412
start-2256 = day_count-early (pos 2256) 12255 1 1 refl (omega arith) (omega arith) (omega arith)

-- the year of a day up to 14 March 2255
pub year_placed : (days : ℕ) → days ≤ 104_166 → IsPlace (λ y. days_in_year (pos y)) year_start 285 1970 days (year_of days)
unfolding year_of
year_placed days h = placed (λ y. days_in_year (pos y)) year_start
    (λ k low. day_count-next_year (pos k) (pos (suc k)) (omega (arith, signed_arith)) (omega (arith, signed_arith)))
    285 1970 days (omega arith) (omega (arith, day_count-epoch, start-2256))

-- the month of a day of a year
pub month_placed : (y days : ℕ) → days < days_in_year (pos y) → IsPlace (days_in_month (pos y)) (month_start y) 11 1 days (month_of y days)
unfolding month_of
month_placed y days h = placed (days_in_month (pos y)) (month_start y)
    (λ k low. let back : suc k - 1 ≡ k = omega arith in rw back (days_of_months_more (pos y) k low))
    11 1 days (omega arith) (omega (arith, days_of_months-zero (pos y), days_of_months_all (pos y)))

cons : (x y : ℕ) (xs ys : List ℕ) → x ≡ y → xs ≡ ys → x ∷ xs ≡ y ∷ ys
cons x y xs ys e f = ap₂ (λ (a : ℕ) (b : List ℕ). a ∷ b) e f

-- nine places of whole milliseconds
nine_places : (n : ℕ) → n < 1_000 → places 9 1_000_000_000 (n * 1_000_000) ≡ (48 + n / 100) ∷ pad2 (n % 100) ++ codes "000000"
unfolding places
nine_places n h =
    cons _ _ _ _ (omega arith) (cons _ _ _ _ (omega arith) (cons _ _ _ _ (omega arith)
    (cons _ _ _ _ (omega arith) (cons _ _ _ _ (omega arith) (cons _ _ _ _ (omega arith)
    (cons _ _ _ _ (omega arith) (cons _ _ _ _ (omega arith) (cons _ _ _ _ (omega arith) refl))))))))

-- the date of a day number
date_of : (days : ℕ) → days ≤ 104_166 → (d : Date) × (epoch_day d ≡ pos days) × (date_text d ≡ day_text days)
unfolding day_text
date_of days h =
    let year = year_of days in
    let y = year_placed days h in
    let month = month_of year.0 year.1 in
    let m = month_placed year.0 year.1 y.1 in
    let d : Date = record {
      year = pos year.0;
      month = month.0;
      day = month.1 + 1;
      year_in = omega (arith, signed_arith, y.3);
      month_in = omega (arith, m.2, m.3);
      day_in = omega (arith, m.1);
    } in
    let count = day_count-day_of_year (pos year.0) month.0 (month.1 + 1) (omega arith) in
    let number : days_from_civil (pos year.0) month.0 (month.1 + 1) ≡ pos days = omega (arith, signed_arith, days_from_civil-day_count (pos year.0) month.0 (month.1 + 1), count, y.0, m.0, days_of_months-zero (pos year.0), day_count-epoch) in
    (d, number, refl)

-- the time of day of so many milliseconds
time_of : (ms : ℕ) → ms < 86_400_000 → (t : Time) × (time_nanos t ≡ ms * 1_000_000) × (time_text (Some 9) t ≡ clock_text ms)
unfolding clock_text
time_of ms h =
    let t : Time = record {
      hour = ms / 3_600_000;
      minute = ms / 60_000 % 60;
      second = ms / 1_000 % 60;
      subsec_nanosecond = ms % 1_000 * 1_000_000;
      hour_in = omega arith;
      minute_in = omega arith;
      second_in = omega arith;
      subsec_in = omega arith;
    } in
    let hundreds : ms % 1_000 / 100 ≡ ms / 100 % 10 = omega arith in
    let rest : ms % 1_000 % 100 ≡ ms % 100 = omega arith in
    let places = nine_places (ms % 1_000) (omega arith) in
    (t, omega arith, rw (places, hundreds, rest) refl)

-- what the calendar and the clock show at a moment is its text
pub shown : (m : ℕ) → m ≤ 9_000_000_000_000 → (t : DateTime) × (civil_nanos t ≡ pos m *ℤ pos 1_000_000) × (date_time_text m ≡ rfc3339 t)
unfolding date_time_text rfc3339
shown m h =
    let (d, number, day) = date_of (m / 86_400_000) (omega arith) in
    let (t, nanos, clock) = time_of (m % 86_400_000) (omega arith) in
    let at : DateTime = record { date = d; time = t } in
    let sum : civil_nanos at ≡ pos m *ℤ pos 1_000_000 = omega (arith, signed_arith, civil_nanos-parts at, number, nanos) in
    (at, sum, ap₂ (λ (a b : List ℕ). a ++ 84 ∷ b ++ 90 ∷ []) (sym day) (sym clock))

same_text : (a b : DateTime) → a.date.year ≡ b.date.year → a.date.month ≡ b.date.month → a.date.day ≡ b.date.day
    → a.time.hour ≡ b.time.hour → a.time.minute ≡ b.time.minute → a.time.second ≡ b.time.second
    → a.time.subsec_nanosecond ≡ b.time.subsec_nanosecond → rfc3339 a ≡ rfc3339 b
unfolding rfc3339
same_text a b y mo d h mi s n = rw (y, mo, d, h, mi, s, n) refl

-- and the only one that `IsMomentText` lets be
pub pinned : (m : ℕ) (text : List ℕ) → m ≤ 9_000_000_000_000 → IsMomentText (Some m) text → text ≡ date_time_text m
pinned m text h (t, nanos, is) =
    let (at, sum, mine) = shown m h in
    let both = civil_nanos_injective t at (nanos ∙ sym sum) in
    let d = epoch_day_injective t.date at.date both.0 in
    let c = time_nanos_injective t.time at.time both.1 in
    is ∙ same_text t at d.0 d.1 d.2 c.0 c.1 c.2 c.3 ∙ sym mine
