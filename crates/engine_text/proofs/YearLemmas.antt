-- A moment's year is not negative.
use Rattle.std.proofs.Common.{◌≡◌, ℕ, ℤ, pos, negsuc, ◌≤ℤ◌, ◌<ℤ◌, ◌*ℤ◌, arith, length, List, ◌++◌, false, Some, to_z, w64, ◌≤◌, ◌∙◌, refl, ap, Bool, Option}
use Rattle.jiff_core.specs.declared.civil.date.Date.{Date}
use Rattle.jiff_core.specs.declared.civil.datetime.DateTime.{DateTime}
use Rattle.jiff_core.specs.Date.{epoch_day}
use Rattle.jiff_core.specs.DateTime.{civil_nanos}
use Rattle.std.proofs.lemmas.Int.{by_lt_z}
use Rattle.jiff_fmt.specs.Text.{places, zulu_text, year_text}
use Rattle.jiff_fmt.specs.Text as text
use Rattle.jiff_fmt.specs.Printer.{options, datetime_text}
use Rattle.jiff_fmt.specs.declared.temporal.printer.DateTimePrinter.{DateTimePrinter}
use Rattle.engine_text.specs.Moment.{rfc3339, IsMomentText}
use Rattle.jiff_core.proofs.SignedLemmas.{signed_arith, signed_casts}
use Rattle.jiff_core.proofs.CalendarLemmas.{days_from_civil-day_count, day_count-lt_year, day_count-epoch}
use Rattle.jiff_core.proofs.DateLemmas.{civil}
use Rattle.jiff_core.proofs.DateTimeLemmas.{civil_nanos-parts, time_nanos_bound}

-- a date before 1970 has a negative day number
pub early_day : (d : Date) → d.year <ℤ pos 1970 → epoch_day d <ℤ pos 0
early_day d h =
    let before = day_count-lt_year d.year d.month d.day (pos 1970) 1 1 (civil d) (omega arith) h in
    omega (arith, signed_arith, days_from_civil-day_count d.year d.month d.day, before, day_count-epoch)

-- and so a datetime whose nanoseconds are not negative has a year from 1970 on
pub late_year : (t : DateTime) → pos 0 ≤ℤ civil_nanos t → pos 1970 ≤ℤ t.date.year
late_year t h =
    by_lt_z t.date.year (pos 1970) (λ early. absurd (
    let day = early_day t.date early in
    let whole = civil_nanos-parts t in
    let clock = time_nanos_bound t.time in
    omega (arith, signed_arith, day, whole, clock, h)
    )) (λ late. late)

long_at : (t : DateTime) (y : ℤ) → t.date.year ≡ y → pos 0 ≤ℤ y → length (rfc3339 t) ≡ 30
unfolding rfc3339 places
long_at t (pos n) e h = rw e refl
long_at t (negsuc n) e h = absurd (omega (arith, signed_arith))

-- the text of a year from 0 on has 30 bytes
pub rfc3339-long : (t : DateTime) → pos 0 ≤ℤ t.date.year → length (rfc3339 t) ≡ 30
rfc3339-long t h = long_at t t.date.year refl h

pub rfc3339-printed : (p : DateTimePrinter) (t : DateTime) → options p ≡ (false, 84, Some 9)
    → datetime_text p t ++ zulu_text p.lowercase ≡ rfc3339 t
unfolding rfc3339
rfc3339-printed p t h = ap (λ (o : Bool × ℕ × Option ℕ). text.datetime_text o.0 o.1 o.2 t ++ zulu_text o.0) h

-- what the printer wrote for a moment is its text, of 30 bytes
pub printed : (p : DateTimePrinter) (m : ℕ) (i : ℤ) (text : List ℕ) → options p ≡ (false, 84, Some 9)
    → m ≤ 9_000_000_000_000 → i ≡ to_z w64 m *ℤ pos 1_000_000
    → (t : DateTime) × (civil_nanos t ≡ i) × (text ≡ datetime_text p t ++ zulu_text p.lowercase)
    → IsMomentText (Some m) text × (length text ≡ 30)
printed p m i text chosen fits made (t, nanos, is) =
    let z : to_z w64 m ≡ pos m = omega (arith, signed_casts) in
    let same : civil_nanos t ≡ pos m *ℤ pos 1_000_000 = nanos ∙ made ∙ ap (λ (z : ℤ). z *ℤ pos 1_000_000) z in
    let shown = is ∙ rfc3339-printed p t chosen in
    let late = late_year t (omega (arith, signed_arith, same)) in
    ((t, same, shown), ap length shown ∙ rfc3339-long t (omega (arith, signed_arith, late)))
