-- What is to come of a run, step by step (lines of any length).
use Rattle.std.proofs.Common.{arith, ◌≡◌, inl, inr, ℕ, zero, suc, ◌+◌, ◌<◌, ◌≤◌, Bool, true, false, ◌&&◌, nat_le, nat_lt, if◌then◌else◌, List, [], ◌∷◌, ◌++◌, Option, Some, None, refl, ap}
use Rattle.std.proofs.lemmas.Bool.Decides.{nat_tests}
use Rattle.std.specs.Prelude.{⊤, option_and_then}
use Rattle.std.specs.Option.{option_map_or}
use Rattle.engine_text.specs.declared.health.HealthSpec.{HealthSpec}
use Rattle.health_watch.specs.declared.mark.Mark.{Mark}
use Rattle.health_watch.specs.declared.mark.Turn.{Turn}
use Rattle.health_watch.specs.declared.mark.Turn.TheVariants.{Start, Die, Pause, Unpause}
use Rattle.health_watch.specs.declared.outcome.Outcome.{Outcome}
use Rattle.health_watch.specs.declared.outcome.ProbeResult.{ProbeResult}
use Rattle.health_watch.specs.declared.open_run.OpenRun.{OpenRun}
use Rattle.health_watch.specs.Runs.{Span, run_end, run_end_by, pause_end, pause_end_by, pauses_in, pauses_by}
use Rattle.health_watch.specs.Results.{moved_by, moved, begins_at, results_from, is_before, counts, that_count}
use Rattle.health_watch.specs.Reaching.{open_pause, coming, IsHeld, IsAhead, RiseFrom}

-- ---- moments

-- from that moment on, or never
abbrev pub FromOn : ℕ → Option ℕ → Type 0
FromOn m None = ⊤
FromOn m (Some n) = m ≤ n

from_on : (m n : ℕ) (o : Option ℕ) → m ≤ n → FromOn n o → FromOn m o
from_on m n None low h = tt
from_on m n (Some k) low h = omega (arith, low, h)

pub rise_from : (m n : ℕ) (ks : List Mark) → m ≤ n → RiseFrom n ks → RiseFrom m ks
rise_from m n [] low h = tt
rise_from m n (k ∷ ks) low h = (omega (arith, low, h.0), h.1)

pause_end_on : (m : ℕ) (ks : List Mark) → RiseFrom m ks → FromOn m (pause_end ks)
pause_end_on m [] h = tt
pause_end_on m (k ∷ ks) h = by k.turn (from_on m k.moment (pause_end ks) h.0 (pause_end_on k.moment ks h.1))
  where
    by : (t : Turn) → FromOn m (pause_end ks) → FromOn m (pause_end_by t k.moment (pause_end ks))
    by Start later = h.0
    by Die later = h.0
    by Pause later = later
    by Unpause later = h.0

pub run_end_on : (m : ℕ) (ks : List Mark) → RiseFrom m ks → FromOn m (run_end ks)
run_end_on m [] h = tt
run_end_on m (k ∷ ks) h = by k.turn (from_on m k.moment (run_end ks) h.0 (run_end_on k.moment ks h.1))
  where
    by : (t : Turn) → FromOn m (run_end ks) → FromOn m (run_end_by t k.moment (run_end ks))
    by Start later = h.0
    by Die later = h.0
    by Pause later = later
    by Unpause later = later

-- ---- when probes begin

moved_by_on : (m : ℕ) (to : Option ℕ) (due : ℕ) → m ≤ due → FromOn m (moved_by to due)
moved_by_on m None due late = tt
moved_by_on m (Some end) due late = by (nat_lt due end) refl
  where
    by : (b : Bool) → nat_lt due end ≡ b → FromOn m (if b then Some end else Some due)
    by true e = grind (arith, nat_tests, e, late)
    by false e = late

moved_on : (m : ℕ) (q : Span) (due : ℕ) → m ≤ due → FromOn m (moved q due)
moved_on m q due late = by (nat_le q.from due)
  where
    by : (b : Bool) → FromOn m (if b then moved_by q.to due else Some due)
    by true = moved_by_on m q.to due late
    by false = late

then_on : (m : ℕ) (ps : List Span) (o : Option ℕ) → ((due : ℕ) → m ≤ due → FromOn m (begins_at ps due)) → FromOn m o → FromOn m (option_and_then (begins_at ps) o)
then_on m ps None next late = tt
then_on m ps (Some due) next late = next due late

-- a probe begins no earlier than it is due
pub begins_on : (m : ℕ) (ps : List Span) (due : ℕ) → m ≤ due → FromOn m (begins_at ps due)
begins_on m [] due late = late
begins_on m (q ∷ ps) due late = then_on m ps (moved q due) (begins_on m ps) (moved_on m q due late)

-- no pause of marks to come holds it up
begins_now : (ks : List Mark) (m due : ℕ) → RiseFrom m ks → due < m → begins_at (pauses_in ks) due ≡ Some due
begins_now [] m due rise low = refl
begins_now (k ∷ ks) m due rise low = by k.turn (begins_now ks k.moment due rise.1 (omega (arith, rise.0, low)))
  where
    sooner : begins_at (pauses_in ks) due ≡ Some due → (b : Bool) → nat_le k.moment due ≡ b
        → option_and_then (begins_at (pauses_in ks)) (if b then moved_by (pause_end ks) due else Some due) ≡ Some due
    sooner later true e = absurd (grind (arith, nat_tests, e, rise.0, low))
    sooner later false e = later

    by : (t : Turn) → begins_at (pauses_in ks) due ≡ Some due → begins_at (pauses_by t k.moment (pause_end ks) (pauses_in ks)) due ≡ Some due
    by Start later = refl
    by Die later = refl
    by Pause later = sooner later (nat_le k.moment due) refl
    by Unpause later = later

pub begins_free : (paused : Option ℕ) (ks : List Mark) (m due : ℕ) → RiseFrom m ks → due < m → (IsHeld paused due → ⊥) → begins_at (open_pause paused ks ++ pauses_in ks) due ≡ Some due
begins_free None ks m due rise low free = begins_now ks m due rise low
begins_free (Some p) ks m due rise low free = by (nat_le p due) refl
  where
    by : (b : Bool) → nat_le p due ≡ b → option_and_then (begins_at (pauses_in ks)) (if b then moved_by (pause_end ks) due else Some due) ≡ Some due
    by true e = absurd (free (grind (arith, nat_tests, e)))
    by false e = begins_now ks m due rise low

-- what a pause holds up begins at its end at the soonest
held_on : (p due m : ℕ) (ks : List Mark) → RiseFrom m ks → p ≤ due → FromOn m (begins_at (record { from = p; to = pause_end ks } ∷ pauses_in ks) due)
held_on p due m ks rise held = by (nat_le p due) refl
  where
    later : (end : ℕ) → m ≤ end → (b : Bool) → nat_lt due end ≡ b → FromOn m (option_and_then (begins_at (pauses_in ks)) (if b then Some end else Some due))
    later end low true e = begins_on m (pauses_in ks) end low
    later end low false e = begins_on m (pauses_in ks) due (grind (arith, nat_tests, e, low))

    to : (o : Option ℕ) → FromOn m o → FromOn m (option_and_then (begins_at (pauses_in ks)) (moved_by o due))
    to None h = tt
    to (Some end) h = later end h (nat_lt due end) refl

    by : (b : Bool) → nat_le p due ≡ b → FromOn m (option_and_then (begins_at (pauses_in ks)) (if b then moved_by (pause_end ks) due else Some due))
    by true e = to (pause_end ks) (pause_end_on m ks rise)
    by false e = absurd (grind (arith, nat_tests, e, held))

-- ---- results that count

pub counts_now : (end : Option ℕ) (m u : ℕ) (r : ProbeResult) → FromOn m end → r.moment < m → r.moment ≤ u → counts end u r ≡ true
counts_now None m u r h low up = grind (arith, nat_tests, up)
counts_now (Some end) m u r h low up = by (nat_lt r.moment end) (nat_le r.moment u) (grind (arith, nat_tests, h, low)) (grind (arith, nat_tests, up))
  where
    by : (a b : Bool) → a ≡ true → b ≡ true → (a && b) ≡ true
    by true b e f = f
    by false b e f = e

pub counts_late : (end : Option ℕ) (u : ℕ) (r : ProbeResult) → u < r.moment → counts end u r ≡ false
counts_late end u r late = by (is_before end r.moment) (nat_le r.moment u) (grind (arith, nat_tests, late))
  where
    by : (a b : Bool) → b ≡ false → (a && b) ≡ false
    by true b e = e
    by false b e = refl

pub counts_over : (m u : ℕ) (r : ProbeResult) → m ≤ r.moment → counts (Some m) u r ≡ false
counts_over m u r late = by (nat_lt r.moment m) (grind (arith, nat_tests, late))
  where
    by : (a : Bool) → a ≡ false → (a && nat_le r.moment u) ≡ false
    by true e = absurd (cc e)
    by false e = refl

module _ (spec : HealthSpec) (outcome : ℕ → Outcome) (end : Option ℕ) (u : ℕ) where
  results_by : (left k : ℕ) → List Span → Option ℕ → List ProbeResult
  results_by left k pauses begin = option_map_or (λ b.
      record { moment = b + (outcome k).after; passes = (outcome k).passes }
      ∷ results_from spec outcome pauses left (k + 1) (b + (outcome k).after + spec.interval)) begin []

  none_by : (left k m : ℕ) (pauses : List Span) (begin : Option ℕ) → FromOn m begin
      → ((r : ProbeResult) → m + (outcome k).after ≤ r.moment → counts end u r ≡ false) → that_count end u (results_by left k pauses begin) ≡ []
  unfolding results_by
  none_by left k m pauses None on late = refl
  none_by left k m pauses (Some b) on late =
      ap (λ t. if t then record { moment = b + (outcome k).after; passes = (outcome k).passes } ∷ that_count end u (results_from spec outcome pauses left (k + 1) (b + (outcome k).after + spec.interval)) else [])
      (late (record { moment = b + (outcome k).after; passes = (outcome k).passes }) (omega (arith, on)))

  none_from : (left k m due : ℕ) (pauses : List Span) → FromOn m (begins_at pauses due)
      → ((r : ProbeResult) → m + (outcome k).after ≤ r.moment → counts end u r ≡ false) → that_count end u (results_from spec outcome pauses left k due) ≡ []
  unfolding results_by
  none_from zero k m due pauses on late = refl
  none_from (suc left) k m due pauses on late = none_by left k m pauses (begins_at pauses due) on late

  -- where the next result comes no earlier than m, and none from m on counts
  module _ (m : ℕ) (ks : List Mark) (rise : RiseFrom m ks) (late : (r : ProbeResult) → m ≤ r.moment → counts end u r ≡ false) where
    held_none : (paused : Option ℕ) (left k due : ℕ) → IsHeld paused due
        → that_count end u (results_from spec outcome (open_pause paused ks ++ pauses_in ks) left k due) ≡ []
    held_none None left k due held = absurd held
    held_none (Some p) left k due held =
        none_from left k m due (record { from = p; to = pause_end ks } ∷ pauses_in ks) (held_on p due m ks rise held) (λ r h. late r (omega (arith, h)))

    pub ahead_none : (run : OpenRun) → IsAhead m outcome run → that_count end u (coming spec outcome run ks) ≡ []
    ahead_none run (inl none) =
        ap (λ left. that_count end u (results_from spec outcome (open_pause run.paused ks ++ pauses_in ks) left run.number run.due)) none
    ahead_none run (inr (inl held)) = held_none run.paused run.left run.number run.due held
    ahead_none run (inr (inr later)) =
        none_from run.left run.number run.due run.due (open_pause run.paused ks ++ pauses_in ks)
        (begins_on run.due (open_pause run.paused ks ++ pauses_in ks) run.due (omega arith)) (λ r h. late r (omega (arith, h, later)))
