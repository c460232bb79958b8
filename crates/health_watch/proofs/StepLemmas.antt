-- What a result, a mark and a rest of a watch make of what is to come (lines of any length).
use Rattle.std.proofs.Common.{arith, ◌≡◌, ◌⊎◌, inl, inr, ℕ, zero, suc, ◌+◌, ◌-◌, ◌<◌, ◌≤◌, Bool, true, false, ◌&&◌, nat_le, nat_lt, if◌then◌else◌, List, [], ◌∷◌, ◌++◌, Option, Some, None, refl, ap, sym, ◌∙◌, subst}
use Rattle.std.proofs.lemmas.Bool.{le-leb, lt-leb, lt-ltb, le-ltb}
use Rattle.std.proofs.lemmas.Bool.Decides.{nat_tests}
use Rattle.std.specs.Prelude.{option_and_then}
use Rattle.std.specs.Option.{option_map_or}
use Rattle.std.specs.List.{fold}
use Rattle.engine_text.specs.declared.health.HealthSpec.{HealthSpec}
use Rattle.health_watch.specs.declared.mark.Mark.{Mark}
use Rattle.health_watch.specs.declared.mark.Turn.{Turn}
use Rattle.health_watch.specs.declared.mark.Turn.TheVariants.{Start, Die, Pause, Unpause}
use Rattle.health_watch.specs.declared.outcome.Outcome.{Outcome}
use Rattle.health_watch.specs.declared.outcome.ProbeResult.{ProbeResult}
use Rattle.health_watch.specs.declared.open_run.OpenRun.{OpenRun}
use Rattle.health_watch.specs.Runs.{Span, run_end, pause_end, pauses_in, runs_of, runs_by}
use Rattle.health_watch.specs.Results.{moved_by, moved, begins_at, results_from, that_count}
use Rattle.health_watch.specs.Health.{Standing, idle, starting, behind_result, has_ended, rested, behind_results, behind_run}
use Rattle.health_watch.specs.Reaching.{open_pause, coming, behind_open, behind_marks, IsHeld, IsAhead, AreAhead, next_result, IsNext, behind_next, due_behind, paused_from, run_begun, run_turned, standing_turned, RiseFrom, IsPausedBy, ArePausedBy}
use Rattle.health_watch.proofs.ComingLemmas.{FromOn, run_end_on, begins_on, begins_free, counts_now, counts_late, counts_over, ahead_none}

-- ---- results

module _ (spec : HealthSpec) (outcome : ℕ → Outcome) where
  -- the next result comes first
  first_of : (run : OpenRun) (ks : List Mark) (m l : ℕ) → RiseFrom m ks → run.due < m → (IsHeld run.paused run.due → ⊥) → run.left ≡ suc l
      → coming spec outcome run ks ≡ next_result outcome run
      ∷ results_from spec outcome (open_pause run.paused ks ++ pauses_in ks) l (run.number + 1) (run.due + (outcome run.number).after + spec.interval)
  first_of run ks m l rise low free some =
      let ps : List Span = open_pause run.paused ks ++ pauses_in ks in
      ap (λ left. results_from spec outcome ps left run.number run.due) some
      ∙ ap (λ begin. option_map_or (λ b.
      record { moment = b + (outcome run.number).after; passes = (outcome run.number).passes }
      ∷ results_from spec outcome ps l (run.number + 1) (b + (outcome run.number).after + spec.interval)) begin [])
      (begins_free run.paused ks m run.due rise low free)

  coming_next : (run : OpenRun) (ks : List Mark) (m : ℕ) → RiseFrom m ks → IsNext m outcome run (next_result outcome run)
      → coming spec outcome run ks ≡ next_result outcome run ∷ coming spec outcome (behind_next spec (next_result outcome run).moment run) ks
  coming_next run ks m rise h =
      first_of run ks m (run.left - 1) rise (omega (arith, h.before)) h.free (omega (arith, h.some))

  -- the next result is taken
  pub behind_first : (u : ℕ) (s : Standing) (run : OpenRun) (ks : List Mark) (m : ℕ) (r : ProbeResult) → RiseFrom m ks → IsNext m outcome run r → r.moment ≤ u
      → behind_open spec outcome u s (Some run) ks ≡ behind_open spec outcome u (behind_result spec run.from s r) (Some (behind_next spec r.moment run)) ks
  behind_first u s run ks m r rise h up =
      let more : List ProbeResult = coming spec outcome (behind_next spec r.moment run) ks in
      let first : coming spec outcome run ks ≡ r ∷ more =
      subst (λ (x : ProbeResult). coming spec outcome run ks ≡ x ∷ coming spec outcome (behind_next spec x.moment run) ks) (sym h.is)
      (coming_next run ks m rise (subst (λ (x : ProbeResult). IsNext m outcome run x) h.is h)) in
      ap (λ (rs : List ProbeResult). behind_results spec run.from (run_end ks) u s rs) first
      ∙ ap (λ (t : Bool). rested (has_ended u (run_end ks)) (fold (behind_result spec run.from) s (if t then r ∷ that_count (run_end ks) u more else [])))
      (counts_now (run_end ks) m u r (run_end_on m ks rise) h.before up)

  -- ---- marks

  -- a run that ended by u, of which no result is left
  over_by : (u : ℕ) (s : Standing) (run : OpenRun) (m : ℕ) (ks : List Mark) → run_end ks ≡ Some m → RiseFrom m ks → IsAhead m outcome run → m ≤ u
      → behind_open spec outcome u s (Some run) ks ≡ idle s.changes
  over_by u s run m ks is rise ahead up =
      ap (λ (end : Option ℕ). behind_results spec run.from end u s (coming spec outcome run ks)) is
      ∙ ap (λ (rs : List ProbeResult). rested (has_ended u (Some m)) (fold (behind_result spec run.from) s rs))
      (ahead_none spec outcome (Some m) u m ks rise (λ r late. counts_over m u r late) run ahead)
      ∙ ap (λ b. rested b s) (le-leb m u up)

  -- a start
  begins : (u : ℕ) (s : Standing) (m : ℕ) (ks : List Mark) → m ≤ u
      → fold (behind_run spec outcome u) s (runs_of (record { turn = Start; moment = m } ∷ ks))
      ≡ behind_marks spec outcome u (starting s.changes) (Some (run_begun spec m)) ks
  begins u s m ks up =
      ap (λ b. fold (behind_run spec outcome u) (if b then behind_open spec outcome u (starting s.changes) (Some (run_begun spec m)) ks else s) (runs_of ks))
      (le-leb m u up)

  -- the results from a probe that begins then
  abbrev results_by : List Span → ℕ → ℕ → Option ℕ → List ProbeResult
  results_by pauses left k begin = option_map_or (λ b.
      record { moment = b + (outcome k).after; passes = (outcome k).passes }
      ∷ results_from spec outcome pauses left (k + 1) (b + (outcome k).after + spec.interval)) begin []

  -- the later results agree, from a moment on
  abbrev AgreeFrom : ℕ → List Span → List Span → ℕ → Type 0
  AgreeFrom m ps qs left = (k due : ℕ) → m ≤ due → results_from spec outcome ps left k due ≡ results_from spec outcome qs left k due

  agree_by : (m : ℕ) (ps qs : List Span) (left k low : ℕ) → AgreeFrom m ps qs left → m ≤ low + (outcome k).after → (begin : Option ℕ) → FromOn low begin → results_by ps left k begin ≡ results_by qs left k begin
  agree_by m ps qs left k low agree up None on = refl
  agree_by m ps qs left k low agree up (Some b) on =
      ap (λ (rs : List ProbeResult). record { moment = b + (outcome k).after; passes = (outcome k).passes } ∷ rs)
      (agree (k + 1) (b + (outcome k).after + spec.interval) (omega (arith, on, up)))

  -- pauses that move each due moment alike
  alike : (ps qs : List Span) → ((due : ℕ) → begins_at ps due ≡ begins_at qs due) → (left k due : ℕ) → results_from spec outcome ps left k due ≡ results_from spec outcome qs left k due
  alike ps qs same zero k due = refl
  alike ps qs same (suc left) k due =
      ap (results_by ps left k) (same due)
      ∙ agree_by 0 ps qs left k 0 (λ j d low. alike ps qs same left j d) (omega arith) (begins_at qs due) (from_none (begins_at qs due))
    where
      from_none : (o : Option ℕ) → FromOn 0 o
      from_none None = tt
      from_none (Some b) = omega arith

  -- of two pauses with one end the later is within the sooner
  within_sooner : (p m : ℕ) (to : Option ℕ) (ps : List Span) → p ≤ m → (due : ℕ)
      → begins_at (record { from = p; to = to } ∷ record { from = m; to = to } ∷ ps) due ≡ begins_at (record { from = p; to = to } ∷ ps) due
  within_sooner p m to ps low due = by (nat_le p due) refl
    where
      later : Span
      later = record { from = m; to = to }

      stays : (d : ℕ) → moved later d ≡ Some d → begins_at (later ∷ ps) d ≡ begins_at ps d
      stays d e = ap (option_and_then (begins_at ps)) e

      before : (b : Bool) → nat_le m due ≡ b → nat_le p due ≡ false → (if b then moved_by to due else Some due) ≡ Some due
      before true e f = absurd (grind (arith, nat_tests, e, f, low))
      before false e f = refl

      ended : (end d : ℕ) (b : Bool) → nat_le m d ≡ b → end ≤ d → (if b then moved_by (Some end) d else Some d) ≡ Some d
      ended end d true e over = ap (λ c. if c then Some end else Some d) (le-ltb d end over)
      ended end d false e over = refl

      inside : (end : ℕ) → to ≡ Some end → (b : Bool) → nat_lt due end ≡ b → option_and_then (begins_at (later ∷ ps)) (if b then Some end else Some due) ≡ option_and_then (begins_at ps) (if b then Some end else Some due)
      inside end is true e = stays end (ap (λ (o : Option ℕ). if nat_le m end then moved_by o end else Some end) is ∙ ended end end (nat_le m end) refl (omega arith))
      inside end is false e = stays due (ap (λ (o : Option ℕ). if nat_le m due then moved_by o due else Some due) is ∙ ended end due (nat_le m due) refl (grind (arith, nat_tests, e)))

      at : (o : Option ℕ) → to ≡ o → option_and_then (begins_at (later ∷ ps)) (moved_by o due) ≡ option_and_then (begins_at ps) (moved_by o due)
      at None is = refl
      at (Some end) is = inside end is (nat_lt due end) refl

      by : (b : Bool) → nat_le p due ≡ b → option_and_then (begins_at (later ∷ ps)) (if b then moved_by to due else Some due) ≡ option_and_then (begins_at ps) (if b then moved_by to due else Some due)
      by true e = at to refl
      by false e = stays due (before (nat_le m due) refl e)

  pauses_once : (paused : Option ℕ) (m : ℕ) (ks : List Mark) → IsPausedBy m paused → (left k due : ℕ)
      → results_from spec outcome (open_pause paused (record { turn = Pause; moment = m } ∷ ks) ++ pauses_in (record { turn = Pause; moment = m } ∷ ks)) left k due
      ≡ results_from spec outcome (open_pause (paused_from paused m) ks ++ pauses_in ks) left k due
  pauses_once None m ks by left k due = refl
  pauses_once (Some p) m ks by left k due =
      alike (record { from = p; to = pause_end ks } ∷ record { from = m; to = pause_end ks } ∷ pauses_in ks) (record { from = p; to = pause_end ks } ∷ pauses_in ks)
      (within_sooner p m (pause_end ks) (pauses_in ks) by) left k due

  -- ---- the end of a pause

  over_moved : (p end due : ℕ) → end ≤ due → moved (record { from = p; to = Some end }) due ≡ Some due
  over_moved p end due over = by (nat_le p due)
    where
      by : (b : Bool) → (if b then moved_by (Some end) due else Some due) ≡ Some due
      by true = ap (λ c. if c then Some end else Some due) (le-ltb due end over)
      by false = refl

  -- what is due behind a pause isn't moved by it
  behind_pause : (p end : ℕ) (ps : List Span) (left k due : ℕ) → end ≤ due
      → results_from spec outcome (record { from = p; to = Some end } ∷ ps) left k due ≡ results_from spec outcome ps left k due
  behind_pause p end ps zero k due over = refl
  behind_pause p end ps (suc left) k due over =
      ap (λ o. results_by (record { from = p; to = Some end } ∷ ps) left k (option_and_then (begins_at ps) o)) (over_moved p end due over)
      ∙ agree_by end (record { from = p; to = Some end } ∷ ps) ps left k due (λ j d low. behind_pause p end ps left j d low) (omega (arith, over)) (begins_at ps due) (begins_on due ps due (omega arith))

  -- nor is what is due before it, where its result comes behind it
  before_pause : (p end : ℕ) (ps : List Span) (left k due : ℕ) → due < p → end ≤ due + (outcome k).after
      → results_from spec outcome (record { from = p; to = Some end } ∷ ps) left k due ≡ results_from spec outcome ps left k due
  before_pause p end ps zero k due low over = refl
  before_pause p end ps (suc left) k due low over =
      ap (λ t. results_by (record { from = p; to = Some end } ∷ ps) left k (option_and_then (begins_at ps) (if t then moved_by (Some end) due else Some due))) (lt-leb p due low)
      ∙ agree_by end (record { from = p; to = Some end } ∷ ps) ps left k due (λ j d low. behind_pause p end ps left j d low) over (begins_at ps due) (begins_on due ps due (omega arith))

  -- what it holds up begins at its end
  held_pause : (p end : ℕ) (ps : List Span) (left k due : ℕ) → p ≤ due → due < end
      → results_from spec outcome (record { from = p; to = Some end } ∷ ps) left k due ≡ results_from spec outcome ps left k end
  held_pause p end ps zero k due low held = refl
  held_pause p end ps (suc left) k due low held =
      ap (λ o. results_by (record { from = p; to = Some end } ∷ ps) left k (option_and_then (begins_at ps) o))
      (ap (λ t. if t then moved_by (Some end) due else Some due) (le-leb p due low) ∙ ap (λ t. if t then Some end else Some due) (lt-ltb due end held) ∙ sym (over_moved p end end (omega arith)))
      ∙ behind_pause p end ps (suc left) k end (omega arith)

  unpaused : (p end : ℕ) (ps : List Span) (left k due : ℕ) → (left ≡ 0) ⊎ ((p ≤ due) ⊎ (end ≤ due + (outcome k).after))
      → results_from spec outcome (record { from = p; to = Some end } ∷ ps) left k due ≡ results_from spec outcome ps left k (due_behind (Some p) end due)
  unpaused p end ps left k due (inl none) =
      ap (λ n. results_from spec outcome (record { from = p; to = Some end } ∷ ps) n k due) none
      ∙ sym (ap (λ n. results_from spec outcome ps n k (due_behind (Some p) end due)) none)
  unpaused p end ps left k due (inr h) = by (nat_le p due) (nat_lt due end) refl refl h
    where
      by : (a b : Bool) → nat_le p due ≡ a → nat_lt due end ≡ b → (p ≤ due) ⊎ (end ≤ due + (outcome k).after)
          → results_from spec outcome (record { from = p; to = Some end } ∷ ps) left k due ≡ results_from spec outcome ps left k (if a && b then end else due)
      by true true e f g = held_pause p end ps left k due (grind (arith, nat_tests, e)) (grind (arith, nat_tests, f))
      by true false e f g = behind_pause p end ps left k due (grind (arith, nat_tests, f))
      by false b e f (inl low) = absurd (grind (arith, nat_tests, e, low))
      by false b e f (inr over) = before_pause p end ps left k due (grind (arith, nat_tests, e)) over

  pauses_over : (paused : Option ℕ) (m : ℕ) (ks : List Mark) (left k due : ℕ) → (left ≡ 0) ⊎ (IsHeld paused due ⊎ (m ≤ due + (outcome k).after))
      → results_from spec outcome (open_pause paused (record { turn = Unpause; moment = m } ∷ ks) ++ pauses_in (record { turn = Unpause; moment = m } ∷ ks)) left k due
      ≡ results_from spec outcome (pauses_in ks) left k (due_behind paused m due)
  pauses_over None m ks left k due h = refl
  pauses_over (Some p) m ks left k due h = unpaused p m (pauses_in ks) left k due h

  -- ---- a mark

  pub behind_mark : (u : ℕ) (s : Standing) (turn : Turn) (m : ℕ) (run : Option OpenRun) (ks : List Mark) → m ≤ u → RiseFrom m ks → AreAhead m outcome run → ArePausedBy m run
      → behind_marks spec outcome u s run (record { turn = turn; moment = m } ∷ ks)
      ≡ behind_marks spec outcome u (standing_turned turn run s) (run_turned spec turn m run) ks
  behind_mark u s Start m None ks up rise ahead by = begins u s m ks up
  behind_mark u s Start m (Some run) ks up rise ahead by =
      ap (λ (a : Standing). fold (behind_run spec outcome u) a (runs_of (record { turn = Start; moment = m } ∷ ks)))
      (over_by u s run m (record { turn = Start; moment = m } ∷ ks) refl (omega arith, rise) ahead up)
      ∙ begins u (idle s.changes) m ks up
  behind_mark u s Die m None ks up rise ahead by = refl
  behind_mark u s Die m (Some run) ks up rise ahead by =
      ap (λ (a : Standing). fold (behind_run spec outcome u) a (runs_of ks))
      (over_by u s run m (record { turn = Die; moment = m } ∷ ks) refl (omega arith, rise) ahead up)
  behind_mark u s Pause m None ks up rise ahead by = refl
  behind_mark u s Pause m (Some run) ks up rise ahead by =
      ap (λ (rs : List ProbeResult). fold (behind_run spec outcome u) (behind_results spec run.from (run_end ks) u s rs) (runs_of ks))
      (pauses_once run.paused m ks by run.left run.number run.due)
  behind_mark u s Unpause m None ks up rise ahead by = refl
  behind_mark u s Unpause m (Some run) ks up rise ahead by =
      ap (λ (rs : List ProbeResult). fold (behind_run spec outcome u) (behind_results spec run.from (run_end ks) u s rs) (runs_of ks))
      (pauses_over run.paused m ks run.left run.number run.due ahead)

  -- ---- a rest

  runs_later : (u : ℕ) (s : Standing) (m : ℕ) (ks : List Mark) → u < m → RiseFrom m ks → fold (behind_run spec outcome u) s (runs_of ks) ≡ s
  runs_later u s m [] low rise = refl
  runs_later u s m (k ∷ ks) low rise = by k.turn (runs_later u s k.moment ks (omega (arith, low, rise.0)) rise.1)
    where
      by : (t : Turn) → fold (behind_run spec outcome u) s (runs_of ks) ≡ s → fold (behind_run spec outcome u) s (runs_by t (record { span = record { from = k.moment; to = run_end ks }; pauses = pauses_in ks }) (runs_of ks)) ≡ s
      by Start later =
          ap (λ b. fold (behind_run spec outcome u) (if b then behind_open spec outcome u (starting s.changes) (Some (run_begun spec k.moment)) ks else s) (runs_of ks)) (lt-leb k.moment u (omega (arith, low, rise.0)))
          ∙ later
      by Die later = later
      by Pause later = later
      by Unpause later = later

  not_over : (u m : ℕ) (end : Option ℕ) → u < m → FromOn m end → has_ended u end ≡ false
  not_over u m None low h = refl
  not_over u m (Some end) low h = grind (arith, nat_tests, low, h)

  -- nothing comes by u
  pub behind_none : (u : ℕ) (s : Standing) (run : Option OpenRun) (ks : List Mark) → RiseFrom (u + 1) ks → AreAhead (u + 1) outcome run → behind_marks spec outcome u s run ks ≡ s
  behind_none u s None ks rise ahead = runs_later u s (u + 1) ks (omega arith) rise
  behind_none u s (Some run) ks rise ahead =
      ap (λ (a : Standing). fold (behind_run spec outcome u) a (runs_of ks))
      (ap (λ (rs : List ProbeResult). rested (has_ended u (run_end ks)) (fold (behind_result spec run.from) s rs))
      (ahead_none spec outcome (run_end ks) u (u + 1) ks rise (λ r late. counts_late (run_end ks) u r (omega (arith, late))) run ahead)
      ∙ ap (λ b. rested b s) (not_over u (u + 1) (run_end ks) (omega arith) (run_end_on (u + 1) ks rise)))
      ∙ runs_later u s (u + 1) ks (omega arith) rise
