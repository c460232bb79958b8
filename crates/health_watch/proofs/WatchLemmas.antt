-- How a watch goes on: by results, by marks, up to a moment (lines of any length).
use Rattle.std.proofs.Common.{arith, ◌≡◌, ◌⊎◌, inl, inr, ℕ, zero, suc, ◌+◌, ◌-◌, ◌<◌, ◌≤◌, Bool, true, false, ◌&&◌, nat_le, nat_lt, if◌then◌else◌, List, [], ◌∷◌, ◌++◌, length, drop, Option, Some, None, refl, ap, sym, ◌∙◌, subst, append_assoc}
use Rattle.std.proofs.Math.ListN.{length-drop, length-append}
use Rattle.std.proofs.lemmas.List.{append-nil}
use Rattle.std.proofs.lemmas.Bool.{leb-false, ltb-false}
use Rattle.std.specs.Prelude.{option_to_list}
use Rattle.std.specs.List.{fold}
use Rattle.engine_text.specs.declared.health.HealthSpec.{HealthSpec}
use Rattle.health_watch.specs.declared.health.Change.{Change}
use Rattle.health_watch.specs.declared.mark.Mark.{Mark}
use Rattle.health_watch.specs.declared.mark.Turn.{Turn}
use Rattle.health_watch.specs.declared.mark.Turn.TheVariants.{Start, Die, Pause, Unpause}
use Rattle.health_watch.specs.declared.outcome.Outcome.{Outcome}
use Rattle.health_watch.specs.declared.outcome.ProbeResult.{ProbeResult}
use Rattle.health_watch.specs.declared.open_run.OpenRun.{OpenRun}
use Rattle.health_watch.specs.declared.reached.Reached.{Reached}
use Rattle.health_watch.specs.declared.tally.Tally.{Tally}
use Rattle.health_watch.specs.Probes.{probe_of}
use Rattle.health_watch.specs.Runs.{runs_of}
use Rattle.health_watch.specs.Results.{most_probes}
use Rattle.health_watch.specs.Health.{Standing, passed, failed, failed_again, is_starting, behind_result, behind_run, health_at}
use Rattle.health_watch.specs.Reaching.{behind_marks, IsHeld, IsAhead, AreAhead, IsNext, NextOf, behind_next, due_behind, paused_from, run_turned, standing_turned, tally_turned, reached_turned, standing_in, CanTake, TakeSays, RiseFrom, IsPausedBy, ArePausedBy}
use Rattle.health_watch.specs.Advancing.{IsTimed, AreSized, IsAt, HasAdvanced}
use Rattle.health_watch.specs.Watching.{IsUntold, health_up_to}
use Rattle.health_watch.specs.WatchInside.{IsLatest, StandsAt, from_by}
use Rattle.health_watch.proofs.ComingLemmas.{rise_from}
use Rattle.health_watch.proofs.StepLemmas.{behind_first, behind_mark, behind_none}

-- ---- sizes

streak_more : (spec : HealthSpec) (begin : ℕ) (s : Standing) (r : ProbeResult) → (behind_result spec begin s r).streak ≤ s.streak + 1
streak_more spec begin s r = by r.passes
  where
    again : (b : Bool) → (failed_again b r.moment s).streak ≤ s.streak + 1
    again true = omega arith
    again false = omega arith

    early : (b : Bool) → (if b then s else failed_again (nat_le spec.retries (s.streak + 1)) r.moment s).streak ≤ s.streak + 1
    early true = omega arith
    early false = again (nat_le spec.retries (s.streak + 1))

    by : (b : Bool) → (if b then passed r.moment s else failed spec begin r.moment s).streak ≤ s.streak + 1
    by true = omega arith
    by false = early (is_starting s.status && nat_lt r.moment (begin + spec.start_period))

pub can_take : (streak m : ℕ) (outcome : ℕ → Outcome) (run : Option OpenRun) (r : ProbeResult) → AreSized streak run → NextOf m outcome run (Some r) → CanTake streak run
can_take streak m outcome None r sized next = tt
can_take streak m outcome (Some run) r sized next = (next.some, omega (arith, sized.0, next.some), omega (arith, sized.1))

-- ---- results

later_pause : (m n : ℕ) (paused : Option ℕ) → m ≤ n → IsPausedBy m paused → IsPausedBy n paused
later_pause m n None low h = tt
later_pause m n (Some p) low h = omega (arith, low, h)

next_on : (m n : ℕ) (outcome : ℕ → Outcome) (run : OpenRun) (r : ProbeResult) → IsAhead m outcome run → IsNext n outcome run r → m ≤ r.moment
next_on m n outcome run r (inl none) next = absurd (omega (arith, none, next.some))
next_on m n outcome run r (inr (inl held)) next = absurd (next.free held)
next_on m n outcome run r (inr (inr later)) next = let is : r.moment ≡ run.due + (outcome run.number).after = ap (λ (x : ProbeResult). x.moment) next.is in omega (arith, later, is)

sized_next : (spec : HealthSpec) (old new : Tally) (cs ds : List Change) (run : OpenRun) (m : ℕ) (outcome : ℕ → Outcome) (r : ProbeResult) → AreSized old.streak (Some run) → IsNext m outcome run r
    → behind_result spec run.from (standing_in old cs) r ≡ standing_in new ds → AreSized new.streak (Some (behind_next spec r.moment run))
sized_next spec old new cs ds run m outcome r sized next is =
    let one : (behind_result spec run.from (standing_in old cs) r).streak ≤ old.streak + 1 = streak_more spec run.from (standing_in old cs) r in
    let same : (behind_result spec run.from (standing_in old cs) r).streak ≡ new.streak = ap (λ (s : Standing). s.streak) is in
    (omega (arith, sized.0, next.some), omega (arith, sized.1, next.some, one, same))

module _ (spec : HealthSpec) (marks : List Mark) (place : ℕ) where
  -- the next result is counted
  pub at_result : (old new : Reached) (cs ds : List Change) (run : OpenRun) (from since limit : ℕ) (r : ProbeResult) → IsTimed spec
      → IsAt spec marks place old cs from since → RiseFrom limit (drop place marks) → old.run ≡ Some run → IsNext limit (probe_of spec) run r
      → new.run ≡ Some (behind_next spec r.moment run) → behind_result spec run.from (standing_in old.tally cs) r ≡ standing_in new.tally ds
      → (from ≤ r.moment) × IsAt spec marks place new ds (r.moment + 1) r.moment
  at_result old new cs ds run from since limit r timed at rise is_open next behind is = (
    on,
    record {
      fits = at.fits;
      rises = rise_from (r.moment + 1) limit (drop place marks) (omega (arith, next.before)) rise;
      ahead = subst (λ (o : Option OpenRun). AreAhead (r.moment + 1) (probe_of spec) o) (sym behind) (inr (inr (omega (arith, timed.interval))));
      paused = subst (λ (o : Option OpenRun). ArePausedBy (r.moment + 1) o) (sym behind) (later_pause from (r.moment + 1) run.paused (omega (arith, on)) (subst (λ (o : Option OpenRun). ArePausedBy from o) is_open at.paused));
      sized = subst (λ (o : Option OpenRun). AreSized new.tally.streak o) (sym behind) (sized_next spec old.tally new.tally cs ds run limit (probe_of spec) r (subst (λ (o : Option OpenRun). AreSized old.tally.streak o) is_open at.sized) next is);
      low = omega arith;
      comes = λ future u up since_u.
          at.comes future u (rise_from from (r.moment + 1) (drop place marks ++ future) (omega (arith, on)) up) (omega (arith, at.low, on, since_u))
          ∙ ap (λ (o : Option OpenRun). behind_marks spec (probe_of spec) u (standing_in old.tally cs) o (drop place marks ++ future)) is_open
          ∙ ap (λ (s : Standing). fold (behind_run spec (probe_of spec) u) s (runs_of (drop place marks ++ future)))
          (behind_first spec (probe_of spec) u (standing_in old.tally cs) run (drop place marks ++ future) (r.moment + 1) r up next_now since_u)
          ∙ ap (λ (s : Standing). behind_marks spec (probe_of spec) u s (Some (behind_next spec r.moment run)) (drop place marks ++ future)) is
          ∙ ap (λ (o : Option OpenRun). behind_marks spec (probe_of spec) u (standing_in new.tally ds) o (drop place marks ++ future)) (sym behind);
    },
  )
    where
      on : from ≤ r.moment
      on = next_on from limit (probe_of spec) run r (subst (λ (o : Option OpenRun). AreAhead from (probe_of spec) o) is_open at.ahead) next

      next_now : IsNext (r.moment + 1) (probe_of spec) run r
      next_now = record { some = next.some; free = next.free; is = next.is; before = omega arith }

  -- it goes on, where no change comes of the result
  pub goes_on : (old new : Reached) (cs : List Change) (from since limit : ℕ) (r : ProbeResult) → IsTimed spec → RiseFrom limit (drop place marks)
      → HasAdvanced spec marks place limit old cs from since → NextOf limit (probe_of spec) old.run (Some r) → TakeSays spec r old None new
      → HasAdvanced spec marks place limit new cs from since
  goes_on old new cs from since limit r timed rise h next take = by old.run refl next
    where
      at_run : (run : OpenRun) → old.run ≡ Some run → IsNext limit (probe_of spec) run r → HasAdvanced spec marks place limit new cs from since
      at_run run is_open n =
          let taken = take run is_open in
          let step : (h.on ≤ r.moment) × IsAt spec marks place new cs (r.moment + 1) r.moment =
          at_result old new cs cs run h.on h.now limit r timed h.at rise is_open n taken.0 (taken.1 cs ∙ ap (standing_in new.tally) (append-nil cs)) in
          record {
            on = r.moment + 1;
            now = r.moment;
            at = step.1;
            behind = omega (arith, h.behind, step.0);
            within = omega (arith, n.before);
            before = λ low. n.before;
          }

      by : (o : Option OpenRun) → old.run ≡ o → NextOf limit (probe_of spec) o (Some r) → HasAdvanced spec marks place limit new cs from since
      by None is_open n = absurd (cc n)
      by (Some run) is_open n = at_run run is_open n

  -- it has come to a change
  pub changes : (old new : Reached) (cs : List Change) (c : Change) (from since limit : ℕ) (r : ProbeResult) → IsTimed spec → RiseFrom limit (drop place marks)
      → HasAdvanced spec marks place limit old cs from since → NextOf limit (probe_of spec) old.run (Some r) → TakeSays spec r old (Some c) new
      → IsAt spec marks place new (cs ++ c ∷ []) (c.moment + 1) c.moment × (from ≤ c.moment) × (c.moment < limit)
  changes old new cs c from since limit r timed rise h next take = by old.run refl next
    where
      at_run : (run : OpenRun) → old.run ≡ Some run → IsNext limit (probe_of spec) run r
          → IsAt spec marks place new (cs ++ c ∷ []) (c.moment + 1) c.moment × (from ≤ c.moment) × (c.moment < limit)
      at_run run is_open n =
          let taken = take run is_open in
          let step : (h.on ≤ r.moment) × IsAt spec marks place new (cs ++ c ∷ []) (r.moment + 1) r.moment =
          at_result old new cs (cs ++ c ∷ []) run h.on h.now limit r timed h.at rise is_open n taken.0 (taken.1 cs) in (
            subst (λ m. IsAt spec marks place new (cs ++ c ∷ []) (m + 1) m) (sym taken.2) step.1,
            omega (arith, h.behind, step.0, taken.2),
            omega (arith, n.before, taken.2),
          )

      by : (o : Option OpenRun) → old.run ≡ o → NextOf limit (probe_of spec) o (Some r)
          → IsAt spec marks place new (cs ++ c ∷ []) (c.moment + 1) c.moment × (from ≤ c.moment) × (c.moment < limit)
      by None is_open n = absurd (cc n)
      by (Some run) is_open n = at_run run is_open n

-- sizes behind a result
pub sized_behind : (spec : HealthSpec) (old new : Reached) (change : Option Change) (m : ℕ) (r : ProbeResult) → AreSized old.tally.streak old.run
    → NextOf m (probe_of spec) old.run (Some r) → TakeSays spec r old change new → AreSized new.tally.streak new.run
sized_behind spec old new change m r sized next take = by old.run refl sized next
  where
    at_run : (run : OpenRun) → old.run ≡ Some run → AreSized old.tally.streak (Some run) → IsNext m (probe_of spec) run r → AreSized new.tally.streak new.run
    at_run run is_open s n =
        let taken = take run is_open in
        subst (λ (o : Option OpenRun). AreSized new.tally.streak o) (sym taken.0)
        (sized_next spec old.tally new.tally [] ([] ++ option_to_list change) run m (probe_of spec) r s n (taken.1 []))

    by : (o : Option OpenRun) → old.run ≡ o → AreSized old.tally.streak o → NextOf m (probe_of spec) o (Some r) → AreSized new.tally.streak new.run
    by None is_open s n = absurd (cc n)
    by (Some run) is_open s n = at_run run is_open s n

-- the probes that are left
abbrev pub left_in : Option OpenRun → ℕ
left_in None = 0
left_in (Some run) = run.left

pub fewer_left : (spec : HealthSpec) (old new : Reached) (change : Option Change) (m : ℕ) (r : ProbeResult)
    → NextOf m (probe_of spec) old.run (Some r) → TakeSays spec r old change new → left_in new.run < left_in old.run
fewer_left spec old new change m r next take = by old.run refl next
  where
    by : (o : Option OpenRun) → old.run ≡ o → NextOf m (probe_of spec) o (Some r) → left_in new.run < left_in o
    by None is_open n = absurd (cc n)
    by (Some run) is_open n = let taken = take run is_open in let left : left_in new.run ≡ run.left - 1 = ap left_in taken.0 in omega (arith, left, n.some)

-- none comes before the limit
pub ahead_of : (m : ℕ) (spec : HealthSpec) (run : Option OpenRun) → NextOf m (probe_of spec) run None → AreAhead m (probe_of spec) run
ahead_of m spec None h = tt
ahead_of m spec (Some run) h = h

-- ---- marks

turned_ahead : (spec : HealthSpec) (t : Turn) (m : ℕ) (run : Option OpenRun) → AreAhead m (probe_of spec) run → AreAhead m (probe_of spec) (run_turned spec t m run)
turned_ahead spec Start m run h = inr (inr (omega arith))
turned_ahead spec Die m run h = tt
turned_ahead spec Pause m None h = tt
turned_ahead spec Pause m (Some run) h = by run.paused h
  where
    by : (paused : Option ℕ) → (run.left ≡ 0) ⊎ (IsHeld paused run.due ⊎ (m ≤ run.due + (probe_of spec run.number).after))
        → (run.left ≡ 0) ⊎ (IsHeld (paused_from paused m) run.due ⊎ (m ≤ run.due + (probe_of spec run.number).after))
    by paused (inl none) = inl none
    by None (inr (inl held)) = absurd held
    by (Some p) (inr (inl held)) = inr (inl held)
    by paused (inr (inr later)) = inr (inr later)
turned_ahead spec Unpause m None h = tt
turned_ahead spec Unpause m (Some run) h = by run.paused h
  where
    moved : (p : ℕ) (a b : Bool) → nat_le p run.due ≡ a → nat_lt run.due m ≡ b → (IsHeld (Some p) run.due ⊎ (m ≤ run.due + (probe_of spec run.number).after)) → m ≤ (if a && b then m else run.due) + (probe_of spec run.number).after
    moved p true true e f k = omega arith
    moved p true false e f k = let over : m ≤ run.due = ltb-false run.due m f in omega (arith, over)
    moved p false b e f (inl held) = let low : run.due < p = leb-false p run.due e in absurd (omega (arith, low, held))
    moved p false b e f (inr later) = later

    by : (paused : Option ℕ) → (run.left ≡ 0) ⊎ (IsHeld paused run.due ⊎ (m ≤ run.due + (probe_of spec run.number).after))
        → (run.left ≡ 0) ⊎ (⊥ ⊎ (m ≤ due_behind paused m run.due + (probe_of spec run.number).after))
    by paused (inl none) = inl none
    by None (inr (inl held)) = absurd held
    by None (inr (inr later)) = inr (inr later)
    by (Some p) (inr k) = inr (inr (moved p (nat_le p run.due) (nat_lt run.due m) refl refl k))

turned_paused : (spec : HealthSpec) (t : Turn) (m n : ℕ) (run : Option OpenRun) → n ≤ m → ArePausedBy n run → ArePausedBy m (run_turned spec t m run)
turned_paused spec Start m n run low h = tt
turned_paused spec Die m n run low h = tt
turned_paused spec Pause m n None low h = tt
turned_paused spec Pause m n (Some run) low h = by run.paused h
  where
    by : (paused : Option ℕ) → IsPausedBy n paused → IsPausedBy m (paused_from paused m)
    by None k = omega arith
    by (Some p) k = omega (arith, k, low)
turned_paused spec Unpause m n None low h = tt
turned_paused spec Unpause m n (Some run) low h = tt

turned_sized : (spec : HealthSpec) (t : Turn) (m : ℕ) (tally : Tally) (run : Option OpenRun) → AreSized tally.streak run → AreSized (tally_turned t run tally).streak (run_turned spec t m run)
unfolding most_probes
turned_sized spec Start m tally run h = (refl, omega arith)
turned_sized spec Die m tally None h = tt
turned_sized spec Die m tally (Some run) h = tt
turned_sized spec Pause m tally None h = tt
turned_sized spec Pause m tally (Some run) h = h
turned_sized spec Unpause m tally None h = tt
turned_sized spec Unpause m tally (Some run) h = h

pub sized_turned : (spec : HealthSpec) (k : Mark) (r : Reached) → AreSized r.tally.streak r.run → AreSized (reached_turned spec k r).tally.streak (reached_turned spec k r).run
sized_turned spec k r h = turned_sized spec k.turn k.moment r.tally r.run h

turned_standing : (t : Turn) (run : Option OpenRun) (tally : Tally) (cs : List Change) → standing_turned t run (standing_in tally cs) ≡ standing_in (tally_turned t run tally) cs
turned_standing Start run tally cs = refl
turned_standing Die None tally cs = refl
turned_standing Die (Some run) tally cs = refl
turned_standing Pause run tally cs = refl
turned_standing Unpause run tally cs = refl

-- the first mark to come is taken
pub at_mark : (spec : HealthSpec) (marks : List Mark) (place : ℕ) (k : Mark) (old : Reached) (cs : List Change) (from since : ℕ) → IsAt spec marks place old cs from since
    → AreAhead k.moment (probe_of spec) old.run → drop place marks ≡ k ∷ drop (place + 1) marks
    → IsAt spec marks (place + 1) (reached_turned spec k old) cs k.moment k.moment
at_mark spec marks place k old cs from since at ahead is =
    let first : RiseFrom from (k ∷ drop (place + 1) marks) = subst (RiseFrom from) is at.rises in
    let some : length (drop place marks) ≡ suc (length (drop (place + 1) marks)) = ap length is in
    record {
      fits = omega (arith, some, length-drop place marks);
      rises = first.1;
      ahead = turned_ahead spec k.turn k.moment old.run ahead;
      paused = turned_paused spec k.turn k.moment from old.run first.0 at.paused;
      sized = sized_turned spec k old at.sized;
      low = omega arith;
      comes = λ future u up since_u.
          at.comes future u (subst (λ (l : List Mark). RiseFrom from (l ++ future)) (sym is) (first.0, up)) (omega (arith, at.low, first.0, since_u))
          ∙ ap (λ (l : List Mark). behind_marks spec (probe_of spec) u (standing_in old.tally cs) old.run (l ++ future)) is
          ∙ behind_mark spec (probe_of spec) u (standing_in old.tally cs) k.turn k.moment old.run (drop (place + 1) marks ++ future) since_u up ahead
          (later_pauses old.run first.0 at.paused)
          ∙ ap (λ (s : Standing). behind_marks spec (probe_of spec) u s (run_turned spec k.turn k.moment old.run) (drop (place + 1) marks ++ future)) (turned_standing k.turn old.run old.tally cs);
    }
  where
    later_pauses : (o : Option OpenRun) → from ≤ k.moment → ArePausedBy from o → ArePausedBy k.moment o
    later_pauses None low h = tt
    later_pauses (Some run) low h = later_pause from k.moment run.paused low h

-- ---- a moment

-- nothing comes up to it
pub at_moment : (spec : HealthSpec) (marks : List Mark) (place : ℕ) (reached : Reached) (cs : List Change) (from since u : ℕ) → IsAt spec marks place reached cs from since
    → RiseFrom (u + 1) (drop place marks) → AreAhead (u + 1) (probe_of spec) reached.run → from ≤ u + 1 → since ≤ u → IsAt spec marks place reached cs (u + 1) u
at_moment spec marks place reached cs from since u at rise ahead low now = record {
  fits = at.fits;
  rises = rise;
  ahead = ahead;
  paused = by reached.run at.paused;
  sized = at.sized;
  low = omega arith;
  comes = λ future v up since_v. at.comes future v (rise_from from (u + 1) (drop place marks ++ future) low up) (omega (arith, now, since_v));
}
  where
    by : (o : Option OpenRun) → ArePausedBy from o → ArePausedBy (u + 1) o
    by None h = tt
    by (Some run) h = later_pause from (u + 1) run.paused low h

-- the health there
health_there : (spec : HealthSpec) (marks : List Mark) (place : ℕ) (reached : Reached) (cs : List Change) (u : ℕ) → IsAt spec marks place reached cs (u + 1) u → health_at spec marks u ≡ standing_in reached.tally cs
health_there spec marks place reached cs u at =
    ap (λ (l : List Mark). health_at spec l u) (sym (append-nil marks))
    ∙ at.comes [] u (subst (RiseFrom (u + 1)) (sym (append-nil (drop place marks))) at.rises) (omega arith)
    ∙ behind_none spec (probe_of spec) u (standing_in reached.tally cs) reached.run (drop place marks ++ []) (subst (RiseFrom (u + 1)) (sym (append-nil (drop place marks))) at.rises) at.ahead

-- it stands there
pub stands_there : (spec : HealthSpec) (marks : List Mark) (place : ℕ) (reached : Reached) (cs : List Change) (u : ℕ) → IsAt spec marks place reached cs (u + 1) u
    → StandsAt spec marks place reached (Some u) × ((health_at spec marks u).changes ≡ cs)
stands_there spec marks place reached cs u at =
    let is : health_at spec marks u ≡ standing_in reached.tally cs = health_there spec marks place reached cs u at in
    let all : (health_at spec marks u).changes ≡ cs = ap (λ (s : Standing). s.changes) is in (
      record {
        at = subst (λ (l : List Change). IsAt spec marks place reached l (u + 1) u) (sym all) at;
        health = is ∙ ap (standing_in reached.tally) (sym all);
      },
      all,
    )

-- ---- events

-- nor than a later one
pub latest_later : (m n : ℕ) (ks : List Mark) → m ≤ n → IsLatest ks m → IsLatest ks n
latest_later m n [] low h = tt
latest_later m n (k ∷ ks) low h = (omega (arith, h.0, low), latest_later m n ks low h.1)

-- and one mark more
pub latest_more : (m : ℕ) (ks : List Mark) (k : Mark) → k.moment ≤ m → IsLatest ks m → IsLatest (ks ++ k ∷ []) m
latest_more m [] k low h = (low, tt)
latest_more m (l ∷ ks) k low h = (h.0, latest_more m ks k low h.1)

latest_drop : (n m : ℕ) (ks : List Mark) → IsLatest ks m → IsLatest (drop n ks) m
latest_drop zero m ks h = h
latest_drop (suc n) m [] h = tt
latest_drop (suc n) m (k ∷ ks) h = latest_drop n m ks h.1

rise_more : (m : ℕ) (ks : List Mark) (k : Mark) → RiseFrom m ks → m ≤ k.moment → IsLatest ks k.moment → RiseFrom m (ks ++ k ∷ [])
rise_more m [] k h low latest = (low, tt)
rise_more m (l ∷ ks) k h low latest = (h.0, rise_more l.moment ks k h.1 latest.0 latest.1)

drop_more : (n : ℕ) (ks ls : List Mark) → n ≤ length ks → drop n (ks ++ ls) ≡ drop n ks ++ ls
drop_more zero ks ls low = refl
drop_more (suc n) [] ls low = absurd (omega arith)
drop_more (suc n) (k ∷ ks) ls low = drop_more n ks ls (omega (arith, low))

at_event : (spec : HealthSpec) (marks : List Mark) (place : ℕ) (reached : Reached) (cs : List Change) (from since : ℕ) (k : Mark) → IsAt spec marks place reached cs from since
    → IsLatest marks k.moment → from ≤ k.moment → IsAt spec (marks ++ k ∷ []) place reached cs from since
at_event spec marks place reached cs from since k at latest low =
    let is : drop place (marks ++ k ∷ []) ≡ drop place marks ++ k ∷ [] = drop_more place marks (k ∷ []) at.fits in
    record {
      fits = omega (arith, at.fits, length-append marks (k ∷ []));
      rises = subst (RiseFrom from) (sym is) (rise_more from (drop place marks) k at.rises low (latest_drop place k.moment marks latest));
      ahead = at.ahead;
      paused = at.paused;
      sized = at.sized;
      low = at.low;
      comes = λ future u up since_u.
          let on : drop place (marks ++ k ∷ []) ++ future ≡ drop place marks ++ (k ∷ future) = ap (λ (l : List Mark). l ++ future) is ∙ append_assoc (drop place marks) (k ∷ []) future in
          ap (λ (l : List Mark). health_at spec l u) (append_assoc marks (k ∷ []) future)
          ∙ at.comes (k ∷ future) u (subst (RiseFrom from) on up) since_u
          ∙ ap (λ (l : List Mark). behind_marks spec (probe_of spec) u (standing_in reached.tally cs) reached.run l) (sym on);
    }

from_low : (told : Option ℕ) (m : ℕ) → IsUntold told m → from_by told ≤ m
from_low None m h = omega arith
from_low (Some u) m h = omega (arith, h)

-- one mark more, later than it has told
pub stands_on : (spec : HealthSpec) (marks : List Mark) (place : ℕ) (reached : Reached) (told : Option ℕ) (k : Mark) → StandsAt spec marks place reached told
    → IsLatest marks k.moment → IsUntold told k.moment
    → StandsAt spec (marks ++ k ∷ []) place reached told × (health_up_to spec (marks ++ k ∷ []) told ≡ health_up_to spec marks told)
stands_on spec marks place reached None k h latest untold =
    (record { at = at_event spec marks place reached [] 0 0 k h.at latest (omega arith); health = h.health }, refl)
stands_on spec marks place reached (Some u) k h latest untold =
    let more : IsAt spec (marks ++ k ∷ []) place reached (health_at spec marks u).changes (u + 1) u =
    at_event spec marks place reached (health_at spec marks u).changes (u + 1) u k h.at latest (omega (arith, untold)) in
    let same : health_at spec (marks ++ k ∷ []) u ≡ health_at spec marks u =
    health_there spec (marks ++ k ∷ []) place reached (health_at spec marks u).changes u more ∙ sym h.health in
    ((stands_there spec (marks ++ k ∷ []) place reached (health_at spec marks u).changes u more).0, same)
