-- Due steps, one after the other: the clock never falls, and behind the call's moment no count serves.
use Rattle.std.proofs.Common.{◌≡◌, ◌<◌, ◌≤◌, ◌+◌, ℕ, zero, suc, refl, ap, subst, arith, Option, Some, None}
use Rattle.std.specs.Prelude.{IsTrue, nat_le, false, unwrap_or}
use Rattle.std.specs.Option.{option_map_or, unwrap_or}
use Rattle.std.proofs.lemmas.Bool.{false≢true}
use Rattle.engine_text.specs.declared.call.Call.{Call}
use Rattle.engine_text.specs.declared.entry.Entry.{Entry}
use Rattle.engine_text.specs.declared.step.DueAction.{DueAction}
use Rattle.engine_text.specs.declared.step.Step.{Step}
use Rattle.machine_model.specs.State.{State}
use Rattle.machine_model.specs.Chain.{still}
use Rattle.machine_model.specs.Consistency.{IsConsistent}
use Rattle.machine_model.specs.Due.{least_due, due_effect}
use Rattle.machine_model.specs.History.{after_step, latest, IsLawful, AreLawful}
use Rattle.machine_model.specs.Step.{at_moment, step_of}
use Rattle.machine_model.proofs.Costs.EffectLemmas.{due_cost, costs_due}
use Rattle.machine_model.proofs.Kept.CountLemmas.{Counted, counted_priced}
use Rattle.machine_model.proofs.Laws.{kept_due}
use Rattle.machine_model.proofs.MomentLemmas.{moves}
use Rattle.machine_model.proofs.StandingLemmas.{Held, held_due}
use Rattle.journal_lines.specs.Stored.{due_steps}
use Rattle.journal_lines.specs.Due.{IsMomentFor, IsDueCount, behind_dues}
use Rattle.history_replay.specs.Counting.{IsPast}

-- ---- one step

counted : (s : State) (o : Option DueAction) → IsTrue (option_map_or (λ (d : DueAction). nat_le d.moment (latest s)) o false)
    → (unwrap_or (step_of o s) (still s)).state.step_count ≡ s.step_count + 1
counted s None h = absurd (false≢true h)
counted s (Some d) h =
    let m : State = at_moment d.moment s in
    let done : Counted due_cost m (due_effect d m) = (costs_due counted_priced d).holds m in
    ap (λ n. n + 1) done.steps

-- and it is counted
pub due_counted : (s : State) → IsLawful s Step.Due → (after_step s Step.Due).step_count ≡ s.step_count + 1
due_counted s lawful = counted s (least_due s) lawful.1

-- ---- many

-- one more, at the end
pub dues_more : (s : State) (n : ℕ) → behind_dues s (suc n) ≡ after_step (behind_dues s n) Step.Due
dues_more s zero = refl
dues_more s (suc n) = dues_more (after_step s Step.Due) n

pub lawful_more : (s : State) (n : ℕ) → AreLawful s (due_steps n) → IsLawful (behind_dues s n) Step.Due → AreLawful s (due_steps (suc n))
lawful_more s zero all next = (next, tt)
lawful_more s (suc n) all next = (all.0, lawful_more (after_step s Step.Due) n all.1 next)

-- a count that serves is one from behind the first of its steps on
pub count_behind : (s : State) (e : Entry) (n m : ℕ) → IsDueCount s e (n + m) → IsDueCount (behind_dues s n) e m
count_behind s e zero m h = let all : 0 + m ≡ m = omega arith in subst (IsDueCount s e) all h
count_behind s e (suc n) m h =
    let all : suc n + m ≡ suc (n + m) = omega arith in
    let on = subst (IsDueCount s e) all h in
    count_behind (after_step s Step.Due) e n m (on.0.1, on.1)

pub consistent_behind : (s : State) (n : ℕ) → IsConsistent s → AreLawful s (due_steps n) → IsConsistent (behind_dues s n)
consistent_behind s zero kept all = kept
consistent_behind s (suc n) kept all = consistent_behind (after_step s Step.Due) n (kept_due s kept all.0) all.1

-- the clock never falls
clock_behind : (s : State) (n : ℕ) → IsConsistent s → AreLawful s (due_steps n) → s.clock ≤ (behind_dues s n).clock
clock_behind s zero kept all = omega arith
clock_behind s (suc n) kept all =
    let first : s.clock ≤ (after_step s Step.Due).clock = (moves s Step.Due kept.limits.dues all.0).1 in
    let rest : (after_step s Step.Due).clock ≤ (behind_dues s (suc n)).clock =
    clock_behind (after_step s Step.Due) n (kept_due s kept all.0) all.1 in
    omega (arith, first, rest)

-- tickets stand
pub held_behind : (s : State) (k ticket n : ℕ) → Held k ticket s.tickets → Held k ticket (behind_dues s n).tickets
held_behind s k ticket zero h = h
held_behind s k ticket (suc n) h = held_behind (after_step s Step.Due) k ticket n (held_due k ticket s h)

-- ---- where no step brings the call's moment

-- no call stands before the clock
timed_clock : (s : State) (t : ℕ) (c : Call) → IsMomentFor s t c → s.clock ≤ t
timed_clock s t (Call.Drop ticket) h = omega (arith, h)
timed_clock s t (Call.Take ticket) h = h.0
timed_clock s t c h = h.0.0

-- the clock is past it
pub past_clock : (s : State) (e : Entry) → IsConsistent s → e.moment < s.clock → IsPast s e
past_clock s e kept late n h =
    let on = clock_behind s (suc n) kept h.0 in
    let stands = timed_clock (behind_dues s (suc n)) e.moment e.call h.1 in
    omega (arith, late, on, stands)

-- no step can be made
pub past_step : (s : State) (e : Entry) → (IsLawful s Step.Due → ⊥) → IsPast s e
past_step s e never n h = never h.0.0
