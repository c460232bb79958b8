-- Counts of due steps, tried from 0 on: the least that serves, and when no later one can.
use Rattle.std.proofs.Common.{◌≡◌, ◌<◌, ◌≤◌, ◌+◌, ◌-◌, ◌==◌, ℕ, suc, List, refl, sym, ap, subst, ◌∙◌, arith, Option, Some, None, Bool, true, false, inl, inr}
use Rattle.std.specs.Prelude.{nat_le, Decides, ◌⊎◌}
use Rattle.std.proofs.lemmas.Bool.{false≢true}
use Rattle.std.proofs.lemmas.Bool.Decides.{nat_tests}
use Rattle.engine_text.specs.declared.entry.Entry.{Entry}
use Rattle.engine_text.specs.declared.step.Step.{Step}
use Rattle.machine_model.specs.State.{State}
use Rattle.machine_model.specs.History.{after_step, IsLawful, AreLawful}
use Rattle.journal_lines.specs.Stored.{due_steps}
use Rattle.journal_lines.specs.Due.{IsMomentFor, IsDueCount, TellsDueCount, behind_dues}
use Rattle.history_replay.specs.Counting.{IsLeastUpTo, IsPast, HasRun, first_of, is_settled, count_text}
use Rattle.history_replay.specs.Checking.{IsRun}
use Rattle.history_replay.specs.Standing.{Standing, behind}
use Rattle.history_replay.specs.declared.dues.Dues.TheVariants as dues
use Rattle.history_replay.proofs.RunLemmas.{dues_more, lawful_more, count_behind}

-- ---- the least so far

-- a number up to the next is up to this one, or the next
up_to : (m n : ℕ) → m ≤ suc n → (m ≤ n) ⊎ (m ≡ suc n)
up_to m n most = go (nat_le m n) refl
  where
    go : (t : Bool) → nat_le m n ≡ t → (m ≤ n) ⊎ (m ≡ suc n)
    go true e = inl (grind (arith, nat_tests, e))
    go false e = inr (grind (arith, nat_tests, e, most))

first_at : (s : State) (e : Entry) (b : Bool) → Decides b (IsDueCount s e 0) → IsLeastUpTo s e 0 (first_of None b 0)
first_at s e true at = ((at.0 refl, λ fewer less h. omega (arith, less)), omega arith)
first_at s e false at = λ n most h. let none : n ≡ 0 = omega (arith, most) in false≢true (at.1 (subst (IsDueCount s e) none h))

least_on : (s : State) (e : Entry) (n : ℕ) (o : Option ℕ) (b : Bool) → IsLeastUpTo s e n o → Decides b (IsDueCount s e (suc n))
    → IsLeastUpTo s e (suc n) (first_of o b (suc n))
least_on s e n (Some least) b h at = (h.0, omega (arith, h.1))
least_on s e n None true h at = ((at.0 refl, λ fewer less d. h fewer (omega (arith, less)) d), omega arith)
least_on s e n None false h at = λ m most d. by m d (up_to m n most)
  where
    by : (m : ℕ) → IsDueCount s e m → (m ≤ n) ⊎ (m ≡ suc n) → ⊥
    by m d (inl low) = h m low d
    by m d (inr is) = false≢true (at.1 (subst (IsDueCount s e) is d))

-- where more steps are tried the kept count, if it has been reached, doesn't serve
kept_on : (s : State) (e : Entry) (n : ℕ) (o : Option ℕ) → IsLeastUpTo s e n o → is_settled o n e.dues ≡ false → e.dues ≤ n
    → IsDueCount s e e.dues → ⊥
kept_on s e n None h more most d = h e.dues most d
kept_on s e n (Some least) h more most d = grind (arith, nat_tests, more, most)

-- ---- steps

-- whether the count serves is whether the moment is the call's
serves_at : (s : State) (e : Entry) (now : State) (n : ℕ) (b : Bool) → now ≡ behind_dues s n → AreLawful s (due_steps n)
    → Decides b (IsMomentFor now e.moment e.call) → Decides b (IsDueCount s e n)
serves_at s e now n b is all timed =
    (λ t. (all, subst (λ (y : State). IsMomentFor y e.moment e.call) is (timed.0 t)), λ d. timed.1 (subst (λ (y : State). IsMomentFor y e.moment e.call) (sym is) d.1))

pub run_first : (s : State) (e : Entry) (b : Bool) → Decides b (IsMomentFor s e.moment e.call) → HasRun s e s 0 (first_of None b 0)
run_first s e b timed = record {
  state = refl;
  lawful = tt;
  lowest = first_at s e b (serves_at s e s 0 b refl tt timed);
  kept = λ less. omega (arith, less);
  counted = omega arith;
}

run_next : (s : State) (e : Entry) (now next : State) (n : ℕ) (o : Option ℕ) (b : Bool) → HasRun s e now n o → is_settled o n e.dues ≡ false
    → IsLawful now Step.Due → next ≡ after_step now Step.Due → next.step_count ≡ now.step_count + 1
    → Decides b (IsMomentFor next e.moment e.call) → HasRun s e next (suc n) (first_of o b (suc n))
run_next s e now next n o b run more lawful is counted timed =
    let state : next ≡ behind_dues s (suc n) = is ∙ ap (λ (y : State). after_step y Step.Due) run.state ∙ sym (dues_more s n) in
    let all : AreLawful s (due_steps (suc n)) = lawful_more s n run.lawful (subst (λ (y : State). IsLawful y Step.Due) run.state lawful) in
    record {
      state = state;
      lawful = all;
      lowest = least_on s e n o b run.lowest (serves_at s e next (suc n) b state all timed);
      kept = λ less. kept_on s e n o run.lowest more (omega (arith, less));
      counted = omega (arith, run.counted, counted);
    }

pub run_more : (s : State) (e : Entry) (now next : State) (n : ℕ) (o : Option ℕ) (b : Bool) → HasRun s e now n o → is_settled o n e.dues ≡ false
    → IsLawful now Step.Due → next ≡ after_step now Step.Due → next.step_count ≡ now.step_count + 1
    → Decides b (IsMomentFor next e.moment e.call) → HasRun s e next (n + 1) (first_of o b (n + 1))
run_more s e now next n o b run more lawful is counted timed =
    let one : suc n ≡ n + 1 = omega arith in
    subst (λ k. HasRun s e next k (first_of o b k)) one (run_next s e now next n o b run more lawful is counted timed)

-- ---- the end

-- no count behind this one serves
none_behind : (s : State) (e : Entry) (now : State) (n m : ℕ) → now ≡ behind_dues s n → IsPast now e → n < m → IsDueCount s e m → ⊥
none_behind s e now n m is past less d =
    let parts : m ≡ n + suc (m - n - 1) = omega (arith, less) in
    let on = count_behind s e n (suc (m - n - 1)) (subst (IsDueCount s e) parts d) in
    past (m - n - 1) (subst (λ (y : State). IsDueCount y e (suc (m - n - 1))) (sym is) on)

-- why no more steps are tried
abbrev IsEnd : Entry → State → ℕ → Option ℕ → Type 0
IsEnd e now n o = (is_settled o n e.dues ≡ true) ⊎ IsPast now e

tells : (s : State) (e : Entry) (now : State) (n : ℕ) (o : Option ℕ) → HasRun s e now n o → IsEnd e now n o → TellsDueCount s e (count_text o)
tells s e now n (Some least) run end = inl (least, run.lowest.0, refl)
tells s e now n None run (inl settled) = absurd (false≢true settled)
tells s e now n None run (inr past) = inr (λ m d. by m d (nat_le m n) refl, refl)
  where
    by : (m : ℕ) → IsDueCount s e m → (t : Bool) → nat_le m n ≡ t → ⊥
    by m d true low = run.lowest m (grind (arith, nat_tests, low)) d
    by m d false high = none_behind s e now n m run.state past (grind (arith, nat_tests, high)) d

pub run_serves : (s now : Standing) (e : Entry) (n : ℕ) (o : Option ℕ) → HasRun s.state e now.state n o → now ≡ behind s (due_steps n)
    → IsMomentFor now.state e.moment e.call → n ≡ e.dues → IsRun s e now dues.Made
run_serves s now e n o run stands timed is =
    let here : IsDueCount s.state e n = (run.lawful, subst (λ (y : State). IsMomentFor y e.moment e.call) run.state timed) in
    (subst (IsDueCount s.state e) is here, stands ∙ ap (λ m. behind s (due_steps m)) is)

not_kept : (s : State) (e : Entry) (now : State) (n : ℕ) (o : Option ℕ) → HasRun s e now n o → IsEnd e now n o
    → (n ≡ e.dues → IsMomentFor now e.moment e.call → ⊥) → IsDueCount s e e.dues → ⊥
not_kept s e now n o run end other d = by (nat_le e.dues n) refl (e.dues == n) refl
  where
    beyond : n < e.dues → IsEnd e now n o → ⊥
    beyond high (inl settled) = settled_low o settled
      where
        settled_low : (o : Option ℕ) → is_settled o n e.dues ≡ true → ⊥
        settled_low None h = false≢true h
        settled_low (Some least) h = grind (arith, nat_tests, h, high)
    beyond high (inr past) = none_behind s e now n e.dues run.state past high d

    by : (t : Bool) → nat_le e.dues n ≡ t → (u : Bool) → (e.dues == n) ≡ u → ⊥
    by true low true same =
        let is : n ≡ e.dues = grind (arith, nat_tests, same) in
        other is (subst (λ (y : State). IsMomentFor y e.moment e.call) (ap (behind_dues s) (sym is) ∙ sym run.state) d.1)
    by true low false differs = run.kept (grind (arith, nat_tests, low, differs)) d
    by false high u same = beyond (grind (arith, nat_tests, high)) end

pub run_other : (s now : Standing) (e : Entry) (n : ℕ) (o : Option ℕ) → HasRun s.state e now.state n o → IsEnd e now.state n o
    → (n ≡ e.dues → IsMomentFor now.state e.moment e.call → ⊥) → (found : List ℕ) → found ≡ count_text o → IsRun s e now (dues.Other found)
run_other s now e n o run end other found is =
    (not_kept s.state e now.state n o run end other, subst (TellsDueCount s.state e) (sym is) (tells s.state e now.state n o run end))
