-- What one op tells of a probe's outcome.
use Rattle.std.proofs.Common.{arith, ◌≡◌, ℕ, zero, suc, ◌+◌, ◌-◌, ◌<◌, ◌≤◌, ◌==◌, if◌then◌else◌, List, Option, Some, None, refl, ap, sym, ◌∙◌}
use Rattle.std.proofs.lemmas.Bool.{le-leb, lt-leb}
use Rattle.std.specs.Prelude.{⊤}
use Rattle.engine_text.specs.declared.owner.Owner.TheVariants.{Exec}
use Rattle.engine_text.specs.declared.script.Effect.{Effect}
use Rattle.engine_text.specs.declared.script.Effect.TheVariants.{Lives, Wrote, Ended}
use Rattle.engine_text.specs.Scripts.{Program}
use Rattle.engine_text.specs.declared.script.Pace.{Pace}
use Rattle.engine_text.specs.declared.script.Pace.TheVariants.{Running, Frozen}
use Rattle.proc_kernel.specs.Processes.{Process, run_due, next_due, due_of}
use Rattle.proc_kernel.specs.Tables.{Entry, process_of, due_at, effect_at, after_step}
use Rattle.proc_kernel.specs.Times.{IsTimely, IsPaced, IsUndue}
use Rattle.proc_kernel.proofs.TimeLemmas.{due_timely, timely_later}
use Rattle.health_watch.specs.declared.outcome.Outcome.{Outcome}
use Rattle.health_watch.specs.Probes.{Course, Goes, Over, course_by, onward_by, onward, onwards, probe_process, course, late, outcome_by}
use Rattle.health_watch.specs.ProbeSteps.{ended_by, IsKnown, alone}

-- ---- when the next op is due

-- no earlier than the last one
due_later : (t : ℕ) (pace : Pace) (m : ℕ) → IsPaced t pace → due_of pace ≡ Some m → t ≤ m
due_later t (Running None) m h e = absurd (cc e)
due_later t (Running (Some d)) m h e = let same : d ≡ m = cc e in omega (arith, h.0, same)
due_later t (Frozen left) m h e = absurd (cc e)

undue_by : (m : ℕ) (o : Option ℕ) → o ≡ Some m → IsUndue m o
undue_by m None e = tt
undue_by m (Some d) e = let same : d ≡ m = cc e in omega (arith, same)

pub timely_behind : (t : ℕ) (p : Process) (m : ℕ) → IsTimely t p → next_due p ≡ Some m → IsTimely m (run_due m p).process
timely_behind t p m h e = due_timely m p (timely_later t m p (due_later t p.pace m h.pace e) (undue_by m (next_due p) e) h)

-- ---- where it has come to

pub onwards_behind : (n : ℕ) (c : Course) → onwards (suc n) c ≡ onwards n (onward c)
onwards_behind zero c = refl
onwards_behind (suc n) c = ap onward (onwards_behind n c)

pub over_stays : (n m code : ℕ) → onwards n (Over m code) ≡ Over m code
over_stays zero m code = refl
over_stays (suc n) m code = ap onward (over_stays n m code)

pub goes_stays : (n t : ℕ) (p : Process) → next_due p ≡ None → onwards n (Goes t p) ≡ Goes t p
goes_stays zero t p e = refl
goes_stays (suc n) t p e = ap onward (goes_stays n t p e) ∙ ap (λ o. onward_by o t p) e

-- what it waits for doesn't come
pub known_none : (timeout t : ℕ) (p : Process) → next_due p ≡ None → IsKnown timeout t p (late timeout)
known_none timeout t p e n = ap (outcome_by timeout) (goes_stays (suc n) t p e)

-- it ended in time
pub known_over : (timeout t m code : ℕ) (p : Process) → next_due p ≡ Some m → m ≤ timeout → ended_by (run_due m p).effect ≡ Some code → IsKnown timeout t p (record { passes = code == 0; after = m })
known_over timeout t m code p due low e n =
    ap (outcome_by timeout) (onwards_behind n (Goes t p) ∙ ap (onwards n) (ap (λ o. onward_by o t p) due ∙ by (run_due m p).effect e) ∙ over_stays n m code)
    ∙ ap (λ b. if b then record { passes = code == 0; after = m } else late timeout) (le-leb m timeout low)
  where
    by : (effect : Effect) → ended_by effect ≡ Some code → course_by m (run_due m p).process effect ≡ Over m code
    by Lives e = absurd (cc e)
    by (Wrote stream bytes) e = absurd (cc e)
    by (Ended c) e = let same : c ≡ code = cc e in ap (Over m) same

-- it lives on
pub goes_on : (t m : ℕ) (p : Process) → next_due p ≡ Some m → ended_by (run_due m p).effect ≡ None → onward (Goes t p) ≡ Goes m (run_due m p).process
goes_on t m p due e = ap (λ o. onward_by o t p) due ∙ by (run_due m p).effect e
  where
    by : (effect : Effect) → ended_by effect ≡ None → course_by m (run_due m p).process effect ≡ Goes m (run_due m p).process
    by Lives e = refl
    by (Wrote stream bytes) e = refl
    by (Ended c) e = absurd (cc e)

-- ---- a late one

-- nothing more is due before m
abbrev pub IsDueFrom : ℕ → Option ℕ → Type 0
IsDueFrom m None = ⊤
IsDueFrom m (Some d) = m ≤ d

abbrev pub IsLate : ℕ → Course → Type 0
IsLate m (Goes t p) = IsTimely t p × IsDueFrom m (next_due p)
IsLate m (Over length code) = m ≤ length

due_from : (t : ℕ) (pace : Pace) (m : ℕ) → IsPaced t pace → m ≤ t → IsDueFrom m (due_of pace)
due_from t (Running None) m h low = tt
due_from t (Running (Some d)) m h low = omega (arith, h.0, low)
due_from t (Frozen left) m h low = tt

late_onward : (m : ℕ) (c : Course) → IsLate m c → IsLate m (onward c)
late_onward m (Over length code) h = h
late_onward m (Goes t p) h = by (next_due p) refl h.1
  where
    step : (d : ℕ) (q : Process) (effect : Effect) → IsTimely d q → m ≤ d → IsLate m (course_by d q effect)
    step d q Lives timely low = (timely, due_from d q.pace m timely.pace low)
    step d q (Wrote stream bytes) timely low = (timely, due_from d q.pace m timely.pace low)
    step d q (Ended code) timely low = low

    by : (o : Option ℕ) → next_due p ≡ o → IsDueFrom m o → IsLate m (onward_by o t p)
    by None e low = h
    by (Some d) e low = step d (run_due d p).process (run_due d p).effect (timely_behind t p d h.0 e) low

pub late_onwards : (n m : ℕ) (c : Course) → IsLate m c → IsLate m (onwards n c)
late_onwards zero m c h = h
late_onwards (suc n) m c h = late_onward m (onwards n c) (late_onwards n m c h)

late_by : (timeout m : ℕ) (c : Course) → timeout < m → IsLate m c → outcome_by timeout c ≡ late timeout
late_by timeout m (Goes t p) over h = refl
late_by timeout m (Over length code) over h =
    ap (λ b. if b then record { passes = code == 0; after = length } else late timeout) (lt-leb length timeout (omega (arith, over, h)))

pub known_late : (timeout t m : ℕ) (p : Process) → IsTimely t p → next_due p ≡ Some m → timeout < m → IsKnown timeout t p (late timeout)
known_late timeout t m p timely due over n =
    late_by timeout m (onwards (suc n) (Goes t p)) over (late_onwards (suc n) m (Goes t p) (timely, by (next_due p) due))
  where
    by : (o : Option ℕ) → o ≡ Some m → IsDueFrom m o
    by None e = tt
    by (Some d) e = let same : d ≡ m = cc e in omega (arith, same)

-- ---- the kernel of a probe

pub due_alone : (p : Process) (es : List Entry) (o : Option ℕ) → o ≡ due_at (process_of (Exec 0) es) → es ≡ alone p → next_due p ≡ o
due_alone p es o e h = sym (e ∙ ap (λ (l : List Entry). due_at (process_of (Exec 0) l)) h)

pub effect_alone : (m : ℕ) (p : Process) (es : List Entry) (o : Option ℕ) (effect : Effect) → o ≡ ended_by effect → effect ≡ effect_at (Exec 0) (run_due m) es → es ≡ alone p → ended_by (run_due m p).effect ≡ o
effect_alone m p es o effect e f h = sym (e ∙ ap ended_by (f ∙ ap (λ (l : List Entry). effect_at (Exec 0) (run_due m) l) h))

pub after_alone : (m : ℕ) (p : Process) (es later : List Entry) → later ≡ after_step (Exec 0) (run_due m) es → es ≡ alone p → later ≡ alone (run_due m p).process
after_alone m p es later e h = e ∙ ap (λ (l : List Entry). after_step (Exec 0) (run_due m) l) h

-- ---- so many ops in all

pub onwards_sum : (j i : ℕ) (c : Course) → onwards (j + i) c ≡ onwards j (onwards i c)
onwards_sum zero i c = let none : zero + i ≡ i = omega arith in ap (λ n. onwards n c) none
onwards_sum (suc j) i c = let more : suc j + i ≡ suc (j + i) = omega arith in ap (λ n. onwards n c) more ∙ ap onward (onwards_sum j i c)

-- behind i ops, and with ops left, the outcome is known
pub known_in_all : (timeout i t all : ℕ) (program : Program) (p : Process) (o : Outcome) → i < all → course i program ≡ Goes t p → IsKnown timeout t p o → outcome_by timeout (course all program) ≡ o
known_in_all timeout i t all program p o few at known =
    let rest : all ≡ suc (all - suc i) + i = omega (arith, few) in
    ap (λ n. outcome_by timeout (course n program)) rest
    ∙ ap (outcome_by timeout) (onwards_sum (suc (all - suc i)) i (Goes 0 (probe_process program)) ∙ ap (onwards (suc (all - suc i))) at)
    ∙ known (all - suc i)

-- one op more
pub course_more : (i t m : ℕ) (program : Program) (p q : Process) → course i program ≡ Goes t p → onward (Goes t p) ≡ Goes m q → course (i + 1) program ≡ Goes m q
course_more i t m program p q at step =
    let more : i + 1 ≡ suc i = omega arith in
    ap (λ n. course n program) more ∙ ap onward at ∙ step

-- it lives behind all ops
pub lives_in_all : (timeout i t all : ℕ) (program : Program) (p : Process) → i ≡ all → course i program ≡ Goes t p → outcome_by timeout (course all program) ≡ late timeout
lives_in_all timeout i t all program p end at = ap (λ n. outcome_by timeout (course n program)) (sym end) ∙ ap (outcome_by timeout) at
