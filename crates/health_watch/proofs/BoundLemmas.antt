-- A script that ends by the timeout does so behind so many ops (lines of any length).
use Rattle.std.proofs.Common.{arith, ◌≡◌, inl, inr, ℕ, zero, suc, ◌+◌, ◌-◌, ◌*◌, ◌<◌, ◌≤◌, ◌==◌, Bool, true, false, nat_le, if◌then◌else◌, List, [], ◌∷◌, length, replicate, slice_index_or, Option, Some, None, refl, ap, sym, ◌∙◌, subst}
use Rattle.std.proofs.lemmas.Bool.{leb-true, leb-false}
use Rattle.std.specs.Prelude.{⊤}
use Rattle.std.specs.List.{AllByRecursion}
use Rattle.engine_text.specs.declared.script.Op.{Op}
use Rattle.engine_text.specs.declared.script.Op.TheVariants.{Write, Copy, Sleep, Busy, Again, Exit, WaitForever}
use Rattle.engine_text.specs.declared.script.Stream.{Stream}
use Rattle.engine_text.specs.declared.script.Effect.{Effect}
use Rattle.engine_text.specs.declared.script.Effect.TheVariants.{Lives, Wrote, Ended}
use Rattle.engine_text.specs.Scripts.{Program, is_copy}
use Rattle.proc_kernel.specs.Processes.{Process, Met, ends, has_input, due_next, advanced, copy, run_op, run_due, goes_on, meet, waits, set_waiting, then_meet, meet_each, meeting_order, meet_waiting, met_then_op, is_copy_next, next_due, no_signals, fresh}
use Rattle.proc_kernel.specs.Times.{AreShort, IsTimely}
use Rattle.proc_kernel.proofs.TimeLemmas.{spawn_timely}
use Rattle.health_watch.specs.Probes.{Course, Goes, Over, course_by, onward_by, onward, onwards, probe_process, course, EndsSo, IsOutcomeOf, late, outcome_by, most_steps}
use Rattle.health_watch.proofs.ProbeLemmas.{onwards_sum, over_stays, goes_stays, IsDueFrom, IsLate, late_onwards}

-- ---- scripts

-- an op that begins its script again takes time, and so does what the script begins with
abbrev pub IsSlow : Bool → Op → Type 0
IsSlow copies (Write s b) = ⊤
IsSlow copies Copy = ⊤
IsSlow copies (Sleep n) = ⊤
IsSlow copies (Busy n) = ⊤
IsSlow copies (Again n) = (copies ≡ false) × (1 ≤ n)
IsSlow copies (Exit c) = ⊤
IsSlow copies WaitForever = ⊤

pub record IsSlowProgram (program : Program) : Type 0 where
  pub slow : AllByRecursion (IsSlow (is_copy_next program.ops)) program.ops
  pub few : length program.ops ≤ 2048

-- ---- a probe's process

-- so many ops were run, and so many are left, of which the first is due then
abbrev pub IsWithin : ℕ → ℕ → Option ℕ → Type 0
IsWithin i left None = ⊤
IsWithin i left (Some due) = (0 < left) × (i + left ≤ 2048 * (due + 1))

pub record IsProbe (program : Program) (i : ℕ) (p : Process) : Type 0 where
  pub script : p.script ≡ program.ops
  pub left : AllByRecursion (IsSlow (is_copy_next program.ops)) p.left
  pub waiting : p.waiting ≡ no_signals
  pub input : p.input ≡ []
  pub ended : p.ended ≡ true
  pub due : IsWithin i (length p.left) (next_due p)

-- it lives on as a probe, unless it ended
abbrev pub StaysProbe : Program → ℕ → Process → Effect → Type 0
StaysProbe program i p Lives = IsProbe program i p
StaysProbe program i p (Wrote s b) = IsProbe program i p
StaysProbe program i p (Ended code) = ⊤

-- ---- signals

none_in : (n k : ℕ) → slice_index_or (replicate n false) k false ≡ false
none_in zero k = refl
none_in (suc n) zero = refl
none_in (suc n) (suc k) = none_in n k

none_met : (ns : List ℕ) (t : ℕ) (p : Process) → ((n : ℕ) → waits n p ≡ false) → meet_each ns t p ≡ goes_on p
none_met [] t p none = refl
none_met (n ∷ ns) t p none =
    ap (λ b. if b then then_meet (meet n t (set_waiting n false p)) (λ q. meet_each ns t q) else meet_each ns t p) (none n)
    ∙ none_met ns t p none

calm : (t : ℕ) (p : Process) → p.waiting ≡ no_signals → meet_waiting t p ≡ goes_on p
unfolding meet_waiting
calm t p h = none_met meeting_order t p (λ n. ap (λ (l : List Bool). slice_index_or l n false) h ∙ none_in 32 n)

-- ---- ops

module _ (program : Program) (i d : ℕ) where
  within_by : (a b : Bool) (left t m : ℕ) → 0 < left → suc (i + left) ≤ 2048 * (d + 1) → d ≤ t → d ≤ m → IsWithin (suc i) left (if a then (if b then Some t else None) else Some m)
  within_by true true left t m some few low high = (some, omega (arith, few, low))
  within_by true false left t m some few low high = tt
  within_by false b left t m some few low high = (some, omega (arith, few, high))

  within_next : (ops : List Op) (t m : ℕ) (p : Process) → suc (i + length ops) ≤ 2048 * (d + 1) → d ≤ t → d ≤ m → IsWithin (suc i) (length ops) (due_next ops t m p)
  within_next [] t m p few low high = tt
  within_next (op ∷ ops) t m p few low high = within_by (is_copy op) (has_input p) (length (op ∷ ops)) t m (omega arith) few low high

  module _ (p : Process) (script : p.script ≡ program.ops) (waiting : p.waiting ≡ no_signals) (input : p.input ≡ []) (ended : p.ended ≡ true) (slow : IsSlowProgram program) where
    on_probe : (ops : List Op) (m : ℕ) → AllByRecursion (IsSlow (is_copy_next program.ops)) ops → suc (i + length ops) ≤ 2048 * (d + 1) → d ≤ m → IsProbe program (suc i) (advanced ops d m p)
    on_probe ops m h few low = record {
      script = script;
      left = h;
      waiting = waiting;
      input = input;
      ended = ended;
      due = within_next ops d m p few (omega arith) low;
    }

    wrote : (b : Bool) (s : Stream) (bytes : List ℕ) (room : ℕ) (q : Process) → IsProbe program (suc i) q
        → StaysProbe program (suc i) (if b then record { process = record q { room = room }; effect = Wrote s bytes } else ends 153 p).process (if b then record { process = record q { room = room }; effect = Wrote s bytes } else ends 153 p).effect
    wrote true s bytes room q h = record { script = h.script; left = h.left; waiting = h.waiting; input = h.input; ended = h.ended; due = h.due }
    wrote false s bytes room q h = tt

    copied : (ops : List Op) (pieces : List (List ℕ)) → pieces ≡ [] → IsProbe program (suc i) (advanced ops d d p) → StaysProbe program (suc i) (copy ops pieces d p).process (copy ops pieces d p).effect
    copied ops [] e h = h
    copied ops (piece ∷ pieces) e h = absurd (cc e)

    -- the script begins again
    again : (n : ℕ) → (is_copy_next program.ops ≡ false) × (1 ≤ n) → suc i ≤ 2048 * (d + 1) → IsProbe program (suc i) (advanced p.script d (d + n) p)
    again n h few = record {
      script = script;
      left = subst (AllByRecursion (IsSlow (is_copy_next program.ops))) (sym script) slow.slow;
      waiting = waiting;
      input = input;
      ended = ended;
      due = subst (λ (ops : List Op). IsWithin (suc i) (length ops) (due_next ops d (d + n) p)) (sym script) (begins program.ops h.0 slow.few);
    }
      where
        begins : (ops : List Op) → is_copy_next ops ≡ false → length ops ≤ 2048 → IsWithin (suc i) (length ops) (due_next ops d (d + n) p)
        begins [] e size = tt
        begins (op ∷ ops) e size =
            subst (λ b. IsWithin (suc i) (length (op ∷ ops)) (if b then (if has_input p then Some d else None) else Some (d + n))) (sym e) (omega arith, omega (arith, size, few, h.1))

    -- one op
    pub one_op : (ops : List Op) → AllByRecursion (IsSlow (is_copy_next program.ops)) ops → 0 < length ops → i + length ops ≤ 2048 * (d + 1)
        → StaysProbe program (suc i) (run_op ops d p).process (run_op ops d p).effect
    one_op [] h some few = absurd (omega (arith, some))
    one_op (Write s b ∷ ops) h some few = wrote (nat_le (length b) p.room) s b (p.room - length b) (advanced ops d d p) (on_probe ops d h.1 (omega (arith, few)) (omega arith))
    one_op (Copy ∷ ops) h some few = copied ops p.input input (on_probe ops d h.1 (omega (arith, few)) (omega arith))
    one_op (Sleep n ∷ ops) h some few = on_probe ops (d + n) h.1 (omega (arith, few)) (omega arith)
    one_op (Busy n ∷ ops) h some few =
        let q : IsProbe program (suc i) (advanced ops d (d + n) p) = on_probe ops (d + n) h.1 (omega (arith, few)) (omega arith) in
        record { script = q.script; left = q.left; waiting = q.waiting; input = q.input; ended = q.ended; due = q.due }
    one_op (Again n ∷ ops) h some few = again n h.0 (omega (arith, few))
    one_op (Exit c ∷ ops) h some few = tt
    one_op (WaitForever ∷ ops) h some few = record { script = script; left = h.1; waiting = waiting; input = input; ended = ended; due = tt }

-- ---- the course

-- a course of a probe
abbrev pub IsCourse : Program → ℕ → Course → Type 0
IsCourse program i (Goes t p) = IsProbe program i p
IsCourse program i (Over length code) = ⊤

module _ (program : Program) (slow : IsSlowProgram program) where
  due_step : (i d : ℕ) (p : Process) → IsProbe program i p → next_due p ≡ Some d → StaysProbe program (suc i) (run_due d p).process (run_due d p).effect
  due_step i d p h e = by p.busy
    where
      within : IsWithin i (length p.left) (Some d)
      within = subst (IsWithin i (length p.left)) e h.due

      by : (b : Bool) → StaysProbe program (suc i) (if b then met_then_op (meet_waiting d (record p { busy = false })) d else run_op p.left d p).process
          (if b then met_then_op (meet_waiting d (record p { busy = false })) d else run_op p.left d p).effect
      by true =
          subst (λ (m : Met). StaysProbe program (suc i) (met_then_op m d).process (met_then_op m d).effect) (sym (calm d (record p { busy = false }) h.waiting))
          (one_op program i d (record p { busy = false }) h.script h.waiting h.input h.ended slow p.left h.left within.0 within.1)
      by false = one_op program i d p h.script h.waiting h.input h.ended slow p.left h.left within.0 within.1

  onward_probe : (i : ℕ) (c : Course) → IsCourse program i c → IsCourse program (suc i) (onward c)
  onward_probe i (Over length code) h = tt
  onward_probe i (Goes t p) h = by (next_due p) refl
    where
      stays : (m : ℕ) (q : Process) (effect : Effect) → StaysProbe program (suc i) q effect → IsCourse program (suc i) (course_by m q effect)
      stays m q Lives k = k
      stays m q (Wrote s b) k = k
      stays m q (Ended code) k = tt

      by : (o : Option ℕ) → next_due p ≡ o → IsCourse program (suc i) (onward_by o t p)
      by None e = record {
        script = h.script;
        left = h.left;
        waiting = h.waiting;
        input = h.input;
        ended = h.ended;
        due = subst (IsWithin (suc i) (length p.left)) (sym e) tt;
      }
      by (Some d) e = stays d (run_due d p).process (run_due d p).effect (due_step i d p h e)

  begins_probe : IsProbe program 0 (probe_process program)
  begins_probe = record {
    script = refl;
    left = slow.slow;
    waiting = refl;
    input = refl;
    ended = refl;
    due = by program.ops slow.few;
  }
    where
      at_once : (a b : Bool) (left : ℕ) → 0 < left → left ≤ 2048 → IsWithin 0 left (if a then (if b then Some 0 else None) else Some 0)
      at_once true true left some few = (some, omega (arith, few))
      at_once true false left some few = tt
      at_once false b left some few = (some, omega (arith, few))

      by : (ops : List Op) → length ops ≤ 2048 → IsWithin 0 (length ops) (due_next ops 0 0 (fresh program false 1048576))
      by [] few = tt
      by (op ∷ ops) few = at_once (is_copy op) true (length (op ∷ ops)) (omega arith) few

  pub probe_course : (n : ℕ) → IsCourse program n (course n program)
  probe_course zero = begins_probe
  probe_course (suc n) = onward_probe n (course n program) (probe_course n)

  module _ (short : AreShort program.ops) where
    timely_start : IsLate 0 (Goes 0 (probe_process program))
    timely_start = (spawn_timely program 0 false 1048576 short, from_start (next_due (probe_process program)))
      where
        from_start : (o : Option ℕ) → IsDueFrom 0 o
        from_start None = tt
        from_start (Some d) = omega arith

    -- what ends by the timeout has ended behind so many ops
    pub ends_within : (timeout took code : ℕ) → EndsSo program took code → took ≤ timeout → course (most_steps timeout) program ≡ Over took code
    ends_within timeout took code ends low = by (nat_le ends.0 (most_steps timeout)) refl
      where
        all : ℕ
        all = most_steps timeout

        after : ends.0 ≤ most_steps timeout → course (most_steps timeout) program ≡ Over took code
        after few =
            let rest : most_steps timeout ≡ (most_steps timeout - ends.0) + ends.0 = omega (arith, few) in
            ap (λ n. course n program) rest
            ∙ onwards_sum (most_steps timeout - ends.0) ends.0 (Goes 0 (probe_process program))
            ∙ ap (onwards (most_steps timeout - ends.0)) ends.1
            ∙ over_stays (most_steps timeout - ends.0) took code

        later : most_steps timeout < ends.0 → onwards (ends.0 - most_steps timeout) (course (most_steps timeout) program) ≡ Over took code
        later more =
            let rest : (ends.0 - most_steps timeout) + most_steps timeout ≡ ends.0 = omega (arith, more) in
            sym (onwards_sum (ends.0 - most_steps timeout) (most_steps timeout) (Goes 0 (probe_process program)))
            ∙ ap (λ n. course n program) rest ∙ ends.1

        due : (t d : ℕ) (p : Process) → next_due p ≡ Some d → IsTimely t p → IsWithin (most_steps timeout) (length p.left) (Some d)
            → onwards (ends.0 - most_steps timeout) (Goes t p) ≡ Over took code → ⊥
        due t d p e timely within is =
            let behind : IsLate d (onwards (ends.0 - most_steps timeout) (Goes t p)) = late_onwards (ends.0 - most_steps timeout) d (Goes t p) (timely, subst (IsDueFrom d) (sym e) (omega arith)) in
            let over : d ≤ took = subst (IsLate d) is behind in
            omega (arith, over, low, within.0, within.1)

        goes : (t : ℕ) (p : Process) (o : Option ℕ) → next_due p ≡ o → IsProbe program (most_steps timeout) p → IsTimely t p → onwards (ends.0 - most_steps timeout) (Goes t p) ≡ Over took code → ⊥
        goes t p None e h timely is = let stays : Goes t p ≡ Over took code = sym (goes_stays (ends.0 - most_steps timeout) t p e) ∙ is in cc stays
        goes t p (Some d) e h timely is = due t d p e timely (subst (IsWithin (most_steps timeout) (length p.left)) e h.due) is

        at : (c : Course) → IsCourse program (most_steps timeout) c → IsLate 0 c → onwards (ends.0 - most_steps timeout) c ≡ Over took code → c ≡ Over took code
        at (Over l k) h timely is = sym (over_stays (ends.0 - most_steps timeout) l k) ∙ is
        at (Goes t p) h timely is = absurd (goes t p (next_due p) refl h timely.0 is)

        by : (b : Bool) → nat_le ends.0 (most_steps timeout) ≡ b → course (most_steps timeout) program ≡ Over took code
        by true e = after (leb-true ends.0 (most_steps timeout) e)
        by false e =
            at (course (most_steps timeout) program) (probe_course (most_steps timeout)) (late_onwards (most_steps timeout) 0 (Goes 0 (probe_process program)) timely_start)
            (later (leb-false ends.0 (most_steps timeout) e))

    apart : (timeout l k t : ℕ) (p : Process) → course (most_steps timeout) program ≡ Goes t p → EndsSo program l k → l ≤ timeout → ⊥
    apart timeout l k t p e ends low = let same : Goes t p ≡ Over l k = sym e ∙ ends_within timeout l k ends low in cc same

    too_long : (timeout took code l k : ℕ) → course (most_steps timeout) program ≡ Over took code → timeout < took → EndsSo program l k → l ≤ timeout → ⊥
    too_long timeout took code l k e over ends low =
        let same : Over took code ≡ Over l k = sym e ∙ ends_within timeout l k ends low in
        let is : took ≡ l = cc same in
        omega (arith, is, over, low)

    -- the outcome as a function is the outcome
    pub outcome_right : (timeout : ℕ) → IsOutcomeOf (Some program) timeout (outcome_by timeout (course (most_steps timeout) program))
    outcome_right timeout = by (course (most_steps timeout) program) refl
      where
        ended : (took code : ℕ) → course (most_steps timeout) program ≡ Over took code → (b : Bool) → nat_le took timeout ≡ b
            → IsOutcomeOf (Some program) timeout (if b then record { passes = code == 0; after = took } else late timeout)
        ended took code e true f = inl (took, code, (most_steps timeout, e), leb-true took timeout f, refl)
        ended took code e false f = inr ((λ l k ends low. too_long timeout took code l k e (leb-false took timeout f) ends low), refl)

        by : (c : Course) → course (most_steps timeout) program ≡ c → IsOutcomeOf (Some program) timeout (outcome_by timeout c)
        by (Goes t p) e = inr ((λ l k ends low. apart timeout l k t p e ends low), refl)
        by (Over took code) e = ended took code e (nat_le took timeout) refl
