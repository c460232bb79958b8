-- What steps of a process keep: its times stay within a week, its room falls by what is written, and no input comes.
use Rattle.std.proofs.Common.{◌≡◌, ℕ, ◌+◌, ◌-◌, ◌≤◌, ◌==◌, Bool, true, false, List, [], ◌∷◌, ◌++◌, length, Option, Some, None, if◌then◌else◌, refl, ap, sym, ◌∙◌, subst, arith}
use Rattle.std.proofs.lemmas.Bool.{leb-true}
use Rattle.std.specs.Prelude.{sum_by, nat_le}
use Rattle.std.proofs.lemmas.List.Sums.{sum_by-cons, sum_by_push}
use Rattle.proc_kernel.specs.Processes.{Process, ProcessStep, Met, lives, ends, advanced, write, copy, run_op, run_next, is_harmless, is_ignored, is_trapped, goes_on, meet, waits, set_waiting, unless_ended, meet_each, meeting_order, meet_waiting, after_meeting, then_op, run_due, thawed_pace, ready_pace, freeze, thaw, signal, is_copy_next, feed, feed_end, is_frozen}
use Rattle.engine_text.specs.Scripts.{bye_ops}
use Rattle.proc_kernel.specs.Times.{IsTimely}
use Rattle.proc_kernel.proofs.TimeLemmas.{due_timely, thaw_timely, signal_timely, freeze_timely, feed_end_timely}
use Rattle.engine_text.specs.declared.script.Effect.{Effect}
use Rattle.engine_text.specs.declared.script.Effect.TheVariants.{Lives, Wrote, Ended}
use Rattle.engine_text.specs.declared.script.Op.{Op}
use Rattle.engine_text.specs.declared.script.Op.TheVariants.{Write, Copy, Sleep, Busy, Again, Exit, WaitForever}
use Rattle.engine_text.specs.declared.script.Pace.TheVariants.{Running}
use Rattle.engine_text.specs.declared.script.Stream.{Stream}
use Rattle.engine_text.specs.declared.script.Stream.TheVariants.{Stdout}

abbrev pub size : Process → ℕ
size p = sum_by length p.input

abbrev pub written : Effect → ℕ
written Lives = 0
written (Wrote stream payload) = length payload
written (Ended code) = 0

-- room and input don't grow
record Shrinks (p q : Process) : Type 0 where
  pub room : q.room ≤ p.room
  pub input : size q ≤ size p

-- what is written comes from the room
record StepShrinks (p : Process) (x : ProcessStep) : Type 0 where
  pub room : written x.effect + x.process.room ≤ p.room
  pub input : size x.process ≤ size p

-- beside that, its times stay within a week
pub record MoveFits (t : ℕ) (p q : Process) : Type 0 where
  pub timely : IsTimely t p → IsTimely t q
  pub room : q.room ≤ p.room
  pub input : size q ≤ size p

pub record StepFits (t : ℕ) (p : Process) (x : ProcessStep) : Type 0 where
  pub timely : IsTimely t p → IsTimely t x.process
  pub room : written x.effect + x.process.room ≤ p.room
  pub input : size x.process ≤ size p

-- a step at each moment
abbrev pub IsStep : (ℕ → Process → ProcessStep) → Type 0
IsStep step = (t : ℕ) (p : Process) → StepFits t p (step t p)

move_then : (t : ℕ) (p q r : Process) → Shrinks p q → Shrinks q r → Shrinks p r
move_then t p q r a b = record { room = omega (arith, a.room, b.room); input = omega (arith, a.input, b.input) }

move_step : (t : ℕ) (p q : Process) (x : ProcessStep) → Shrinks p q → StepShrinks q x → StepShrinks p x
move_step t p q x a b = record { room = omega (arith, a.room, b.room); input = omega (arith, a.input, b.input) }

stays : (t : ℕ) (p : Process) → Shrinks p p
stays t p = record { room = omega arith; input = omega arith }

-- it is so of a change that leaves pace, room and input
lives_fit : (t : ℕ) (p q : Process) → Shrinks p q → StepShrinks p (lives q)
lives_fit t p q h = record { room = omega (arith, h.room); input = h.input }

ends_fit : (c t : ℕ) (p q : Process) → Shrinks p q → StepShrinks p (ends c q)
ends_fit c t p q h = record { room = omega (arith, h.room); input = h.input }

-- ---- ops

advances : (ops : List Op) (t m : ℕ) (p : Process) → t ≤ m → Shrinks p (advanced ops t m p)
advances ops t m p low = record { room = omega arith; input = omega arith }

written_fits : (b : Bool) (s : Stream) (payload : List ℕ) (ops : List Op) (t : ℕ) (p : Process) → (b ≡ true → length payload ≤ p.room)
    → StepShrinks p (if b then record { process = record (advanced ops t t p) { room = p.room - length payload }; effect = Wrote s payload } else ends 153 p)
written_fits true s payload ops t p low = let fits : length payload ≤ p.room = low refl in
    record { room = omega (arith, fits); input = omega arith }
written_fits false s payload ops t p low = ends_fit 153 t p p (stays t p)

write_fits : (s : Stream) (payload : List ℕ) (ops : List Op) (t : ℕ) (p : Process) → StepShrinks p (write s payload ops t p)
write_fits s payload ops t p = written_fits (nat_le (length payload) p.room) s payload ops t p (λ e. leb-true (length payload) p.room e)

sum_rest : (n m : ℕ) → m ≤ n + m
sum_rest n m = omega arith

copy_fits : (ops : List Op) (pieces : List (List ℕ)) (t : ℕ) (p : Process) → p.input ≡ pieces → StepShrinks p (copy ops pieces t p)
copy_fits ops [] t p e = lives_fit t p (advanced ops t t p) (advances ops t t p (omega arith))
copy_fits ops (piece ∷ pieces) t p e =
    let q : Process = record p { input = pieces } in
    let less : size q ≤ size p = subst (λ (l : List (List ℕ)). sum_by length pieces ≤ sum_by length l) (sym e) (subst (λ n. sum_by length pieces ≤ n) (sym (sum_by-cons length piece pieces)) (sum_rest (length piece) (sum_by length pieces))) in
    let takes : Shrinks p q = record { room = omega arith; input = less } in
    move_step t p q (write Stdout piece (Copy ∷ ops) t q) takes (write_fits Stdout piece (Copy ∷ ops) t q)

op_fits : (ops : List Op) (t : ℕ) (p : Process) → StepShrinks p (run_op ops t p)
op_fits [] t p = lives_fit t p p (stays t p)
op_fits (Write s payload ∷ ops) t p = write_fits s payload ops t p
op_fits (Copy ∷ ops) t p = copy_fits ops p.input t p refl
op_fits (Sleep n ∷ ops) t p = lives_fit t p (advanced ops t (t + n) p) (advances ops t (t + n) p (omega arith))
op_fits (Busy n ∷ ops) t p = record { room = omega arith; input = omega arith }
op_fits (Again n ∷ ops) t p = lives_fit t p (advanced p.script t (t + n) p) (advances p.script t (t + n) p (omega arith))
op_fits (Exit code ∷ ops) t p = ends_fit code t p p (stays t p)
op_fits (WaitForever ∷ ops) t p = record { room = omega arith; input = omega arith }

-- ---- signals that wait

either : (t : ℕ) (p : Process) (b : Bool) (x y : Met) → Shrinks p x.process → Shrinks p y.process → Shrinks p (if b then x else y).process
either t p true x y h k = h
either t p false x y h k = k

trap_fits : (b : Bool) (t : ℕ) (p q : Process) → Shrinks p q → Shrinks p (goes_on (if b then p else q)).process
trap_fits true t p q h = stays t p
trap_fits false t p q h = h

meet_fits : (n t : ℕ) (p : Process) → Shrinks p (meet n t p).process
meet_fits n t p =
    let stay : Shrinks p p = stays t p in
    let trap : Shrinks p (record p { script = bye_ops; left = bye_ops; trapped = true; pace = Running (Some t) }) =
    record { room = omega arith; input = omega arith } in
    either t p (n == 9) _ _ stay (either t p (is_harmless n) _ _ stay (either t p (is_ignored p.manner n) _ _ stay (either t p (is_trapped p.manner n) _ _ (trap_fits p.trapped t p _ trap) stay)))

then_fits : (o : Option ℕ) (t : ℕ) (p q : Process) (f : Process → Met) → Shrinks p q → ((x : Process) → Shrinks p x → Shrinks p (f x).process) → Shrinks p (unless_ended o q f).process
then_fits (Some code) t p q f h k = h
then_fits None t p q f h k = k q h

waits_fit : (n : ℕ) (b : Bool) (t : ℕ) (p : Process) → Shrinks p (set_waiting n b p)
waits_fit n b t p = record { room = omega arith; input = omega arith }

each_fits : (ns : List ℕ) (t : ℕ) (p q : Process) → Shrinks p q → Shrinks p (meet_each ns t q).process
each_fits [] t p q h = h
each_fits (n ∷ ns) t p q h =
    let w : Process = set_waiting n false q in
    let one : Shrinks p (meet n t w).process = move_then t p q (meet n t w).process h (move_then t q w (meet n t w).process (waits_fit n false t q) (meet_fits n t w)) in
    either t p (waits n q) _ _ (then_fits (meet n t w).code t p (meet n t w).process (λ x. meet_each ns t x) one (λ x k. each_fits ns t p x k)) (each_fits ns t p q h)

waiting_fits : (t : ℕ) (p q : Process) → Shrinks p q → Shrinks p (meet_waiting t q).process
unfolding meet_waiting
waiting_fits t p q h = each_fits meeting_order t p q h

after_fits : (o : Option ℕ) (t : ℕ) (p q : Process) → Shrinks p q → StepShrinks p (after_meeting o q)
after_fits (Some code) t p q h = ends_fit code t p q h
after_fits None t p q h = lives_fit t p q h

then_op_fits : (o : Option ℕ) (t : ℕ) (p q : Process) → Shrinks p q → StepShrinks p (then_op o t q)
then_op_fits (Some code) t p q h = ends_fit code t p q h
then_op_fits None t p q h = move_step t p q (run_next t q) h (op_fits q.left t q)

steps : (b : Bool) (t : ℕ) (p : Process) (x y : ProcessStep) → StepShrinks p x → StepShrinks p y → StepShrinks p (if b then x else y)
steps true t p x y h k = h
steps false t p x y h k = k

due_shrinks : (t : ℕ) (p : Process) → StepShrinks p (run_due t p)
due_shrinks t p =
    let q : Process = record p { busy = false } in
    let calm : Shrinks p q = record { room = omega arith; input = omega arith } in
    steps p.busy t p _ _ (then_op_fits (meet_waiting t q).code t p (meet_waiting t q).process (waiting_fits t p q calm)) (op_fits p.left t p)

fits_by : (t : ℕ) (p : Process) (x : ProcessStep) → (IsTimely t p → IsTimely t x.process) → StepShrinks p x → StepFits t p x
fits_by t p x timely h = record { timely = timely; room = h.room; input = h.input }

moves_by : (t : ℕ) (p q : Process) → (IsTimely t p → IsTimely t q) → Shrinks p q → MoveFits t p q
moves_by t p q timely h = record { timely = timely; room = h.room; input = h.input }

pub due_fits : IsStep run_due
due_fits t p = fits_by t p (run_due t p) (due_timely t p) (due_shrinks t p)

-- ---- thaws and signals

thaw_from : (t : ℕ) (p q : Process) → Shrinks p q → StepShrinks p (thaw t q)
thaw_from t p q h =
    let r : Process = record q { pace = thawed_pace t q.pace } in
    let goes : Shrinks p r = record { room = h.room; input = h.input } in
    steps q.busy t p _ _ (lives_fit t p r goes) (after_fits (meet_waiting t r).code t p (meet_waiting t r).process (waiting_fits t p r goes))

pub thaw_fits : IsStep thaw
thaw_fits t p = fits_by t p (thaw t p) (thaw_timely t p) (thaw_from t p p (stays t p))

signal_shrinks : (n : ℕ) (thaws : Bool) (t : ℕ) (p : Process) → StepShrinks p (signal n thaws t p)
signal_shrinks n thaws t p =
    let w : Process = set_waiting n true p in
    let waits : StepShrinks p (lives w) = lives_fit t p w (waits_fit n true t p) in
    steps (is_frozen p.pace) t p _ _ (steps thaws t p _ _ (thaw_from t p w (waits_fit n true t p)) waits)
    (steps p.busy t p _ _ waits (after_fits (meet n t p).code t p (meet n t p).process (meet_fits n t p)))

pub signal_fits : (n : ℕ) (thaws : Bool) → IsStep (signal n thaws)
signal_fits n thaws t p = fits_by t p (signal n thaws t p) (signal_timely n thaws t p) (signal_shrinks n thaws t p)

-- ---- freezing and feeding

pub freeze_fits : (t : ℕ) (p : Process) → MoveFits t p (freeze t p)
freeze_fits t p = record { timely = freeze_timely t p; room = omega arith; input = omega arith }

awake_room : (b : Bool) (t : ℕ) (p : Process) → (if b then record p { pace = ready_pace t p.pace } else p).room ≡ p.room
awake_room true t p = refl
awake_room false t p = refl

awake_input : (b : Bool) (t : ℕ) (p : Process) → (if b then record p { pace = ready_pace t p.pace } else p).input ≡ p.input
awake_input true t p = refl
awake_input false t p = refl

pub feed_end_fits : (t : ℕ) (p : Process) → MoveFits t p (feed_end t p)
feed_end_fits t p =
    let q : Process = record p { ended = true } in
    record {
      timely = feed_end_timely t p;
      room = omega (arith, awake_room (is_copy_next p.left) t q);
      input = let same : size (feed_end t p) ≡ size p = ap (sum_by length) (awake_input (is_copy_next p.left) t q) in omega (arith, same);
    }

pub feed_room : (piece : List ℕ) (t : ℕ) (p : Process) → (feed piece t p).room ≡ p.room
feed_room piece t p = awake_room (is_copy_next p.left) t (record p { input = p.input ++ piece ∷ [] })

-- where it fits the input keeps its limit
pub feed_size : (piece : List ℕ) (t : ℕ) (p : Process) → size (feed piece t p) ≡ size p + length piece
feed_size piece t p = ap (sum_by length) (awake_input (is_copy_next p.left) t (record p { input = p.input ++ piece ∷ [] })) ∙ sum_by_push length p.input piece
