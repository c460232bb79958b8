-- The code with which a process ends fits in a byte: what each step keeps of its ops, and what it gives.
use Rattle.std.proofs.Common.{◌≡◌, ℕ, ◌+◌, ◌<◌, ◌==◌, nat_le, Bool, true, false, List, [], ◌∷◌, ◌++◌, length, Option, Some, None, refl, arith, if◌then◌else◌}
use Rattle.std.proofs.lemmas.Bool.Decides.{nat_tests}
use Rattle.std.specs.List.{AllByRecursion}
use Rattle.engine_text.specs.Scripts.{Program, bye_ops}
use Rattle.proc_kernel.specs.Processes.{Process, ProcessStep, Met, advanced, copy, write, run_op, run_due, ends, meet, meet_each, meet_waiting, meeting_order, after_meeting, thaw, thawed_pace, signal, freeze, feed, feed_end, lives, is_frozen, is_copy_next, unless_ended, then_op, set_waiting, waits, is_harmless, is_ignored, is_trapped, goes_on, spawn}
use Rattle.proc_kernel.specs.Tables.{Entry, change, without, begun, process_of, effect_of}
use Rattle.engine_text.specs.Owner.{same_owner}
use Rattle.machine_model.specs.Ranges.{HaveCodes, IsCoded, AreCoded}
use Rattle.engine_text.specs.declared.script.Op.{Op}
use Rattle.engine_text.specs.declared.script.Op.TheVariants.{Write, Copy, Sleep, Busy, Again, Exit, WaitForever}
use Rattle.engine_text.specs.declared.script.Stream.{Stream}
use Rattle.engine_text.specs.declared.script.Stream.TheVariants.{Stdout}
use Rattle.engine_text.specs.declared.script.Effect.{Effect}
use Rattle.engine_text.specs.declared.script.Effect.TheVariants.{Lives, Wrote, Ended}
use Rattle.engine_text.specs.declared.owner.Owner.{Owner}

-- an end with a code of one byte
abbrev pub EndsCoded : Effect → Type 0
EndsCoded Lives = Unit {0}
EndsCoded (Wrote stream payload) = Unit {0}
EndsCoded (Ended code) = code < 256

pub record StepsCoded (st : ProcessStep) : Type 0 where
  pub process : IsCoded st.process
  pub ends : EndsCoded st.effect

pub coded_spawn : (program : Program) (t : ℕ) (stdin : Bool) (room : ℕ) → HaveCodes program.ops → IsCoded (spawn program t stdin room)
coded_spawn program t stdin room h = record { script = h; left = h }

-- ---- ops

coded_advanced : (ops : List Op) (t m : ℕ) (p : Process) → IsCoded p → HaveCodes ops → IsCoded (advanced ops t m p)
coded_advanced ops t m p h k = record { script = h.script; left = k }

coded_ends : (code : ℕ) (p : Process) → IsCoded p → code < 256 → StepsCoded (ends code p)
coded_ends code p h low = record { process = record { script = h.script; left = tt }; ends = low }

coded_written : (b : Bool) (s : Stream) (payload : List ℕ) (room t : ℕ) (q p : Process) → IsCoded q → IsCoded p → StepsCoded (if b then record { process = record q { room = room }; effect = Wrote s payload } else ends 153 p)
coded_written true s payload room t q p h k = record { process = record { script = h.script; left = h.left }; ends = tt }
coded_written false s payload room t q p h k = coded_ends 153 p k (omega arith)

coded_write : (s : Stream) (payload : List ℕ) (ops : List Op) (t : ℕ) (p : Process) → IsCoded p → HaveCodes ops → StepsCoded (write s payload ops t p)
coded_write s payload ops t p h k = coded_written (nat_le (length payload) p.room) s payload _ t (advanced ops t t p) p (coded_advanced ops t t p h k) h

coded_copy : (ops : List Op) (pieces : List (List ℕ)) (t : ℕ) (p : Process) → IsCoded p → HaveCodes ops → StepsCoded (copy ops pieces t p)
coded_copy ops [] t p h k = record { process = coded_advanced ops t t p h k; ends = tt }
coded_copy ops (piece ∷ pieces) t p h k = coded_write Stdout piece (Copy ∷ ops) t (record p { input = pieces }) (record { script = h.script; left = h.left }) (tt, k)

coded_op : (ops : List Op) (t : ℕ) (p : Process) → IsCoded p → HaveCodes ops → StepsCoded (run_op ops t p)
coded_op [] t p h k = record { process = h; ends = tt }
coded_op (Write s payload ∷ ops) t p h k = coded_write s payload ops t p h k.1
coded_op (Copy ∷ ops) t p h k = coded_copy ops p.input t p h k.1
coded_op (Sleep n ∷ ops) t p h k = record { process = coded_advanced ops t (t + n) p h k.1; ends = tt }
coded_op (Busy n ∷ ops) t p h k = record { process = record { script = h.script; left = k.1 }; ends = tt }
coded_op (Again n ∷ ops) t p h k = record { process = coded_advanced p.script t (t + n) p h h.script; ends = tt }
coded_op (Exit code ∷ ops) t p h k = coded_ends code p h k.0
coded_op (WaitForever ∷ ops) t p h k = record { process = record { script = h.script; left = k.1 }; ends = tt }

-- ---- signals that wait

abbrev IsByte : Option ℕ → Type 0
IsByte None = Unit {0}
IsByte (Some code) = code < 256

record MeetsCoded (m : Met) : Type 0 where
  pub process : IsCoded m.process
  pub code : IsByte m.code

bye_coded : HaveCodes bye_ops
bye_coded = (tt, (tt, (omega arith, tt)))

coded_trap : (b : Bool) (t : ℕ) (p q : Process) → IsCoded p → IsCoded q → MeetsCoded (goes_on (if b then p else q))
coded_trap true t p q h k = record { process = h; code = tt }
coded_trap false t p q h k = record { process = k; code = tt }

either : (b : Bool) (x y : Met) → MeetsCoded x → MeetsCoded y → MeetsCoded (if b then x else y)
either true x y h k = h
either false x y h k = k

coded_meet : (n t : ℕ) (p : Process) → n < 128 → IsCoded p → MeetsCoded (meet n t p)
coded_meet n t p low h =
    let stays : MeetsCoded (goes_on p) = record { process = h; code = tt } in
    either (n == 9) _ _ (record { process = h; code = omega arith })
    (either (is_harmless n) _ _ stays
    (either (is_ignored p.manner n) _ _ stays
    (either (is_trapped p.manner n) _ _ (coded_trap p.trapped t p _ h (record { script = bye_coded; left = bye_coded }))
    (record { process = h; code = omega (arith, low) }))))

coded_then : (o : Option ℕ) (q : Process) (f : Process → Met) → IsByte o → IsCoded q → ((x : Process) → IsCoded x → MeetsCoded (f x)) → MeetsCoded (unless_ended o q f)
coded_then (Some code) q f low h k = record { process = h; code = low }
coded_then None q f low h k = k q h

coded_each : (ns : List ℕ) (t : ℕ) (p : Process) → AllByRecursion (λ n. n < 128) ns → IsCoded p → MeetsCoded (meet_each ns t p)
coded_each [] t p low h = record { process = h; code = tt }
coded_each (n ∷ ns) t p low h =
    let one = coded_meet n t (set_waiting n false p) low.0 (record { script = h.script; left = h.left }) in
    either (waits n p) _ _
    (coded_then (meet n t (set_waiting n false p)).code (meet n t (set_waiting n false p)).process (λ q. meet_each ns t q) one.code one.process (λ q k. coded_each ns t q low.1 k))
    (coded_each ns t p low.1 h)

-- numbers below 128, as a test
abbrev are_low : List ℕ → Bool
are_low [] = true
are_low (n ∷ ns) = if nat_le n 127 then are_low ns else false

low_cons : (b : Bool) (n : ℕ) (ns : List ℕ) → (b ≡ true → n < 128) → (if b then are_low ns else false) ≡ true → (n < 128) × (are_low ns ≡ true)
low_cons true n ns h e = (h refl, e)
low_cons false n ns h e = absurd (cc)

low_all : (ns : List ℕ) → are_low ns ≡ true → AllByRecursion (λ n. n < 128) ns
low_all [] e = tt
low_all (n ∷ ns) e = let one = low_cons (nat_le n 127) n ns (λ t. grind (arith, nat_tests, t)) e in (one.0, low_all ns one.1)

coded_waiting : (t : ℕ) (p : Process) → IsCoded p → MeetsCoded (meet_waiting t p)
unfolding meet_waiting meeting_order
coded_waiting t p h = coded_each meeting_order t p (low_all meeting_order refl) h

coded_then_op : (o : Option ℕ) (t : ℕ) (p : Process) → IsByte o → IsCoded p → StepsCoded (then_op o t p)
coded_then_op (Some code) t p low h = coded_ends code p h low
coded_then_op None t p low h = coded_op p.left t p h h.left

coded_either : (b : Bool) (x y : ProcessStep) → StepsCoded x → StepsCoded y → StepsCoded (if b then x else y)
coded_either true x y h k = h
coded_either false x y h k = k

-- ---- the op that is due

pub coded_due : (t : ℕ) (p : Process) → IsCoded p → StepsCoded (run_due t p)
coded_due t p h =
    let m = coded_waiting t (record p { busy = false }) (record { script = h.script; left = h.left }) in
    coded_either p.busy _ _
    (coded_then_op (meet_waiting t (record p { busy = false })).code t (meet_waiting t (record p { busy = false })).process m.code m.process)
    (coded_op p.left t p h h.left)

-- ---- thaws and signals

coded_met : (m : Met) (o : Option ℕ) → IsByte o → IsCoded m.process → StepsCoded (after_meeting o m.process)
coded_met m None low h = record { process = h; ends = tt }
coded_met m (Some code) low h = coded_ends code m.process h low

pub coded_thaw : (t : ℕ) (p : Process) → IsCoded p → StepsCoded (thaw t p)
coded_thaw t p h =
    let q : Process = record p { pace = thawed_pace t p.pace } in
    let m = coded_waiting t q (record { script = h.script; left = h.left }) in
    coded_either p.busy _ _ (record { process = record { script = h.script; left = h.left }; ends = tt })
    (coded_met (meet_waiting t q) (meet_waiting t q).code m.code m.process)

pub coded_signal : (n : ℕ) (thaws : Bool) → n < 128 → (t : ℕ) (p : Process) → IsCoded p → StepsCoded (signal n thaws t p)
coded_signal n thaws low t p h =
    let k : IsCoded (set_waiting n true p) = record { script = h.script; left = h.left } in
    let stays : StepsCoded (lives (set_waiting n true p)) = record { process = k; ends = tt } in
    let m = coded_meet n t p low h in
    coded_either (is_frozen p.pace) _ _ (coded_either thaws _ _ (coded_thaw t (set_waiting n true p) k) stays)
    (coded_either p.busy _ _ stays (coded_met (meet n t p) (meet n t p).code m.code m.process))

-- ---- freezing and feeding

pub coded_freeze : (t : ℕ) (p : Process) → IsCoded p → IsCoded (freeze t p)
coded_freeze t p h = record { script = h.script; left = h.left }

awake_by : (b : Bool) (p q : Process) → IsCoded p → IsCoded q → IsCoded (if b then p else q)
awake_by true p q h k = h
awake_by false p q h k = k

pub coded_feed : (piece : List ℕ) (t : ℕ) (p : Process) → IsCoded p → IsCoded (feed piece t p)
coded_feed piece t p h = awake_by (is_copy_next p.left) _ _ (record { script = h.script; left = h.left }) (record { script = h.script; left = h.left })

pub coded_feed_end : (t : ℕ) (p : Process) → IsCoded p → IsCoded (feed_end t p)
coded_feed_end t p h = awake_by (is_copy_next p.left) _ _ (record { script = h.script; left = h.left }) (record { script = h.script; left = h.left })

-- ---- the table

changed_by : (P : Entry → Type 0) (b : Bool) (x y : Entry) (xs ys : List Entry) → P x → P y → AllByRecursion P xs → AllByRecursion P ys → AllByRecursion P (if b then y ∷ xs else x ∷ ys)
changed_by P true x y xs ys px py pxs pys = (py, pxs)
changed_by P false x y xs ys px py pxs pys = (px, pys)

pub all_changed : (o : Owner) (f : Process → Process) → ((p : Process) → IsCoded p → IsCoded (f p)) → (es : List Entry) → AreCoded es → AreCoded (change o f es)
all_changed o f makes [] h = tt
all_changed o f makes (e ∷ es) h = changed_by (λ e. IsCoded e.process) (same_owner e.owner o) e (record e { process = f e.process }) es (change o f es) h.0 (makes e.process h.0) h.1 (all_changed o f makes es h.1)

rest_by : (b : Bool) (x : Entry) (xs ys : List Entry) → IsCoded x.process → AreCoded xs → AreCoded ys → AreCoded (if b then xs else x ∷ ys)
rest_by true x xs ys px pxs pys = pxs
rest_by false x xs ys px pxs pys = (px, pys)

pub all_without : (o : Owner) (es : List Entry) → AreCoded es → AreCoded (without o es)
all_without o [] h = tt
all_without o (e ∷ es) h = rest_by (same_owner e.owner o) e es (without o es) h.0 h.1 (all_without o es h.1)

pub all_begun : (o : Owner) (p : Process) (es : List Entry) → AreCoded es → IsCoded p → AreCoded (es ++ begun o p ∷ [])
all_begun o p [] h k = (k, tt)
all_begun o p (e ∷ es) h k = (h.0, all_begun o p es h.1 k)

step_by : (b : Bool) (st : Process → ProcessStep) (e : Entry) (o : Option Process) → EndsCoded (st e.process).effect → EndsCoded (effect_of st o) → EndsCoded (effect_of st (if b then Some e.process else o))
step_by true st e o h k = h
step_by false st e o h k = k

pub ends_coded : (o : Owner) (st : Process → ProcessStep) → ((p : Process) → IsCoded p → StepsCoded (st p)) → (es : List Entry) → AreCoded es → EndsCoded (effect_of st (process_of o es))
ends_coded o st makes [] h = tt
ends_coded o st makes (e ∷ es) h = step_by (same_owner e.owner o) st e (process_of o es) (makes e.process h.0).ends (ends_coded o st makes es h.1)
