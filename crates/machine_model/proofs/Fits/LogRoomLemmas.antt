-- Logs have room for what their processes may yet write.
pub use Rattle.machine_model.specs.Consistency.{room_left as room_in}
use Rattle.std.proofs.Common.{◌≡◌, ◌≢◌, ℕ, ◌+◌, ◌≤◌, ◌==◌, Bool, true, false, List, [], ◌∷◌, ◌++◌, Option, Some, None, if◌then◌else◌, find, map, length, refl, ap, sym, ◌∙◌, subst, inl, inr, arith}
use Rattle.std.proofs.lemmas.Bool.Decides.{eqb_tells}
use Rattle.std.proofs.lemmas.List.Sums.{sum_by_push}
use Rattle.std.specs.Prelude.{option_map}
use Rattle.std.specs.List.{AllByRecursion}
use Rattle.container_table.specs.Lists.{update_first}
use Rattle.engine_text.specs.Owner.{same_owner}
use Rattle.proc_kernel.specs.Processes.{Process, ProcessStep}
use Rattle.proc_kernel.specs.Tables.{Entry, process_of, effect_of}
use Rattle.proc_kernel.specs.Tables as tables
use Rattle.machine_model.specs.Consistency.{AreDistinct}
use Rattle.machine_model.specs.Effects.Launch.{log_size}
use Rattle.machine_model.specs.Effects.Meet.{record_of}
use Rattle.machine_model.proofs.ListLemmas.{all_weaken}
use Rattle.machine_model.proofs.Tables.NumberLemmas.{is_not}
use Rattle.machine_model.proofs.Tables.ProcessLemmas.{changed_stands, changed_others, gone, gone_others}
use Rattle.machine_model.proofs.OwnerLemmas.{owner_is}
use Rattle.machine_model.proofs.Processes.LimitLemmas.{written}
use Rattle.engine_text.specs.declared.container.Container.{Container}
use Rattle.engine_text.specs.declared.container.Life.{Life}
use Rattle.engine_text.specs.declared.exec.Exec.{Exec}
use Rattle.engine_text.specs.declared.log.LogRecord.{LogRecord}
use Rattle.engine_text.specs.declared.log.OwnedLog.{OwnedLog}
use Rattle.engine_text.specs.declared.owner.Owner.{Owner}
use Rattle.engine_text.specs.declared.owner.Owner.TheVariants.{Container as OfContainer, Exec as OfExec}
use Rattle.engine_text.specs.declared.script.Stream.{Stream}

abbrev pub life_of : Option Container → Option Life
life_of None = None
life_of (Some c) = Some c.life

-- a container's log and its main process
abbrev pub RoomBy : Option Life → Option Process → Type 0
RoomBy None p = Unit {0}
RoomBy (Some l) p = log_size l.log + room_in p ≤ 4194304

-- how many bytes an exec's process may yet write
abbrev pub exec_room_in : Owner → List Entry → ℕ
exec_room_in (OfContainer n) es = 0
exec_room_in (OfExec n) es = room_in (process_of (OfExec n) es)

abbrev pub OutputFits : List Entry → OwnedLog → Type 0
OutputFits es o = log_size o.log + exec_room_in o.owner es ≤ 1048576

abbrev pub IsEmptyOf : ℕ → OwnedLog → Type 0
IsEmptyOf m o = same_owner o.owner (OfExec m) ≡ true → log_size o.log ≡ 0

pub record Rooms (cs : List Container) (xs : List Exec) (es : List Entry) (os : List OwnedLog) : Type 0 where
  pub mains : (m : ℕ) → RoomBy (life_of (find (λ c. c.number == m) cs)) (process_of (OfContainer m) es)
  pub outputs : AllByRecursion (OutputFits es) os
  pub empty : (m : ℕ) (x : Exec) → find (λ x. x.number == m) xs ≡ Some x → x.started ≡ false → AllByRecursion (IsEmptyOf m) os

-- ---- rooms

pub room_less : (o : Option Life) (p q : Option Process) → room_in q ≤ room_in p → RoomBy o p → RoomBy o q
room_less None p q less h = tt
room_less (Some l) p q less h = omega (arith, less, h)

pub room_mapped : (f : Process → Process) → ((q : Process) → (f q).room ≤ q.room) → (p : Option Process) → room_in (option_map f p) ≤ room_in p
room_mapped f k None = omega arith
room_mapped f k (Some p) = k p

pub room_renewed : (f : Life → Life) → ((l : Life) → (f l).log ≡ l.log) → (o : Option Life) (p : Option Process) → RoomBy o p → RoomBy (option_map f o) p
room_renewed f k None p h = tt
room_renewed f k (Some l) p h = subst (λ (log : List LogRecord). log_size log + room_in p ≤ 4194304) (sym (k l)) h

pub outputs_less : (es fs : List Entry) (os : List OwnedLog) → ((o : Owner) → exec_room_in o fs ≤ exec_room_in o es) → AllByRecursion (OutputFits es) os → AllByRecursion (OutputFits fs) os
outputs_less es fs os less h = all_weaken (OutputFits es) (OutputFits fs) (λ o k. let one = less o.owner in omega (arith, one, k)) os h

pub exec_room_of : (es fs : List Entry) → ((m : ℕ) → process_of (OfExec m) fs ≡ process_of (OfExec m) es) → (o : Owner) → exec_room_in o fs ≤ exec_room_in o es
exec_room_of es fs same (OfContainer n) = omega arith
exec_room_of es fs same (OfExec m) = let e : room_in (process_of (OfExec m) fs) ≡ room_in (process_of (OfExec m) es) = ap room_in (same m) in omega (arith, e)

pub exec_room_changed : (k : ℕ) (f : Process → Process) → ((q : Process) → (f q).room ≤ q.room) → (es : List Entry) (o : Owner) → exec_room_in o (tables.change (OfExec k) f es) ≤ exec_room_in o es
exec_room_changed k f less es (OfContainer n) = omega arith
exec_room_changed k f less es (OfExec m) = elim (eqb_tells k m) [
  | inl e ↦ subst (λ j. room_in (process_of (OfExec j) (tables.change (OfExec k) f es)) ≤ room_in (process_of (OfExec j) es)) e.1
      (subst (λ p. room_in p ≤ room_in (process_of (OfExec k) es)) (sym (changed_stands (OfExec k) f es)) (room_mapped f less (process_of (OfExec k) es)))
  | inr e ↦ let same : room_in (process_of (OfExec m) (tables.change (OfExec k) f es)) ≡ room_in (process_of (OfExec m) es) = ap room_in (changed_others (OfExec k) (OfExec m) f es (is_not k m e.1)) in omega (arith, same)
]

pub exec_room_gone : (k : ℕ) (es : List Entry) → AreDistinct (map (λ e. e.owner) es) → (o : Owner) → exec_room_in o (tables.without (OfExec k) es) ≤ exec_room_in o es
exec_room_gone k es h (OfContainer n) = omega arith
exec_room_gone k es h (OfExec m) = elim (eqb_tells k m) [
  | inl e ↦ subst (λ j. room_in (process_of (OfExec j) (tables.without (OfExec k) es)) ≤ room_in (process_of (OfExec j) es)) e.1
      (let none : room_in (process_of (OfExec k) (tables.without (OfExec k) es)) ≡ 0 = ap room_in (gone (OfExec k) es h) in omega (arith, none))
  | inr e ↦ let same : room_in (process_of (OfExec m) (tables.without (OfExec k) es)) ≡ room_in (process_of (OfExec m) es) = ap room_in (gone_others (OfExec k) (OfExec m) es (is_not k m e.1)) in omega (arith, same)
]

-- ---- what a step writes

pub step_room : (f : Process → ProcessStep) → ((p : Process) → written (f p).effect + (f p).process.room ≤ p.room) → (o : Option Process)
    → written (effect_of f o) + room_in (option_map (λ p. (f p).process) o) ≤ room_in o
step_room f k None = omega arith
step_room f k (Some p) = k p

pub log_more : (log : List LogRecord) (run : ℕ) (stream : Stream) (payload : List ℕ) (t : ℕ) → log_size (log ++ record_of run stream payload t ∷ []) ≡ log_size log + length payload
log_more log run stream payload t = sum_by_push (λ (r : LogRecord). length r.payload) log (record_of run stream payload t)

-- one more record in the exec's output
abbrev pub put : ℕ → ℕ → Stream → List ℕ → List OwnedLog → List OwnedLog
put n t stream payload os = update_first (λ o. same_owner o.owner (OfExec n)) (λ o. record o { log = o.log ++ record_of 1 stream payload t ∷ [] }) os

put_by : (P : OwnedLog → Type 0) (b : Bool) (x y : OwnedLog) (xs new : List OwnedLog) → (b ≡ true → P y) → P x → AllByRecursion P xs → AllByRecursion P new → AllByRecursion P (if b then y ∷ xs else x ∷ new)
put_by P true x y xs new py px rest more = (py refl, rest)
put_by P false x y xs new py px rest more = (px, more)

-- the outputs behind a write of that many bytes, where the room has fallen by as many
pub put_fits : (n t : ℕ) (stream : Stream) (payload : List ℕ) (es fs : List Entry) (os : List OwnedLog) → length payload + room_in (process_of (OfExec n) fs) ≤ room_in (process_of (OfExec n) es)
    → ((o : Owner) → exec_room_in o fs ≤ exec_room_in o es) → AllByRecursion (OutputFits es) os → AllByRecursion (OutputFits fs) (put n t stream payload os)
put_fits n t stream payload es fs [] falls less h = tt
put_fits n t stream payload es fs (o ∷ os) falls less h =
    put_by (OutputFits fs) (same_owner o.owner (OfExec n)) o (record o { log = o.log ++ record_of 1 stream payload t ∷ [] }) os (put n t stream payload os)
    (λ is. fits o (owner_is o.owner (OfExec n) is) h.0) (let one = less o.owner in omega (arith, one, h.0)) (outputs_less es fs os less h.1) (put_fits n t stream payload es fs os falls less h.1)
  where
    fits : (o : OwnedLog) → o.owner ≡ OfExec n → OutputFits es o → OutputFits fs (record o { log = o.log ++ record_of 1 stream payload t ∷ [] })
    fits o is k =
        let before : log_size o.log + room_in (process_of (OfExec n) es) ≤ 1048576 = subst (λ w. log_size o.log + exec_room_in w es ≤ 1048576) is k in
        let more = log_more o.log 1 stream payload t in
        subst (λ w. log_size (o.log ++ record_of 1 stream payload t ∷ []) + exec_room_in w fs ≤ 1048576) (sym is) (omega (arith, before, falls, more))

-- others' outputs stay empty
pub put_empty : (n m t : ℕ) (stream : Stream) (payload : List ℕ) (os : List OwnedLog) → n ≢ m → AllByRecursion (IsEmptyOf m) os → AllByRecursion (IsEmptyOf m) (put n t stream payload os)
put_empty n m t stream payload [] other h = tt
put_empty n m t stream payload (o ∷ os) other h =
    put_by (IsEmptyOf m) (same_owner o.owner (OfExec n)) o (record o { log = o.log ++ record_of 1 stream payload t ∷ [] }) os (put n t stream payload os)
    (λ is yes_it_is. absurd (differ o.owner is yes_it_is)) h.0 h.1 (put_empty n m t stream payload os other h.1)
  where
    differ : (w : Owner) → same_owner w (OfExec n) ≡ true → same_owner w (OfExec m) ≡ true → ⊥
    differ w e f = let same : OfExec n ≡ OfExec m = sym (owner_is w (OfExec n) e) ∙ owner_is w (OfExec m) f in other (ap number_in same)
      where
        number_in : Owner → ℕ
        number_in (OfContainer k) = 0
        number_in (OfExec k) = k
