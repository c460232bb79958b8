-- A consistent state has the form that effects keep.
use Rattle.std.proofs.Common.{◌≡◌, ◌≢◌, ℕ, ◌+◌, ◌<◌, ◌≤◌, ◌==◌, ◌||◌, Bool, true, false, List, [], ◌∷◌, Option, Some, None, if◌then◌else◌, find, filter, map, length, refl, ap, sym, ◌∙◌, subst, arith}
use Rattle.std.proofs.lemmas.Bool.{eqb-true, eq-eqb}
use Rattle.std.specs.Prelude.{IsTrue, is_some}
use Rattle.std.specs.List.{AllByRecursion, filter_map}
use Rattle.api_json.specs.Status.{is_paused, is_restarting}
use Rattle.container_table.specs.Timers.{is_timer, timer_in}
use Rattle.engine_text.specs.Owner.{same_owner}
use Rattle.proc_kernel.specs.Processes.{Process, is_frozen, next_due}
use Rattle.proc_kernel.specs.Tables.{Entry, process_of}
use Rattle.proc_kernel.specs.Times as proc
use Rattle.machine_model.specs.State.{State, container_numbered, exec_numbered, is_live, owner_number}
use Rattle.machine_model.specs.Due.{action_at}
use Rattle.machine_model.specs.Consistency.{AreDistinct, is_there, HasMain, IsFrozenAs, IsFrozenRight, IsFrozenLike, FollowsMain, HasOwner, HasPid, HasExecPid, HasGoal, TimerStands, HasTimer, HasRemoval, IsConsistent, live_execs, HasProgram, IsUnstarted, HasNoOutput, HasLogRoom, HasOutputRoom, room_left, HasStarted}
use Rattle.machine_model.specs.Effects.Launch.{log_size}
use Rattle.machine_model.proofs.ListLemmas.{all_front, all_back, all_weaken, all_both, all_of_mapped, distinct_front, distinct_back}
use Rattle.machine_model.proofs.Fold.RowLemmas.{found_number}
use Rattle.machine_model.proofs.ObeyLemmas.{found_all, both_true}
use Rattle.machine_model.proofs.DueLemmas.{owner_of, passes}
use Rattle.machine_model.proofs.Kept.NameLemmas.{names_of}
use Rattle.machine_model.proofs.Kept.TicketLemmas.{tickets_of}
use Rattle.machine_model.proofs.Fits.LogRoomLemmas.{RoomBy, Rooms, OutputFits, IsEmptyOf, exec_room_in}
use Rattle.machine_model.proofs.Fits.PartLemmas.{parts_of, life_of, IsRanked, IcyAs, Watches, ExecBy}
use Rattle.machine_model.proofs.Fits.LaunchLemmas.{Fine, OnBy}
use Rattle.machine_model.proofs.Fits.CallLemmas.{PartsFit, names_of as program_names}
use Rattle.machine_model.proofs.Kept.EventLemmas.{paid_for, execs_among}
use Rattle.machine_model.proofs.Kept.TimeLemmas.{FitsAt}
use Rattle.machine_model.proofs.OwnerLemmas.{owner_is}
use Rattle.machine_model.proofs.Consistent.FormLemmas.{KeptForm, Counts, IsExecs, of_execs, same_room}
use Rattle.machine_model.proofs.Processes.LimitLemmas.{size}
use Rattle.machine_model.proofs.Tables.ProcessLemmas.{none_of}
use Rattle.engine_text.specs.declared.container.Container.{Container}
use Rattle.engine_text.specs.declared.exec.Exec.{Exec}
use Rattle.engine_text.specs.declared.log.OwnedLog.{OwnedLog}
use Rattle.engine_text.specs.declared.owner.Owner.{Owner}
use Rattle.engine_text.specs.declared.owner.Owner.TheVariants.{Container as OfContainer, Exec as OfExec}
use Rattle.engine_text.specs.declared.step.DueAction.{DueAction}

-- ---- and back: execs

none_by : (p : Option Process) → ((q : Process) → p ≡ Some q → ⊥) → p ≡ None
none_by None k = refl
none_by (Some q) k = absurd (k q refl)

not_there : (o : Option Exec) → o ≡ None → is_there o ≡ true → ⊥
not_there None e h = absurd (cc)
not_there (Some x) e h = absurd (cc)

container_at : (s : State) (n : ℕ) (o : Option Container) → container_numbered n s ≡ o → is_there o ≡ true → (c : Container) × (container_numbered n s ≡ Some c)
container_at s n None e h = absurd (cc)
container_at s n (Some c) e h = (c, e)

watches_by : (s : State) (n : ℕ) (q : Process) (main : Option Process) → process_of (OfContainer n) s.processes ≡ main → IsFrozenLike (Some q) main → IsConsistent s → Watches (parts_of n s) q
watches_by s n q None e like h = absurd like
watches_by s n q (Some m) e like h =
    let stands : HasOwner s (OfContainer n) = owner_of (HasOwner s) (OfContainer n) m s.processes e h.processes.owners in
    let c = container_at s n (container_numbered n s) refl stands in
    let right : IsFrozenRight s c.0 = found_all (IsFrozenRight s) (λ d. d.number == n) c.0 s.containers c.1 h.processes.frozen in
    let is : c.0.number ≡ n = found_number n c.0 s.containers c.1 in
    let icy : is_frozen m.pace ≡ is_paused c.0.life.status = subst (IsFrozenAs (is_paused c.0.life.status)) (subst (λ k. process_of (OfContainer k) s.processes ≡ Some m) (sym is) e) right in
    (ap is_some e, subst (λ (o : Option Container). IcyAs (life_of o) q) (sym c.1) (like ∙ icy))

started_by : (b live : Bool) → live ≡ true → (b ≡ false → live ≡ false) → b ≡ true
started_by true live e k = refl
started_by false live e k = let no_way : false ≡ true = sym (k refl) ∙ e in absurd (cc)

exec_by : (s : State) (m : ℕ) (o : Option Exec) (p : Option Process) → exec_numbered m s ≡ o → process_of (OfExec m) s.processes ≡ p → IsConsistent s
    → ExecBy (λ k q. Watches (parts_of k s) q) o p
exec_by s m None p e f h =
    none_by p (λ q is. not_there (exec_numbered m s) e (owner_of (HasOwner s) (OfExec m) q s.processes (f ∙ is) h.processes.owners))
exec_by s m (Some x) None e f h =
    let is : x.number ≡ m = eqb-true x.number m (passes (λ (y : Exec). y.number == m) x s.execs e) in
    let pid : HasExecPid s x = found_all (HasExecPid s) (λ y. y.number == m) x s.execs e h.processes.exec_pids in
    pid ∙ (ap (λ k. is_some (process_of (OfExec k) s.processes)) is ∙ ap is_some f)
exec_by s m (Some x) (Some q) e f h =
    let is : x.number ≡ m = eqb-true x.number m (passes (λ (y : Exec). y.number == m) x s.execs e) in
    let at : process_of (OfExec x.number) s.processes ≡ Some q = subst (λ k. process_of (OfExec k) s.processes ≡ Some q) (sym is) f in
    let pid : HasExecPid s x = found_all (HasExecPid s) (λ y. y.number == m) x s.execs e h.processes.exec_pids in
    let fresh : IsUnstarted s x = found_all (IsUnstarted s) (λ y. y.number == m) x s.execs e h.execs.unstarted in
    let follows : FollowsMain s x = found_all (FollowsMain s) (λ y. y.number == m) x s.execs e h.processes.execs in
    let like : IsFrozenLike (Some q) (process_of (OfContainer x.container) s.processes) = subst (λ p. IsFrozenLike p (process_of (OfContainer x.container) s.processes)) at follows in
    (pid ∙ ap is_some at, started_by x.started (is_live (OfExec x.number) s) (ap is_some at) fresh, watches_by s x.container q (process_of (OfContainer x.container) s.processes) refl like h)

-- ---- rooms

log_by : (s : State) (m : ℕ) (o : Option Container) → container_numbered m s ≡ o → IsConsistent s → RoomBy (life_of o) (process_of (OfContainer m) s.processes)
log_by s m None e h = tt
log_by s m (Some c) e h =
    let room : HasLogRoom s c = found_all (HasLogRoom s) (λ d. d.number == m) c s.containers e h.going.logs in
    subst (λ k. log_size c.life.log + room_left (process_of (OfContainer k) s.processes) ≤ 4194304) (found_number m c s.containers e) room

output_fits : (s : State) (o : OwnedLog) → IsExecs o.owner → HasOutputRoom s o → OutputFits s.processes o
output_fits s o is room = let same : exec_room_in o.owner s.processes ≡ room_left (process_of o.owner s.processes) = same_room s.processes o.owner is in omega (arith, same, room)

rooms_of : (s : State) → IsConsistent s → Rooms s.containers s.execs s.processes s.outputs
rooms_of s h = record {
  mains = λ m. log_by s m (container_numbered m s) refl h;
  outputs = all_both (λ (o : OwnedLog). IsExecs o.owner) (HasOutputRoom s) (OutputFits s.processes) (λ o is room. output_fits s o is room) s.outputs (of_execs s.outputs s.execs h.execs.outputs) h.going.outputs;
  empty = λ m x e fresh.
      let is : x.number ≡ m = eqb-true x.number m (passes (λ (y : Exec). y.number == m) x s.execs e) in
      let none : HasNoOutput s x = found_all (HasNoOutput s) (λ y. y.number == m) x s.execs e h.execs.empty in
      subst (λ k. AllByRecursion (IsEmptyOf k) s.outputs) is
      (all_weaken (λ (o : OwnedLog). o.owner ≡ OfExec x.number → log_size o.log ≡ 0) (IsEmptyOf x.number) (λ o empty own. empty (owner_is o.owner (OfExec x.number) own)) s.outputs (none fresh));
}

-- ---- containers

timer_at : (s : State) (r m : ℕ) (o : Option DueAction) → timer_in r m s.timers ≡ o → is_there o ≡ true → IsConsistent s → (d : DueAction) × TimerStands s d × (d.rank ≡ r) × (d.number ≡ m)
timer_at s r m None e there h = absurd (cc)
timer_at s r m (Some d) e there h =
    let both = both_true (d.rank == r) (d.number == m) (passes (is_timer r m) d s.timers e) in
    (d, found_all (TimerStands s) (is_timer r m) d s.timers e h.timers.timers, eqb-true d.rank r both.0, eqb-true d.number m both.1)

off : (b : Bool) → (b ≡ true → ⊥) → b ≡ false
off true k = absurd (k refl)
off false k = refl

no_container : (o : Option Container) → o ≡ None → is_there o ≡ true → ⊥
no_container None e h = absurd (cc)
no_container (Some x) e h = absurd (cc)

no_timer : (s : State) (r m : ℕ) → container_numbered m s ≡ None → IsConsistent s → is_there (timer_in r m s.timers) ≡ false
no_timer s r m e h =
    off (is_there (timer_in r m s.timers))
    (λ there. let d = timer_at s r m (timer_in r m s.timers) refl there h in no_container (container_numbered m s) e (subst (λ k. is_there (container_numbered k s) ≡ true) d.3 d.1.container))

lives_then : (live b : Bool) → live ≡ true → (live || b) ≡ true
lives_then true b e = refl
lives_then false b e = absurd (cc)

rests_then : (live b : Bool) → b ≡ true → (live || b) ≡ true
rests_then true b e = refl
rests_then false b e = e

fine_at : (s : State) (c : Container) → container_numbered c.number s ≡ Some c → IsConsistent s
    → Fine c.life (parts_of c.number s).main (parts_of c.number s).stop (parts_of c.number s).removal (parts_of c.number s).restart
fine_at s c found h =
    let n : ℕ = c.number in
    let timer : HasTimer s c = found_all (HasTimer s) (λ d. d.number == n) c s.containers found h.timers.restarts in
    let program : HasProgram s c = found_all (HasProgram s) (λ d. d.number == n) c s.containers found h.going.programs in
    let removal : HasRemoval s c = found_all (HasRemoval s) (λ d. d.number == n) c s.containers found h.timers.removals in
    let deadline : (r : ℕ) → r ≤ 2 → is_there (timer_in r n s.timers) ≡ true → is_live (OfContainer n) s ≡ true =
    λ r low there. let d = timer_at s r n (timer_in r n s.timers) refl there h in subst (λ k. is_live (OfContainer k) s ≡ true) d.3 (d.1.deadline (omega (arith, d.2, low))) in (
      record {
        status = found_all (HasMain s) (λ d. d.number == n) c s.containers found h.processes.mains;
        frozen = found_all (IsFrozenRight s) (λ d. d.number == n) c s.containers found h.processes.frozen;
        pid = found_all (HasPid s) (λ d. d.number == n) c s.containers found h.processes.pids;
        stop = λ there. deadline 1 (omega arith) there;
        removal = λ there. (deadline 2 (omega arith) there, removal there);
        restart = timer;
        program = λ live. program_names c.life.words 1 (program (lives_then (is_live (OfContainer n) s) (is_restarting c.life.status) live));
        again = λ there. program_names c.life.words 1 (program (rests_then (is_live (OfContainer n) s) (is_restarting c.life.status) (sym timer ∙ there)));
        started = found_all (λ d. HasStarted d.life) (λ d. d.number == n) c s.containers found h.counts.started;
      },
      found_all (HasGoal s) (λ d. d.number == n) c s.containers found h.timers.goals,
    )

local_by : (s : State) (m : ℕ) (o : Option Container) → container_numbered m s ≡ o → IsConsistent s
    → OnBy Fine (life_of o) (parts_of m s).main (parts_of m s).stop (parts_of m s).removal (parts_of m s).restart
local_by s m None e h = (
  none_by (process_of (OfContainer m) s.processes) (λ q is. no_container (container_numbered m s) e (owner_of (HasOwner s) (OfContainer m) q s.processes is h.processes.owners)),
  no_timer s 1 m e h,
  no_timer s 2 m e h,
  no_timer s 3 m e h,
)
local_by s m (Some c) e h =
    let is : c.number ≡ m = found_number m c s.containers e in
    subst (λ k. Fine c.life (parts_of k s).main (parts_of k s).stop (parts_of k s).removal (parts_of k s).restart) is (fine_at s c (subst (λ k. container_numbered k s ≡ Some c) (sym is) e) h)

mains_of : (s : State) → IsConsistent s → PartsFit s
mains_of s h = (
  (
    distinct_front (map (λ c. c.number) s.containers) (map (λ x. x.number) s.execs) h.names.numbers,
    h.processes.single,
    h.timers.single,
    all_weaken (TimerStands s) IsRanked (λ d stands. record { least = stands.least; greatest = stands.greatest }) s.timers h.timers.timers,
    h.numbers.first_pid,
    distinct_back (map (λ c. c.number) s.containers) (map (λ x. x.number) s.execs) h.names.numbers,
    λ m. exec_by s m (exec_numbered m s) (process_of (OfExec m) s.processes) refl refl h,
    rooms_of s h,
  ),
  λ m. local_by s m (container_numbered m s) refl h,
)

-- ---- processes of execs and running execs

known_by : (q : Exec → Bool) (a b : Bool) (y : Exec) (l m : List Exec) → (a ≡ true → b ≡ true) → length l ≤ length m → length (if a then y ∷ l else l) ≤ length (if b then y ∷ m else m)
known_by q true true y l m k h = let one : length (y ∷ l) ≡ 1 + length l = omega arith in let two : length (y ∷ m) ≡ 1 + length m = omega arith in omega (arith, one, two, h)
known_by q true false y l m k h = let no_way : false ≡ true = k refl in absurd (cc)
known_by q false true y l m k h = let two : length (y ∷ m) ≡ 1 + length m = omega arith in omega (arith, two, h)
known_by q false false y l m k h = h

more_pass : (q r : Exec → Bool) (xs : List Exec) → ((y : Exec) → q y ≡ true → r y ≡ true) → length (filter q xs) ≤ length (filter r xs)
more_pass q r [] k = omega arith
more_pass q r (y ∷ ys) k = known_by q (q y) (r y) y (filter q ys) (filter r ys) (k y) (more_pass q r ys k)

first_by : (hit a b : Bool) (x y : Exec) (rest : Option Exec) (l m : List Exec) → (if hit then Some y else rest) ≡ Some x → (a ≡ true → b ≡ true) → (hit ≡ true → a ≡ false) → (hit ≡ true → b ≡ true) → length l ≤ length m
    → (rest ≡ Some x → 1 + length l ≤ length m) → 1 + length (if a then y ∷ l else l) ≤ length (if b then y ∷ m else m)
first_by true true b x y rest l m e k off on least more = let no_way : true ≡ false = off refl in absurd (cc)
first_by true false true x y rest l m e k off on least more = let two : length (y ∷ m) ≡ 1 + length m = omega arith in omega (arith, two, least)
first_by true false false x y rest l m e k off on least more = let no_way : false ≡ true = on refl in absurd (cc)
first_by false true true x y rest l m e k off on least more =
    let fewer : 1 + length l ≤ length m = more e in
    let one : length (y ∷ l) ≡ 1 + length l = omega arith in let two : length (y ∷ m) ≡ 1 + length m = omega arith in omega (arith, one, two, fewer)
first_by false true false x y rest l m e k off on least more = let no_way : false ≡ true = k refl in absurd (cc)
first_by false false true x y rest l m e k off on least more = let fewer : 1 + length l ≤ length m = more e in let two : length (y ∷ m) ≡ 1 + length m = omega arith in omega (arith, two, fewer)
first_by false false false x y rest l m e k off on least more = more e

one_passes : (p q r : Exec → Bool) (x : Exec) (xs : List Exec) → find p xs ≡ Some x → ((y : Exec) → q y ≡ true → r y ≡ true) → ((y : Exec) → p y ≡ true → q y ≡ false) → ((y : Exec) → p y ≡ true → r y ≡ true)
    → 1 + length (filter q xs) ≤ length (filter r xs)
one_passes p q r x [] e k off on = absurd (cc)
one_passes p q r x (y ∷ ys) e k off on =
    first_by (p y) (q y) (r y) x y (find p ys) (filter q ys) (filter r ys) e (k y) (off y) (on y) (more_pass q r ys k) (λ more. one_passes p q r x ys more k off on)

-- an exec's owner stands among these
abbrev KnownTo : List Exec → Owner → Type 0
KnownTo xs (OfContainer n) = Unit {0}
KnownTo xs (OfExec n) = IsTrue (is_there (find (λ x. x.number == n) xs))

exec_found : (o : Option Exec) → is_there o ≡ true → (x : Exec) × (o ≡ Some x)
exec_found None e = absurd (cc)
exec_found (Some x) e = (x, refl)

if_more : (b : Bool) (p : Process) (o : Option Process) → is_some o ≡ true → is_some (if b then Some p else o) ≡ true
if_more true p o h = refl
if_more false p o h = h

paid_cons : (o : Owner) (p : Process) (es : List Entry) (xs : List Exec) → KnownTo xs o → AllByRecursion (λ w. o ≢ w) (map (λ e. e.owner) es)
    → paid_for es ≤ length (filter (λ x. is_some (process_of (OfExec x.number) es)) xs)
    → execs_among (o ∷ map (λ e. e.owner) es) ≤ length (filter (λ x. is_some (if same_owner o (OfExec x.number) then Some p else process_of (OfExec x.number) es)) xs)
paid_cons (OfContainer n) p es xs known other h = h
paid_cons (OfExec n) p es xs known other h =
    let x = exec_found (find (λ x. x.number == n) xs) known in
    let none : process_of (OfExec n) es ≡ None = none_of (OfExec n) es other in
    let more : 1 + length (filter (λ (x : Exec). is_some (process_of (OfExec x.number) es)) xs) ≤ length (filter (λ x. is_some (if same_owner (OfExec n) (OfExec x.number) then Some p else process_of (OfExec x.number) es)) xs) =
    one_passes (λ x. x.number == n) (λ x. is_some (process_of (OfExec x.number) es)) (λ x. is_some (if n == x.number then Some p else process_of (OfExec x.number) es)) x.0 xs x.1
    (λ y live. if_more (n == y.number) p (process_of (OfExec y.number) es) live)
    (λ y is. subst (λ k. is_some (process_of (OfExec k) es) ≡ false) (sym (eqb-true y.number n is)) (ap is_some none))
    (λ y is. ap (λ b. is_some (if b then Some p else process_of (OfExec y.number) es)) (eq-eqb n y.number (sym (eqb-true y.number n is)))) in
    omega (arith, h, more)

paid_least : (es : List Entry) (xs : List Exec) → AreDistinct (map (λ e. e.owner) es) → AllByRecursion (λ e. KnownTo xs e.owner) es
    → paid_for es ≤ length (filter (λ x. is_some (process_of (OfExec x.number) es)) xs)
paid_least [] xs h known = omega arith
paid_least (e ∷ es) xs h known = paid_cons e.owner e.process es xs known.0 h.0 (paid_least es xs h.1 known.1)

known_of : (s : State) (o : Owner) → HasOwner s o → KnownTo s.execs o
known_of s (OfContainer n) h = tt
known_of s (OfExec n) h = h

-- ---- and back: all

counts_of : (s : State) → IsConsistent s → Counts s
counts_of s h = record {
  tickets = h.counts.tickets;
  steps = h.counts.steps;
  events = let least : paid_for s.processes ≤ length (live_execs s) = paid_least s.processes s.execs h.processes.single (all_weaken (λ (e : Entry). HasOwner s e.owner) (λ e. KnownTo s.execs e.owner) (λ e stands. known_of s e.owner stands) s.processes h.processes.owners) in
      omega (arith, least, h.counts.events);
  calls = h.counts.calls;
  next_number = h.numbers.next_number;
  next_ticket = h.numbers.next_ticket;
  next_pid = h.numbers.next_pid;
  starts = h.counts.starts;
  restarts = h.counts.restarts;
}

pub form_of : (s : State) → IsConsistent s → KeptForm s
form_of s h =
    let mains : PartsFit s = mains_of s h in
    let numbers : List ℕ = map (λ c. c.number) s.containers in
    let exec_numbers : List ℕ = map (λ x. x.number) s.execs in
    let acts : List DueAction = filter_map (λ e. action_at (owner_number e.owner) (next_due e.process)) s.processes in
    let below = all_back (λ n. n < s.next_number) numbers exec_numbers h.names.below in
    record {
      names = names_of s h.names;
      mains = mains;
      volumes = (h.volumes.stand, h.volumes.uses, mains.0.0, all_of_mapped (λ n. n < s.next_number) (λ (c : Container). c.number) s.containers (all_front (λ n. n < s.next_number) numbers exec_numbers h.names.below));
      tickets = tickets_of s h.tickets;
      execs = (h.execs.containers, h.execs.outputs, mains.0.5, all_of_mapped (λ n. n < s.next_number) (λ (x : Exec). x.number) s.execs below);
      times = (
        all_both (λ (e : Entry). proc.IsTimely s.clock e.process) (λ e. size e.process ≤ 1048576) (FitsAt s.clock) (λ e near fits. (near, fits)) s.processes h.going.times h.limits.input,
        all_back (λ (d : DueAction). s.clock ≤ d.moment) acts s.timers h.limits.dues,
      );
      clock = h.limits.clock;
      few = (h.ranges.mounts, mains.0.5, below);
      ranges = (h.numbers.first_pid, h.ranges.processes, h.ranges.lives, h.ranges.codes);
      past = (h.ranges.moments, h.ranges.volumes);
      counts = counts_of s h;
    }
