-- What due steps obey: which containers they find, what they tell, and what they run through.
use Rattle.std.proofs.Common.{◌≡◌, ◌≢◌, ℕ, ◌==◌, Bool, true, false, List, [], ◌∷◌, ◌++◌, Option, Some, None, find, map, if◌then◌else◌, not, refl, ap, sym, ◌∙◌, subst, arith, inl, inr}
use Rattle.std.proofs.lemmas.Bool.{eqb-true, eq-eqb}
use Rattle.std.proofs.lemmas.Bool.Decides.{eqb_tells}
use Rattle.std.specs.List.{AllByRecursion, filter_map, list_any, cons_option}
use Rattle.api_json.specs.Status.{is_paused, is_restarting}
use Rattle.container_table.specs.Timers.{is_timer, timer_in, is_before}
use Rattle.container_table.specs.Ranks.{rank_numbered}
use Rattle.container_table.specs.declared.rank.Rank.{Rank}
use Rattle.engine_text.specs.Owner.{same_owner}
use Rattle.proc_kernel.specs.Processes.{Process, run_due, next_due, due_of, is_frozen}
use Rattle.proc_kernel.specs.Tables.{Entry, process_of}
use Rattle.machine_model.specs.State.{State, container_numbered, exec_numbered, owner_number, clear_timer, timer_of}
use Rattle.machine_model.specs.Chain.{Effect, change, with_found, with_container}
use Rattle.machine_model.specs.EventTexts.{kill_event}
use Rattle.machine_model.specs.Due.{action_at, by_rank, due_actions, least_due, stop_deadline, time_out, died, removal_deadline, restarted, restart_timer, due_effect}
use Rattle.machine_model.specs.Effects.Meet.{step_process}
use Rattle.machine_model.specs.Consistency.{AreDistinct, is_there, HasOwner, IsFrozenAs, IsFrozenRight, TimerStands, HasTimer, HasRemoval, IsConsistent}
use Rattle.machine_model.specs.Step.{at_moment}
use Rattle.machine_model.specs.Summary.{summary_row}
use Rattle.machine_model.proofs.ListLemmas.{all_weaken, all_append, all_back, all_of_mapped, all_both}
use Rattle.machine_model.proofs.Processes.CodeLemmas.{coded_due}
use Rattle.machine_model.proofs.Fold.RowLemmas.{RowsBut, Same, Is, found_number, nobody, pin, whole, weaker, exact, same_some}
use Rattle.machine_model.proofs.Fold.TellLemmas.{Fit, Folded, Tells, folded_by, folded_still, tells_then, tells_from, tells_quiet, tells_apart, tells_with}
use Rattle.machine_model.proofs.ObeyLemmas.{found_all}
use Rattle.machine_model.proofs.Effects.LaunchLemmas.{Awake, awake_same, tells_launch}
use Rattle.machine_model.proofs.Effects.EndMainLemmas.{awake_renew, awake_mark}
use Rattle.machine_model.proofs.Effects.MeetLemmas.{tells_meet, tells_main_step, tells_exec_step}
use Rattle.machine_model.proofs.OwnerLemmas.{owner_is, same_owner-refl}
use Rattle.engine_text.specs.declared.container.Container.{Container}
use Rattle.engine_text.specs.declared.owner.Owner.{Owner}
use Rattle.engine_text.specs.declared.owner.Owner.TheVariants.{Container as OfContainer, Exec as OfExec}
use Rattle.engine_text.specs.declared.script.Pace.{Pace}
use Rattle.engine_text.specs.declared.script.Pace.TheVariants.{Running, Frozen}
use Rattle.engine_text.specs.declared.status.Status.{Status}
use Rattle.engine_text.specs.declared.step.DueAction.{DueAction}

-- ---- what a due action finds

-- the container of that number, if it stands, isn't paused
abbrev pub IsAwakeAt : State → ℕ → Type 0
IsAwakeAt s n = (c : Container) → container_numbered n s ≡ Some c → is_paused c.life.status ≡ false

-- what every due action but a stop deadline finds
abbrev pub FindsAwake : State → DueAction → Type 0
FindsAwake s d = d.rank ≢ 1 → IsAwakeAt s d.number

-- each process is that of its owner
own_by : (b : Bool) (x y : Entry) (rest : Option Process) → same_owner x.owner y.owner ≡ b → x.owner ≢ y.owner → rest ≡ Some y.process → (if b then Some x.process else rest) ≡ Some y.process
own_by true x y rest e other more = absurd (other (owner_is x.owner y.owner e))
own_by false x y rest e other more = more

own_behind : (x : Entry) (all es : List Entry) → AllByRecursion (λ o. x.owner ≢ o) (map (λ e. e.owner) es) → AllByRecursion (λ e. process_of e.owner all ≡ Some e.process) es
    → AllByRecursion (λ e. process_of e.owner (x ∷ all) ≡ Some e.process) es
own_behind x all [] other h = tt
own_behind x all (e ∷ es) other h = (own_by (same_owner x.owner e.owner) x e (process_of e.owner all) refl other.0 h.0, own_behind x all es other.1 h.1)

pub own_process : (es : List Entry) → AreDistinct (map (λ e. e.owner) es) → AllByRecursion (λ e. process_of e.owner es ≡ Some e.process) es
own_process [] h = tt
own_process (e ∷ es) h =
    (ap (λ b. if b then Some e.process else process_of e.owner es) (same_owner-refl e.owner), own_behind e es es h.0 (own_process es h.1))

-- ---- processes

frozen_due : (pace : Pace) (moment : ℕ) → is_frozen pace ≡ true → due_of pace ≡ Some moment → ⊥
frozen_due (Running at) moment e due = absurd (cc)
frozen_due (Frozen left) moment e due = absurd (cc)

-- a container whose process has an op due isn't paused
not_paused : (b : Bool) (p : Process) (moment : ℕ) → IsFrozenAs b (Some p) → next_due p ≡ Some moment → b ≡ false
not_paused false p moment h due = refl
not_paused true p moment h due = absurd (frozen_due p.pace moment h due)

awake_main : (s : State) (n moment : ℕ) (p : Process) → IsConsistent s → process_of (OfContainer n) s.processes ≡ Some p → next_due p ≡ Some moment → IsAwakeAt s n
awake_main s n moment p h is due c found =
    let right : IsFrozenRight s c = found_all (IsFrozenRight s) (λ d. d.number == n) c s.containers found h.processes.frozen in
    let frozen : IsFrozenAs (is_paused c.life.status) (process_of (OfContainer n) s.processes) =
    subst (λ m. IsFrozenAs (is_paused c.life.status) (process_of (OfContainer m) s.processes)) (found_number n c s.containers found) right in
    not_paused (is_paused c.life.status) p moment (subst (λ (o : Option Process). IsFrozenAs (is_paused c.life.status) o) is frozen) due

-- no container has an exec's number
apart_from : (P : ℕ → Type 0) (xs ys : List ℕ) → AreDistinct (xs ++ ys) → AllByRecursion (λ x. AllByRecursion (λ y. x ≢ y) ys) xs
apart_from P [] ys h = tt
apart_from P (x ∷ xs) ys h = (all_back (λ y. x ≢ y) xs ys h.0, apart_from P xs ys h.1)

exec_there : {A : Type 0} (p : A → Bool) (Q : A → Type 0) (xs : List A) (o : Option A) → find p xs ≡ o → is_there o ≡ true → AllByRecursion Q xs → (x : A) × (find p xs ≡ Some x) × Q x
exec_there p Q xs None e there all = absurd (cc)
exec_there p Q xs (Some x) e there all = (x, e, found_all Q p x xs e all)

passes_by : {A : Type 0} (p : A → Bool) (b : Bool) (x y : A) (rest : Option A) → p x ≡ b → (if b then Some x else rest) ≡ Some y → (rest ≡ Some y → p y ≡ true) → p y ≡ true
passes_by p true x y rest e found more = subst (λ z. p z ≡ true) (same_some x y found) e
passes_by p false x y rest e found more = more found

pub passes : {A : Type 0} (p : A → Bool) (y : A) (xs : List A) → find p xs ≡ Some y → p y ≡ true
passes p y [] found = absurd (cc)
passes p y (x ∷ xs) found = passes_by p (p x) x y (find p xs) refl found (passes p y xs)

pub exec_apart : (s : State) (n : ℕ) → IsConsistent s → HasOwner s (OfExec n) → (c : Container) → container_numbered n s ≡ Some c → ⊥
exec_apart s n h there c found =
    let apart = apart_from (λ n. Unit {0}) (map (λ c. c.number) s.containers) (map (λ x. x.number) s.execs) h.names.numbers in
    let other : AllByRecursion (λ y. c.number ≢ y) (map (λ x. x.number) s.execs) =
    found_all (λ d. AllByRecursion (λ y. d.number ≢ y) (map (λ x. x.number) s.execs)) (λ d. d.number == n) c s.containers found
    (all_of_mapped (λ m. AllByRecursion (λ y. m ≢ y) (map (λ x. x.number) s.execs)) (λ c. c.number) s.containers apart) in
    let x = exec_there (λ x. x.number == n) (λ x. c.number ≢ x.number) s.execs (exec_numbered n s) refl there
    (all_of_mapped (λ y. c.number ≢ y) (λ x. x.number) s.execs other) in
    let number : x.0.number ≡ n = eqb-true x.0.number n (passes (λ x. x.number == n) x.0 s.execs x.1) in
    x.2 (found_number n c s.containers found ∙ sym number)

awake_exec : (s : State) (n : ℕ) → IsConsistent s → HasOwner s (OfExec n) → IsAwakeAt s n
awake_exec s n h there c found = absurd (exec_apart s n h there c found)

awake_owner : (s : State) (o : Owner) (moment : ℕ) (p : Process) → IsConsistent s → HasOwner s o → process_of o s.processes ≡ Some p → next_due p ≡ Some moment → IsAwakeAt s (owner_number o)
awake_owner s (OfContainer n) moment p h there is due = awake_main s n moment p h is due
awake_owner s (OfExec n) moment p h there is due = awake_exec s n h there

all_actions_by : (P : DueAction → Type 0) (n : ℕ) (o : Option ℕ) (rest : List DueAction) → ((moment : ℕ) → o ≡ Some moment → P (record { moment = moment; rank = 0; number = n }))
    → AllByRecursion P rest → AllByRecursion P (cons_option (action_at n o) rest)
all_actions_by P n None rest one more = more
all_actions_by P n (Some moment) rest one more = (one moment refl, more)

pub all_actions : (P : DueAction → Type 0) (es : List Entry)
    → AllByRecursion (λ e. (moment : ℕ) → next_due e.process ≡ Some moment → P (record { moment = moment; rank = 0; number = owner_number e.owner })) es
    → AllByRecursion P (filter_map (λ e. action_at (owner_number e.owner) (next_due e.process)) es)
all_actions P [] h = tt
all_actions P (e ∷ es) h = all_actions_by P (owner_number e.owner) (next_due e.process) _ h.0 (all_actions P es h.1)

-- ---- timers

there_by : (b : Bool) (x : DueAction) (rest : Option DueAction) → is_there rest ≡ true → is_there (if b then Some x else rest) ≡ true
there_by true x rest h = refl
there_by false x rest h = h

there_behind : (x : DueAction) (all ds : List DueAction) → AllByRecursion (λ d. is_there (timer_in d.rank d.number all) ≡ true) ds
    → AllByRecursion (λ d. is_there (timer_in d.rank d.number (x ∷ all)) ≡ true) ds
there_behind x all [] h = tt
there_behind x all (d ∷ ds) h = (there_by (is_timer d.rank d.number x) x (timer_in d.rank d.number all) h.0, there_behind x all ds h.1)

is_own : (d : DueAction) → is_timer d.rank d.number d ≡ true
is_own d = rw (eq-eqb d.rank d.rank refl) (eq-eqb d.number d.number refl)

pub all_there : (ds : List DueAction) → AllByRecursion (λ d. is_there (timer_in d.rank d.number ds) ≡ true) ds
all_there [] = tt
all_there (d ∷ ds) = (ap (λ b. is_there (if b then Some d else timer_in d.rank d.number ds)) (is_own d), there_behind d ds ds (all_there ds))

pub restarting_calm : (u : Status) → is_restarting u ≡ true → is_paused u ≡ false
restarting_calm Status.Restarting e = refl
restarting_calm Status.Created e = refl
restarting_calm Status.Running e = refl
restarting_calm Status.Paused e = absurd (cc)
restarting_calm Status.Removing e = refl
restarting_calm Status.Exited e = refl
restarting_calm Status.Dead e = refl

-- by the rank, which is 2 or 3
awake_timer : (s : State) (d : DueAction) → IsConsistent s → TimerStands s d → is_there (timer_in d.rank d.number s.timers) ≡ true → FindsAwake s d
awake_timer s d h stands there other c found =
    let is : c.number ≡ d.number = found_number d.number c s.containers found in
    elim (eqb_tells d.rank 3) [
      | inl e ↦
          let timer : is_there (timer_of Rank.RestartTimer c.number s) ≡ true = subst (λ m. is_there (timer_of Rank.RestartTimer m s) ≡ true) (sym is) (subst (λ r. is_there (timer_in r d.number s.timers) ≡ true) e.1 there) in
          let right : HasTimer s c = found_all (HasTimer s) (λ x. x.number == d.number) c s.containers found h.timers.restarts in
          restarting_calm c.life.status (sym right ∙ timer)
      | inr e ↦
          let two : d.rank ≡ 2 = omega (arith, e.1, other, stands.least, stands.greatest) in
          let timer : is_there (timer_of Rank.RemovalDeadline c.number s) ≡ true = subst (λ m. is_there (timer_of Rank.RemovalDeadline m s) ≡ true) (sym is) (subst (λ r. is_there (timer_in r d.number s.timers) ≡ true) two there) in
          let right : HasRemoval s c = found_all (HasRemoval s) (λ x. x.number == d.number) c s.containers found h.timers.removals in
          ap is_paused (right timer)
    ]

-- ---- all that is due

pub all_find_awake : (s : State) → IsConsistent s → AllByRecursion (FindsAwake s) (due_actions s)
all_find_awake s h =
    all_append (FindsAwake s) (filter_map (λ e. action_at (owner_number e.owner) (next_due e.process)) s.processes) s.timers
    (all_actions (FindsAwake s) s.processes
    (all_both (λ (e : Entry). HasOwner s e.owner) (λ (e : Entry). process_of e.owner s.processes ≡ Some e.process) _
    (λ e there is moment due other. awake_owner s e.owner moment e.process h there is due) s.processes h.processes.owners (own_process s.processes h.processes.single)))
    (all_both (TimerStands s) (λ d. is_there (timer_in d.rank d.number s.timers) ≡ true) (FindsAwake s)
    (λ d stands there. awake_timer s d h stands there) s.timers h.timers.timers (all_there s.timers))

pub least_finds : (s : State) (d : DueAction) → IsConsistent s → least_due s ≡ Some d → FindsAwake s d
least_finds s d h e = found_all (FindsAwake s) (λ d. not (list_any (λ e. is_before e d) (due_actions s))) d (due_actions s) e (all_find_awake s h)

-- ---- execs that are due

owner_at : (P : Owner → Type 0) (o : Owner) (b : Bool) (e : Entry) (q : Process) (rest : Option Process) → same_owner e.owner o ≡ b → P e.owner → (if b then Some e.process else rest) ≡ Some q → (rest ≡ Some q → P o) → P o
owner_at P o true e q rest is pe found more = subst P (owner_is e.owner o is) pe
owner_at P o false e q rest is pe found more = more found

pub owner_of : (P : Owner → Type 0) (o : Owner) (q : Process) (es : List Entry) → process_of o es ≡ Some q → AllByRecursion (λ e. P e.owner) es → P o
owner_of P o q [] found h = absurd (cc)
owner_of P o q (e ∷ es) found h = owner_at P o (same_owner e.owner o) e q (process_of o es) refl h.0 found (λ more. owner_of P o q es more h.1)

-- the exec of that number isn't frozen
abbrev pub Goes : State → ℕ → Type 0
Goes s k = (q : Process) → process_of (OfExec k) s.processes ≡ Some q → is_frozen q.pace ≡ false

unfrozen : (b : Bool) (p : Process) (moment : ℕ) → is_frozen p.pace ≡ b → next_due p ≡ Some moment → b ≡ false
unfrozen true p moment e due = absurd (frozen_due p.pace moment e due)
unfrozen false p moment e due = refl

goes_there : (s : State) (n : ℕ) (o : Option Container) → container_numbered n s ≡ o → is_there o ≡ true → IsConsistent s → Goes s n
goes_there s n None e there h q found = absurd (cc)
goes_there s n (Some c) e there h q found = absurd (exec_apart s n h (owner_of (HasOwner s) (OfExec n) q s.processes found h.processes.owners) c e)

goes_from : (s : State) (o : Owner) (p : Process) (moment : ℕ) → IsConsistent s → HasOwner s o → process_of o s.processes ≡ Some p → next_due p ≡ Some moment → Goes s (owner_number o)
goes_from s (OfContainer n) p moment h there is due q found = goes_there s n (container_numbered n s) refl there h q found
goes_from s (OfExec n) p moment h there is due q found =
    let same : p ≡ q = same_some p q (sym is ∙ found) in
    subst (λ (r : Process). is_frozen r.pace ≡ false) same (unfrozen (is_frozen p.pace) p moment refl due)

pub least_goes : (s : State) (d : DueAction) → IsConsistent s → least_due s ≡ Some d → d.rank ≡ 0 → Goes s d.number
least_goes s d h e =
    found_all (λ (d : DueAction). (d.rank ≡ 0) → Goes s d.number) (λ d. not (list_any (λ e. is_before e d) (due_actions s))) d (due_actions s) e
    (all_append (λ (d : DueAction). (d.rank ≡ 0) → Goes s d.number) (filter_map (λ e. action_at (owner_number e.owner) (next_due e.process)) s.processes) s.timers
    (all_actions (λ (d : DueAction). (d.rank ≡ 0) → Goes s d.number) s.processes
    (all_both (λ (e : Entry). HasOwner s e.owner) (λ (e : Entry). process_of e.owner s.processes ≡ Some e.process) _
    (λ e there is moment due zero. goes_from s e.owner e.process moment h there is due) s.processes h.processes.owners (own_process s.processes h.processes.single)))
    (all_weaken (TimerStands s) (λ (d : DueAction). (d.rank ≡ 0) → Goes s d.number) (λ d stands zero. absurd (omega (arith, zero, stands.least))) s.timers h.timers.timers))

-- ---- what it tells

awake_by : (s : State) (n : ℕ) (o : Option Container) → container_numbered n s ≡ o → ((c : Container) → o ≡ Some c → is_paused c.life.status ≡ false) → Fit s
    → RowsBut n Awake (map summary_row s.containers) s.containers
awake_by s n None e calm fit = nobody n Same Awake _ s.containers e (whole n s.containers)
awake_by s n (Some c) e calm fit =
    weaker n (Is c Same) Awake (λ r d id h. (h.1, ap (λ (x : Container). is_paused x.life.status) h.0 ∙ calm c refl)) _ s.containers
    (pin n c Same _ s.containers fit.1 e (whole n s.containers))

pub folded_awake : (s : State) (n : ℕ) (e : State → Effect) → Tells n Awake e Awake → IsAwakeAt s n → Fit s → Folded s (e s)
folded_awake s n e tells awake fit =
    let a = tells.holds s _ fit (awake_by s n (container_numbered n s) refl awake fit) in
    (exact n _ (e s).state.containers (weaker n Awake Same awake_same _ (e s).state.containers a.1), (a.0.2, a.0.3, a.0.4, a.0.5))

op_of : (s : State) (o : Owner) → IsAwakeAt s (owner_number o) → Fit s → Folded s (step_process run_due o s)
op_of s (OfContainer n) awake fit = folded_awake s n (step_process run_due (OfContainer n)) (tells_main_step run_due n coded_due) awake fit
op_of s (OfExec n) awake fit = folded_by 0 Same (step_process run_due (OfExec n)) s (λ r c id h. h) (tells_exec_step run_due n coded_due) fit

op_by : (s : State) (n : ℕ) (o : Option Entry) → find (λ e. owner_number e.owner == n) s.processes ≡ o → IsAwakeAt s n → Fit s
    → Folded s (with_found o (λ (e : Entry). step_process run_due e.owner) s)
op_by s n None e awake fit = folded_still s fit
op_by s n (Some x) e awake fit =
    let is : owner_number x.owner ≡ n = eqb-true (owner_number x.owner) n (passes (λ (e : Entry). owner_number e.owner == n) x s.processes e) in
    op_of s x.owner (subst (IsAwakeAt s) (sym is) awake) fit

tells_stop : (n : ℕ) → Tells n Same (stop_deadline n) Awake
tells_stop n =
    tells_then (tells_apart (clear_timer Rank.StopDeadline n) (λ s. refl) (λ s fit. fit)) (tells_then (tells_quiet n (kill_event 9) (λ c t rs. refl)) (tells_meet 9 n (omega arith)))

tells_removal : (n : ℕ) → Tells n Awake (removal_deadline n) Awake
tells_removal n =
    let times : Tells n Awake (with_container n (λ c. change (time_out c))) Awake =
    tells_with (λ c. change (time_out c)) (λ c is. tells_from (λ r d id h. h.1) (tells_apart (time_out c) (λ s. refl) (λ s fit. fit))) in
    tells_then (tells_apart (clear_timer Rank.RemovalDeadline n) (λ s. refl) (λ s fit. fit)) (tells_then (awake_renew died (λ l h. h) (λ c. refl) (λ l. refl)) times)

tells_restart : (n : ℕ) → Tells n Awake (restart_timer n) Awake
tells_restart n =
    tells_then (tells_apart (clear_timer Rank.RestartTimer n) (λ s. refl) (λ s fit. fit)) (tells_then (awake_mark restarted (λ l h. h) (λ c. refl) (λ l. refl)) (tells_launch n))

by : (s : State) (rank n : ℕ) (r : Rank) → rank_numbered rank ≡ r → (rank ≢ 1 → IsAwakeAt s n) → Fit s → Folded s (by_rank r n s)
by s rank n Rank.Op e awake fit =
    op_by s n (find (λ e. owner_number e.owner == n) s.processes) refl (awake (λ is. absurd (cc (e, ap rank_numbered is)))) fit
by s rank n Rank.StopDeadline e awake fit = folded_by n Awake (stop_deadline n) s awake_same (tells_stop n) fit
by s rank n Rank.RemovalDeadline e awake fit =
    folded_awake s n (removal_deadline n) (tells_removal n) (awake (λ is. absurd (cc (e, ap rank_numbered is)))) fit
by s rank n Rank.RestartTimer e awake fit =
    folded_awake s n (restart_timer n) (tells_restart n) (awake (λ is. absurd (cc (e, ap rank_numbered is)))) fit

-- a due action, at its moment
pub due_folds : (s : State) (d : DueAction) → FindsAwake s d → Fit s → Folded s (due_effect d (at_moment d.moment s))
due_folds s d awake fit = by (at_moment d.moment s) d.rank d.number (rank_numbered d.rank) refl awake fit
