-- What a step before the end of it keeps, so that the container may still settle.
use Rattle.std.proofs.Common.{◌≡◌, ℕ, ◌+◌, ◌==◌, ◌<◌, ◌≤◌, ◌^◌, ◌||◌, Bool, true, false, List, [], ◌∷◌, Option, Some, None, refl, ap, sym, ◌∙◌, subst, arith, find, map, filter, length, suc, if◌then◌else◌, vec_capacity}
use Rattle.std.specs.Prelude.{option_map}
use Rattle.std.specs.List.{list_any}
use Rattle.engine_text.specs.Scripts.{Program}
use Rattle.engine_text.specs.declared.container.Container.{Container}
use Rattle.engine_text.specs.declared.container.Life.{Life}
use Rattle.engine_text.specs.declared.container.Goal.{Goal}
use Rattle.engine_text.specs.declared.exec.Exec.{Exec}
use Rattle.engine_text.specs.Owner.{same_owner}
use Rattle.engine_text.specs.declared.container.Removed.{Removed}
use Rattle.engine_text.specs.declared.log.KeptLogs.{KeptLogs}
use Rattle.engine_text.specs.declared.log.OwnedLog.{OwnedLog}
use Rattle.engine_text.specs.declared.owner.Owner.{Owner}
use Rattle.proc_kernel.specs.Tables.{Entry}
use Rattle.engine_text.specs.declared.event.Event.{Event}
use Rattle.engine_text.specs.declared.event.Action.{Action}
use Rattle.std.proofs.lemmas.Bool.{eqb-true}
use Rattle.engine_text.specs.declared.status.Status.{Status}
use Rattle.engine_text.specs.declared.step.DueAction.{DueAction}
use Rattle.container_table.specs.Lists.{update_first, remove_first}
use Rattle.container_table.specs.Timers.{is_timer}
use Rattle.proc_kernel.specs.Catalogue.{program_of}
use Rattle.container_table.specs.Ranks.{number_of}
use Rattle.container_table.specs.declared.rank.Rank.{Rank}
use Rattle.machine_model.specs.State.{State, container_numbered, exec_numbered, running_execs, change_life, drop_process, change_exec, clear_timer}
use Rattle.machine_model.specs.EventTexts.{exec_die_event, plain_event}
use Rattle.machine_model.specs.Chain.{Effect, and_then, change, tell_of, with_found}
use Rattle.machine_model.specs.Effects.EndMain.{end_exec, exec_ended, end_execs, die, clear_deadlines, by_status, by_goal, exited, removed_if, stay, follow, decision_at}
use Rattle.machine_model.specs.Effects.Launch.{launch, launch_by_call, launch_program, container_room}
use Rattle.machine_model.proofs.ChainLemmas.{Keeps, keeps_each}
use Rattle.machine_events.specs.Memory.{Room}
use Rattle.machine_events.specs.ChangedLives.{changed_life, renewed}
use Rattle.machine_events.specs.Fit.{AreFew, CanLaunch, CanLaunchNext, CanRemove, CanSettle, HasGoal, exec_numbers, next_script, outputs_of}
use Rattle.machine_events.specs.Outputs.{is_output_of}
use Rattle.machine_events.specs.declared.end_memory.EndMemory.{EndMemory}
use Rattle.machine_events.specs.Effects.EndMain.{begun, followed, goal_effect, concluded}
use Rattle.machine_model.proofs.UpdateLemmas.{All_updated, length_updated}
use Rattle.container_table.specs.declared.life_change.LifeChange.{LifeChange}

-- ---- tellings change nothing

pub told : (s : State) (o : Option Container) (f : Container → State → Effect) → ((c : Container) (z : State) → (f c z).state ≡ z) → (with_found o f s).state ≡ s
told s None f still = refl
told s (Some c) f still = still c s

-- ---- what is found of a container that is changed

found_either : {A : Type 0} (p : A → Bool) (f : A → A) (b : Bool) (x : A) (xs ys : List A) → p x ≡ b → p (f x) ≡ p x → find p ys ≡ option_map f (find p xs) → find p (if b then f x ∷ xs else x ∷ ys) ≡ option_map f (if b then Some x else find p xs)
found_either p f true x xs ys e k h = rw (k ∙ e) refl
found_either p f false x xs ys e k h = rw e h

pub found_updated : {A : Type 0} (p : A → Bool) (f : A → A) (xs : List A) → ((x : A) → p (f x) ≡ p x) → find p (update_first p f xs) ≡ option_map f (find p xs)
found_updated p f [] keeps = refl
found_updated p f (x ∷ xs) keeps = found_either p f (p x) x xs (update_first p f xs) refl (keeps x) (found_updated p f xs keeps)

-- ---- changes of a life

pub life_change_words : (m : LifeChange) (l : Life) → (changed_life m l).words ≡ l.words
life_change_words LifeChange.ByHand l = refl
life_change_words LifeChange.Running l = refl
life_change_words LifeChange.Paused l = refl
life_change_words LifeChange.Exited l = refl
life_change_words LifeChange.Cancelled l = refl
life_change_words LifeChange.Died l = refl
life_change_words LifeChange.Removing l = refl
life_change_words LifeChange.Stopping l = refl
life_change_words LifeChange.ToRestart l = refl
life_change_words LifeChange.Afresh l = refl
life_change_words LifeChange.NoGoal l = refl
life_change_words LifeChange.ToRemove l = refl
life_change_words (LifeChange.Restarted count) l = refl
life_change_words (LifeChange.Waiting delay) l = refl
life_change_words (LifeChange.Ended code moment) l = refl
life_change_words (LifeChange.Governed policy) l = refl

pub life_change_starts : (m : LifeChange) (l : Life) → (changed_life m l).starts ≡ l.starts
life_change_starts LifeChange.ByHand l = refl
life_change_starts LifeChange.Running l = refl
life_change_starts LifeChange.Paused l = refl
life_change_starts LifeChange.Exited l = refl
life_change_starts LifeChange.Cancelled l = refl
life_change_starts LifeChange.Died l = refl
life_change_starts LifeChange.Removing l = refl
life_change_starts LifeChange.Stopping l = refl
life_change_starts LifeChange.ToRestart l = refl
life_change_starts LifeChange.Afresh l = refl
life_change_starts LifeChange.NoGoal l = refl
life_change_starts LifeChange.ToRemove l = refl
life_change_starts (LifeChange.Restarted count) l = refl
life_change_starts (LifeChange.Waiting delay) l = refl
life_change_starts (LifeChange.Ended code moment) l = refl
life_change_starts (LifeChange.Governed policy) l = refl

named_by : (f : Life → Life) → ((l : Life) → (f l).words ≡ l.words) → ((l : Life) → (f l).starts ≡ l.starts) → (script : Option Program) (o : Option Container) → ((c : Container) → o ≡ Some c → script ≡ program_of c.life.words (c.life.starts + 1))
    → (c : Container) → option_map (renewed f) o ≡ Some c → script ≡ program_of c.life.words (c.life.starts + 1)
named_by f ws st script None named c e = absurd (cc)
named_by f ws st script (Some d) named c e =
    let is : renewed f d ≡ c = cc in
    let first : script ≡ program_of d.life.words (d.life.starts + 1) = named d refl in
    let second : program_of d.life.words (d.life.starts + 1) ≡ program_of (f d.life).words ((f d.life).starts + 1) =
    ap (λ w. program_of w (d.life.starts + 1)) (sym (ws d.life)) ∙ ap (λ k. program_of (f d.life).words (k + 1)) (sym (st d.life)) in
    first ∙ (second ∙ ap (λ (x : Container). program_of x.life.words (x.life.starts + 1)) is)

next_kept : (g : Goal) (f : Life → Life) (d : Container) → (f d.life).words ≡ d.life.words → (f d.life).starts ≡ d.life.starts → next_script g d ≡ next_script g (renewed f d)
next_kept Goal.Remove f d ws st = refl
next_kept Goal.Stop f d ws st = refl
next_kept Goal.Restart f d ws st = ap (λ w. program_of w (d.life.starts + 1)) (sym ws) ∙ ap (λ k. program_of (f d.life).words (k + 1)) (sym st)
next_kept Goal.None f d ws st = refl

next_by : (f : Life → Life) → ((l : Life) → (f l).words ≡ l.words) → ((l : Life) → (f l).starts ≡ l.starts) → ((l : Life) → (f l).goal ≡ l.goal) → (script : Option Program) (o : Option Container) → ((c : Container) → o ≡ Some c → script ≡ next_script c.life.goal c)
    → (c : Container) → option_map (renewed f) o ≡ Some c → script ≡ next_script c.life.goal c
next_by f ws st gl script None named c e = absurd (cc)
next_by f ws st gl script (Some d) named c e =
    let is : renewed f d ≡ c = cc in
    let first : script ≡ next_script d.life.goal d = named d refl in
    let second : next_script d.life.goal d ≡ next_script (f d.life).goal (renewed f d) =
    next_kept d.life.goal f d (ws d.life) (st d.life) ∙ ap (λ g. next_script g (renewed f d)) (sym (gl d.life)) in
    first ∙ (second ∙ ap (λ (x : Container). next_script x.life.goal x) is)

-- ---- what a removal finds

-- two states with the same execs by number, the same outputs by owner, and as many removals
pub record IsAlike (n : ℕ) (s t : State) : Type 0 where
  pub removed : t.removed ≡ s.removed
  pub kept : t.kept ≡ s.kept
  pub numbers : exec_numbers n t ≡ exec_numbers n s
  pub outputs : length (outputs_of n t) ≡ length (outputs_of n s)

pub remove_alike : (n : ℕ) (brought : EndMemory) (room : Room) (s t : State) → IsAlike n s t → CanRemove n brought room s → CanRemove n brought room t
remove_alike n brought room s t a h = record {
  removed = subst (λ (l : List Removed). length l < room.removed) (sym a.removed) h.removed;
  kept = subst (λ (l : List KeptLogs). length l < room.kept) (sym a.kept) h.kept;
  numbers = h.numbers ∙ sym a.numbers;
  empty = h.empty;
  logs = subst (λ k. k + 1 ≤ vec_capacity brought.logs) (sym a.outputs) h.logs;
}

-- the same containers, processes apart
pub launch_alike : (n : ℕ) (script : Option Program) (s t : State) → t.containers ≡ s.containers → t.next_pid ≡ s.next_pid → CanLaunch n script s → CanLaunch n script t
launch_alike n script s t cs pid h = record {
  few = subst (λ (l : List Container). AreFew l) (sym cs) h.few;
  pid = subst (λ k. k < 2 ^ 63) (sym pid) h.pid;
  named = λ c at. h.named c (ap (find (λ (d : Container). d.number == n)) (sym cs) ∙ at);
}

pub next_alike : (n : ℕ) (script : Option Program) (s t : State) → t.containers ≡ s.containers → t.next_pid ≡ s.next_pid → CanLaunchNext n script s → CanLaunchNext n script t
next_alike n script s t cs pid h = record {
  few = subst (λ (l : List Container). AreFew l) (sym cs) h.few;
  pid = subst (λ k. k < 2 ^ 63) (sym pid) h.pid;
  named = λ c at. h.named c (ap (find (λ (d : Container). d.number == n)) (sym cs) ∙ at);
}

numbers_either : {A B : Type 0} (h : A → B) (p : A → Bool) (b d : Bool) (x y : A) (xs ys : List A) → p y ≡ d → p x ≡ d → h y ≡ h x → map h (filter p ys) ≡ map h (filter p xs)
    → map h (filter p (if b then y ∷ xs else x ∷ ys)) ≡ map h (if d then x ∷ filter p xs else filter p xs)
numbers_either h p true true x y xs ys e k same rest = ap (λ c. map h (if c then y ∷ filter p xs else filter p xs)) e ∙ ap (λ z. z ∷ map h (filter p xs)) same
numbers_either h p true false x y xs ys e k same rest = ap (λ c. map h (if c then y ∷ filter p xs else filter p xs)) e
numbers_either h p false true x y xs ys e k same rest = ap (λ c. map h (if c then x ∷ filter p ys else filter p ys)) k ∙ ap (λ l. h x ∷ l) rest
numbers_either h p false false x y xs ys e k same rest = ap (λ c. map h (if c then x ∷ filter p ys else filter p ys)) k ∙ rest

-- a change that leaves the test and the name leaves the names of those that pass
pub names_updated : {A B : Type 0} (h : A → B) (p q : A → Bool) (f : A → A) (xs : List A) → ((x : A) → p (f x) ≡ p x) → ((x : A) → h (f x) ≡ h x) → map h (filter p (update_first q f xs)) ≡ map h (filter p xs)
names_updated h p q f [] keeps same = refl
names_updated h p q f (x ∷ xs) keeps same = numbers_either h p (q x) (p x) x (f x) xs (update_first q f xs) (keeps x) refl (same x) (names_updated h p q f xs keeps same)

any_either : {A B : Type 0} (q : B → Bool) (g : A → B) (x : A) (xs : List A) → list_any (λ y. q (g y)) xs ≡ list_any q (map g xs) → list_any (λ y. q (g y)) (x ∷ xs) ≡ list_any q (g x ∷ map g xs)
any_either q g x xs e = ap (λ b. q (g x) || b) e

any_mapped : {A B : Type 0} (q : B → Bool) (g : A → B) (xs : List A) → list_any (λ y. q (g y)) xs ≡ list_any q (map g xs)
any_mapped q g [] = refl
any_mapped q g (x ∷ xs) = any_either q g x xs (any_mapped q g xs)

-- whether an output is one of these execs goes by their numbers
pub is_output_by : (n : ℕ) (xs ys : List Exec) (o : OwnedLog) → map (λ (x : Exec). x.number) (filter (λ (x : Exec). x.container == n) ys) ≡ map (λ (x : Exec). x.number) (filter (λ (x : Exec). x.container == n) xs) → is_output_of n ys o ≡ is_output_of n xs o
is_output_by n xs ys o e =
    any_mapped (λ k. same_owner o.owner (Owner.Exec k)) (λ (x : Exec). x.number) (filter (λ (x : Exec). x.container == n) ys)
    ∙ (ap (list_any (λ k. same_owner o.owner (Owner.Exec k))) e
    ∙ sym (any_mapped (λ k. same_owner o.owner (Owner.Exec k)) (λ (x : Exec). x.number) (filter (λ (x : Exec). x.container == n) xs)))

kept_either : {A : Type 0} (b d : Bool) (x : A) (xs ys : List A) → b ≡ d → xs ≡ ys → (if b then x ∷ xs else xs) ≡ (if d then x ∷ ys else ys)
kept_either b d x xs ys e h = cc

pub filter_same_test : {A : Type 0} (p q : A → Bool) → ((x : A) → p x ≡ q x) → (xs : List A) → filter p xs ≡ filter q xs
filter_same_test p q same [] = refl
filter_same_test p q same (x ∷ xs) = kept_either (p x) (q x) x (filter p xs) (filter q xs) (same x) (filter_same_test p q same xs)

alike_exec_ended : (n k code : ℕ) (s : State) → IsAlike n s (change_exec k (exec_ended code) (drop_process (Owner.Exec k) s))
alike_exec_ended n k code s =
    let names : exec_numbers n (change_exec k (exec_ended code) s) ≡ exec_numbers n s = names_updated (λ (x : Exec). x.number) (λ (x : Exec). x.container == n) (λ (x : Exec). x.number == k) (exec_ended code) s.execs (λ x. refl) (λ x. refl) in
    record {
      removed = refl;
      kept = refl;
      numbers = names;
      outputs = ap length (filter_same_test (is_output_of n (change_exec k (exec_ended code) s).execs) (is_output_of n s.execs) (λ o. is_output_by n s.execs (change_exec k (exec_ended code) s).execs o names) s.outputs);
    }

few_changed : (n : ℕ) (f : Life → Life) → ((l : Life) → (f l).starts ≡ l.starts) → (s : State) → AreFew s.containers → AreFew (change_life n f s).containers
few_changed n f st s few =
    All_updated (λ (c : Container). c.life.starts < 2 ^ 63) (λ (c : Container). c.life.starts < 2 ^ 63) (λ (c : Container). c.number == n) (renewed f)
    (λ c p. subst (λ k. k < 2 ^ 63) (sym (st c.life)) p) (λ c p. p) s.containers few

pub few_renew : (n : ℕ) (m : LifeChange) (s : State) → AreFew s.containers → AreFew (change_life n (changed_life m) s).containers
few_renew n m s few = few_changed n (changed_life m) (life_change_starts m) s few

-- a change of the life that leaves its words and its starts
pub launch_changed : (n : ℕ) (script : Option Program) (f : Life → Life) → ((l : Life) → (f l).words ≡ l.words) → ((l : Life) → (f l).starts ≡ l.starts) → (s : State) → CanLaunch n script s → CanLaunch n script (change_life n f s)
launch_changed n script f ws st s h = record {
  few = few_changed n f st s h.few;
  pid = h.pid;
  named = λ c e. named_by f ws st script (container_numbered n s) h.named c (sym (found_updated (λ (d : Container). d.number == n) (renewed f) s.containers (λ d. refl)) ∙ e);
}

pub launch_renew : (n : ℕ) (script : Option Program) (m : LifeChange) (s : State) → CanLaunch n script s → CanLaunch n script (change_life n (changed_life m) s)
launch_renew n script m s h = launch_changed n script (changed_life m) (life_change_words m) (life_change_starts m) s h

-- so does one that leaves its goal too
next_renew : (n : ℕ) (script : Option Program) (m : LifeChange) → ((l : Life) → (changed_life m l).goal ≡ l.goal) → (s : State) → CanLaunchNext n script s → CanLaunchNext n script (change_life n (changed_life m) s)
next_renew n script m gl s h = record {
  few = few_renew n m s h.few;
  pid = h.pid;
  named = λ c e. next_by (changed_life m) (life_change_words m) (life_change_starts m) gl script (container_numbered n s) h.named c (sym (found_updated (λ (d : Container). d.number == n) (renewed (changed_life m)) s.containers (λ d. refl)) ∙ e);
}

-- a change of the container's life that leaves its goal
pub settle_renew : (n : ℕ) (brought : EndMemory) (room : Room) (m : LifeChange) → ((l : Life) → (changed_life m l).goal ≡ l.goal) → (s : State) → CanSettle n brought room s → CanSettle n brought room (change_life n (changed_life m) s)
settle_renew n brought room m gl s h = record {
  clock = h.clock;
  launch = next_renew n brought.script m gl s h.launch;
  remove = remove_alike n brought room s (change_life n (changed_life m) s) (record { removed = refl; kept = refl; numbers = refl; outputs = refl }) h.remove;
  execs = h.execs;
  timers = h.timers;
}

settle_exec : (n : ℕ) (brought : EndMemory) (room : Room) (k code : ℕ) (s : State) → CanSettle n brought room s → CanSettle n brought room (change_exec k (exec_ended code) (drop_process (Owner.Exec k) s))
settle_exec n brought room k code s h =
    let t : State = change_exec k (exec_ended code) (drop_process (Owner.Exec k) s) in
    record {
      clock = h.clock;
      launch = next_alike n brought.script s t refl refl h.launch;
      remove = remove_alike n brought room s t (alike_exec_ended n k code s) h.remove;
      execs = subst (λ j. j ≤ room.scratch) (sym (length_updated (λ (x : Exec). x.number == k) (exec_ended code) s.execs)) h.execs;
      timers = h.timers;
    }

exec_found : (n : ℕ) (brought : EndMemory) (room : Room) (code k : ℕ) (o : Option Exec) (s : State) → CanSettle n brought room s
    → CanSettle n brought room (with_found o (λ (x : Exec). and_then (tell_of (exec_die_event x.id code) x.container) (and_then (change (drop_process (Owner.Exec k))) (change (change_exec k (exec_ended code))))) s).state
exec_found n brought room code k None s h = h
exec_found n brought room code k (Some x) s h =
    subst (λ (z : State). CanSettle n brought room (change_exec k (exec_ended code) (drop_process (Owner.Exec k) z)))
    (sym (told s (container_numbered x.container s) _ (λ c z. refl))) (settle_exec n brought room k code s h)

pub settle_end_exec : (n : ℕ) (brought : EndMemory) (room : Room) (code k : ℕ) → Keeps (CanSettle n brought room) (end_exec code k)
settle_end_exec n brought room code k s h = exec_found n brought room code k (exec_numbered k s) s h

pub settle_end_execs : (n : ℕ) (brought : EndMemory) (room : Room) → Keeps (CanSettle n brought room) (end_execs n)
settle_end_execs n brought room s h = keeps_each (CanSettle n brought room) _ (λ (x : Exec). settle_end_exec n brought room 137 x.number) (running_execs n s) s h

-- a change of the processes alone
pub settle_processes : (n : ℕ) (brought : EndMemory) (room : Room) (es : List Entry) (s : State) → CanSettle n brought room s → CanSettle n brought room (record s { processes = es })
settle_processes n brought room es s h = record {
  clock = h.clock;
  launch = next_alike n brought.script s (record s { processes = es }) refl refl h.launch;
  remove = remove_alike n brought room s (record s { processes = es }) (record { removed = refl; kept = refl; numbers = refl; outputs = refl }) h.remove;
  execs = h.execs;
  timers = h.timers;
}

pub settle_die : (n : ℕ) (brought : EndMemory) (room : Room) (code : ℕ) → Keeps (CanSettle n brought room) (die code n)
settle_die n brought room code s h =
    settle_renew n brought room (LifeChange.Ended code s.clock) (λ l. refl) (drop_process (Owner.Container n) s)
    (settle_processes n brought room (drop_process (Owner.Container n) s).processes s h)

fewer_either : (b : Bool) (x : DueAction) (xs ys : List DueAction) → length ys ≤ length xs → length (if b then xs else x ∷ ys) ≤ suc (length xs)
fewer_either true x xs ys h = omega arith
fewer_either false x xs ys h = omega (arith, h)

pub fewer : (p : DueAction → Bool) (xs : List DueAction) → length (remove_first p xs) ≤ length xs
fewer p [] = omega arith
fewer p (x ∷ xs) = fewer_either (p x) x xs (remove_first p xs) (fewer p xs)

pub settle_clear : (n : ℕ) (brought : EndMemory) (room : Room) (rank : Rank) (k : ℕ) (s : State) → CanSettle n brought room s → CanSettle n brought room (clear_timer rank k s)
settle_clear n brought room rank k s h = record {
  clock = h.clock;
  launch = next_alike n brought.script s (clear_timer rank k s) refl refl h.launch;
  remove = remove_alike n brought room s (clear_timer rank k s) (record { removed = refl; kept = refl; numbers = refl; outputs = refl }) h.remove;
  execs = h.execs;
  timers = omega (arith, h.timers, fewer (is_timer (number_of rank) k) s.timers);
}

-- up to the conclusion
pub settle_ended : (n : ℕ) (brought : EndMemory) (room : Room) (code : ℕ) (s a b d : State) → CanSettle n brought room s → a ≡ (end_execs n s).state → b ≡ (die code n a).state → d ≡ clear_deadlines n b → CanSettle n brought room d
settle_ended n brought room code s a b d h first second third =
    let P : State → Type 0 = CanSettle n brought room in
    subst P (sym third) (settle_clear n brought room Rank.RemovalDeadline n _ (settle_clear n brought room Rank.StopDeadline n b
    (subst P (sym second) (settle_die n brought room code a (subst P (sym first) (settle_end_execs n brought room s h))))))

-- ---- launch

-- where the goal is a restart, the script of the end is that of a launch
pub launch_next : (n : ℕ) (script : Option Program) (s : State) → HasGoal Goal.Restart n s → CanLaunchNext n script s → CanLaunch n script s
launch_next n script s goal h = record { few = h.few; pid = h.pid; named = λ c at. h.named c at ∙ ap (λ g. next_script g c) (goal c at) }

-- the goal of the container that was found
pub has_goal : (n : ℕ) (s : State) (c : Container) → container_numbered n s ≡ Some c → HasGoal c.life.goal n s
has_goal n s c found d at =
    let same : Some c ≡ Some d = sym found ∙ at in
    let is : c ≡ d = cc in
    ap (λ (x : Container). x.life.goal) (sym is)

none_of : (o : Option Container) (s : State) (c : Container) → o ≡ Some c → program_of c.life.words (c.life.starts + 1) ≡ None
    → (with_found o (λ (c : Container). launch_program (program_of c.life.words (c.life.starts + 1)) c) s).state ≡ s
none_of None s c e h = refl
none_of (Some d) s c e h =
    let is : d ≡ c = cc in
    ap (λ (x : Container). (launch_program (program_of x.life.words (x.life.starts + 1)) x s).state) is ∙ ap (λ p. (launch_program p c s).state) h

-- words that name no program
pub launch_none : (n : ℕ) (s : State) (c : Container) → container_numbered n s ≡ Some c → program_of c.life.words (c.life.starts + 1) ≡ None → s ≡ (launch n s).state
launch_none n s c e h = sym (none_of (container_numbered n s) s c e h)

pub begun_is : (program : Program) (c : Container) (s : State) → (launch_program (Some program) c s).state ≡ begun c.number program c.life.open_stdin (container_room c) s
begun_is program c s =
    let z : State = begun c.number program c.life.open_stdin (container_room c) s in
    ap (λ (y : State). (tell_of (plain_event Action.Start) c.number y).state) (told z (container_numbered c.number z) _ (λ d y. refl))
    ∙ told z (container_numbered c.number z) _ (λ d y. refl)

some_of : (n : ℕ) (o : Option Container) (s : State) (c : Container) (program : Program) → o ≡ Some c → c.number ≡ n → program_of c.life.words (c.life.starts + 1) ≡ Some program
    → (with_found o (λ (c : Container). launch_program (program_of c.life.words (c.life.starts + 1)) c) s).state ≡ begun n program c.life.open_stdin (container_room c) s
some_of n None s c program e k h = absurd (cc)
some_of n (Some d) s c program e k h =
    let is : d ≡ c = cc in
    ap (λ (x : Container). (launch_program (program_of x.life.words (x.life.starts + 1)) x s).state) is ∙ (ap (λ p. (launch_program p c s).state) h
    ∙ (begun_is program c s ∙ ap (λ m. begun m program c.life.open_stdin (container_room c) s) k))

is_number : (m n : ℕ) → (m == n) ≡ true → m ≡ n
is_number m n e = eqb-true m n e

passes_either : {A : Type 0} (p : A → Bool) (b : Bool) (x c : A) (o : Option A) → p x ≡ b → (o ≡ Some c → p c ≡ true) → (if b then Some x else o) ≡ Some c → p c ≡ true
passes_either p true x c o h rest e = let is : x ≡ c = cc in ap p (sym is) ∙ h
passes_either p false x c o h rest e = rest e

pub passes : {A : Type 0} (p : A → Bool) (xs : List A) (c : A) → find p xs ≡ Some c → p c ≡ true
passes p [] c e = absurd (cc)
passes p (x ∷ xs) c e = passes_either p (p x) x c (find p xs) refl (passes p xs c) e

-- the container of a number has it
pub has_number : (n : ℕ) (s : State) (c : Container) → container_numbered n s ≡ Some c → c.number ≡ n
has_number n s c e = is_number c.number n (passes (λ (d : Container). d.number == n) s.containers c e)

-- words that name a program
pub launch_some : (n : ℕ) (s : State) (c : Container) (program : Program) → container_numbered n s ≡ Some c → program_of c.life.words (c.life.starts + 1) ≡ Some program
    → begun n program c.life.open_stdin (container_room c) s ≡ (launch n s).state
launch_some n s c program e h = sym (some_of n (container_numbered n s) s c program e (has_number n s c e) h)

-- ---- the conclusion

followed_is : (n : ℕ) (c : Container) (s : State) → container_numbered n s ≡ Some c → followed n s ≡ follow (decision_at s.clock c.life) c.life.auto_remove n s
followed_is n c s e = ap (λ o. with_found o (λ (d : Container) (z : State). follow (decision_at z.clock d.life) d.life.auto_remove n z) s) e

pub tell_still : (event : Container → ℕ → Event) (n : ℕ) (s : State) → (tell_of event n s).state ≡ s
tell_still event n s = told s (container_numbered n s) _ (λ c z. refl)

goal_is : (n : ℕ) (c : Container) (s : State) → container_numbered n s ≡ Some c → c.number ≡ n → (g : Goal) → (goal_effect g n s).state ≡ (by_goal g c s).state
goal_is n c s e k Goal.Remove = ap (λ m. (goal_effect Goal.Remove m s).state) (sym k)
goal_is n c s e k Goal.Stop =
    ap (λ o. (with_found o (λ (d : Container). stay d.life.auto_remove n) s).state) e
    ∙ (ap (λ m. (stay c.life.auto_remove m s).state) (sym k)
    ∙ ap (λ z. (removed_if c.life.auto_remove c.number z).state) (sym (tell_still (plain_event Action.Stop) c.number (change_life c.number exited s))))
goal_is n c s e k Goal.Restart =
    ap (λ m. (launch_by_call m s).state) (sym k)
    ∙ (ap (λ z. (launch_by_call c.number z).state) (sym (tell_still (plain_event Action.Stop) c.number s))
    ∙ sym (tell_still (plain_event Action.Restart) c.number _))
goal_is n c s e k Goal.None = ap (λ (x : Effect). x.state) (followed_is n c s e) ∙ ap (λ m. (follow (decision_at s.clock c.life) c.life.auto_remove m s).state) (sym k)

status_is : (n : ℕ) (c : Container) (s : State) → (u : Status) → (u ≡ Status.Dead → ⊥) → (by_status u c s).state ≡ (by_goal c.life.goal c s).state
status_is n c s Status.Dead other = absurd (other refl)
status_is n c s Status.Created other = refl
status_is n c s Status.Running other = refl
status_is n c s Status.Paused other = refl
status_is n c s Status.Restarting other = refl
status_is n c s Status.Removing other = refl
status_is n c s Status.Exited other = refl

-- by its goal, but in dead
pub concluded_is : (n : ℕ) (c : Container) (s a : State) → container_numbered n s ≡ Some c → (c.life.status ≡ Status.Dead → ⊥) → a ≡ (goal_effect c.life.goal n s).state → a ≡ (concluded n s).state
concluded_is n c s a e other h =
    h ∙ (goal_is n c s e (has_number n s c e) c.life.goal ∙ (sym (status_is n c s c.life.status other)
    ∙ ap (λ o. (with_found o (λ (d : Container). by_status d.life.status d) s).state) (sym e)))
