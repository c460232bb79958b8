-- What is done to each running exec of a container: to end, to thaw, to freeze.
use Rattle.std.proofs.Common.{◌≡◌, ◌≢◌, ℕ, ◌==◌, ◌||◌, Bool, true, false, List, [], ◌∷◌, Option, Some, None, find, filter, map, if◌then◌else◌, refl, ap, sym, ◌∙◌, subst, inl, inr, ◌⊎◌, ◌+◌, ◌≤◌, length, arith}
use Rattle.std.proofs.lemmas.Bool.{eqb-true, eq-eqb}
use Rattle.std.proofs.lemmas.Bool.Decides.{eqb_tells}
use Rattle.std.specs.Prelude.{option_map, is_some}
use Rattle.std.specs.List.{AllByRecursion, list_any}
use Rattle.container_table.specs.Lists.{update_first}
use Rattle.proc_kernel.specs.Processes.{Process, ProcessStep}
use Rattle.proc_kernel.specs.Tables.{process_of, effect_of}
use Rattle.machine_model.specs.State.{State, container_numbered, exec_numbered, is_live, running_execs, change_process, change_exec, drop_process}
use Rattle.machine_model.specs.Chain.{Effect, each, with_found, tell, tell_of, and_then, change}
use Rattle.machine_model.specs.Consistency.{AreDistinct}
use Rattle.machine_model.specs.EventTexts.{exec_die_event}
use Rattle.machine_model.specs.Effects.EndMain.{end_exec, exec_ended}
use Rattle.machine_model.specs.Effects.Meet.{by_effect, stepped, step_process}
use Rattle.machine_model.proofs.ListLemmas.{all_weaken}
use Rattle.machine_model.proofs.Tables.ProcessLemmas.{changed_stands, changed_others, gone, gone_others}
use Rattle.machine_model.proofs.DueLemmas.{passes}
use Rattle.machine_model.proofs.Tables.NumberLemmas.{is_not, find_updated, find_other, keep_if, find_filtered, found_any}
use Rattle.machine_model.proofs.Fits.LogRoomLemmas.{room_in, exec_room_in, exec_room_changed, step_room, put_fits, put_empty}
use Rattle.machine_model.proofs.Processes.LimitLemmas.{IsStep, written}
use Rattle.machine_model.proofs.Fits.PartLemmas.{Parts, parts_of, ExecBy, SteadyBy}
use Rattle.machine_model.proofs.Fits.MainPartLemmas.{exec_process_by, end_exec_by}
use Rattle.engine_text.specs.declared.owner.Owner.{Owner}
use Rattle.engine_text.specs.declared.script.Stream.{Stream}
use Rattle.engine_text.specs.declared.container.Container.{Container}
use Rattle.engine_text.specs.declared.event.Event.{Event}
use Rattle.engine_text.specs.declared.exec.Exec.{Exec}
use Rattle.engine_text.specs.declared.owner.Owner.TheVariants.{Container as OfContainer, Exec as OfExec}
use Rattle.engine_text.specs.declared.script.Effect.{Effect as ProcessEffect}
use Rattle.engine_text.specs.declared.script.Effect.TheVariants.{Lives, Wrote, Ended}

-- ---- what an exec's own steps touch

-- what leaves all but the exec and the process of that number
pub record Touches (k : ℕ) (s t : State) : Type 0 where
  pub looks : (m : ℕ) → parts_of m t ≡ parts_of m s
  pub processes : (m : ℕ) → k ≢ m → process_of (OfExec m) t.processes ≡ process_of (OfExec m) s.processes
  pub execs : (m : ℕ) (x : Exec) → exec_numbered m t ≡ Some x → (y : Exec) × (exec_numbered m s ≡ Some y) × (y.container ≡ x.container)

touches_none : (k : ℕ) (s : State) → Touches k s s
touches_none k s = record { looks = λ m. refl; processes = λ m other. refl; execs = λ m x e. (x, e, refl) }

touches_then : (k : ℕ) (s t u : State) → Touches k s t → Touches k t u → Touches k s u
touches_then k s t u first second = record {
  looks = λ m. second.looks m ∙ first.looks m;
  processes = λ m other. second.processes m other ∙ first.processes m other;
  execs = λ m x e. let a = second.execs m x e in let b = first.execs m a.0 a.1 in (b.0, b.1, b.2 ∙ a.2);
}

pub touches_process : (k : ℕ) (f : Process → Process) (s : State) → Touches k s (change_process (OfExec k) f s)
touches_process k f s = record {
  looks = λ m. ap (λ p. record (parts_of m s) { main = p }) (changed_others (OfExec k) (OfContainer m) f s.processes refl);
  processes = λ m other. changed_others (OfExec k) (OfExec m) f s.processes (is_not k m other);
  execs = λ m x e. (x, e, refl);
}

mapped_exec : (code : ℕ) (o : Option Exec) (x : Exec) → option_map (exec_ended code) o ≡ Some x → (y : Exec) × (o ≡ Some y) × (y.container ≡ x.container)
mapped_exec code None x e = absurd (cc)
mapped_exec code (Some y) x e = (y, refl, ap (λ (o : Option Exec). container_in o) e)
  where
    container_in : Option Exec → ℕ
    container_in None = 0
    container_in (Some z) = z.container

touches_raw_end : (code k : ℕ) (s : State) → Touches k s (change_exec k (exec_ended code) (drop_process (OfExec k) s))
touches_raw_end code k s = record {
  looks = λ m. ap (λ p. record (parts_of m s) { main = p }) (gone_others (OfExec k) (OfContainer m) s.processes refl);
  processes = λ m other. gone_others (OfExec k) (OfExec m) s.processes (is_not k m other);
  execs = λ m x e. elim (eqb_tells k m) [
    | inl is ↦ mapped_exec code (exec_numbered m s) x
        (sym (subst (λ j. find (λ (y : Exec). y.number == j) (update_first (λ y. y.number == k) (exec_ended code) s.execs) ≡ option_map (exec_ended code) (find (λ (y : Exec). y.number == j) s.execs)) is.1
        (find_updated (λ (y : Exec). y.number) k (exec_ended code) (λ y. refl) s.execs)) ∙ e)
    | inr other ↦ (x, sym (find_other (λ (y : Exec). y.number) k m (exec_ended code) (λ y. refl) other.1 s.execs) ∙ e, refl)
  ];
}

-- ---- the end of an exec

told_at : (o : Option Container) (event : Container → ℕ → Event) (s : State) → (with_found o (λ c s. tell (event c s.clock ∷ []) s) s).state ≡ s
told_at None event s = refl
told_at (Some c) event s = refl

pub told_state : (event : Container → ℕ → Event) (m : ℕ) (s : State) → (tell_of event m s).state ≡ s
told_state event m s = told_at (container_numbered m s) event s

abbrev EndsAs : ℕ → ℕ → State → State → Type 0
EndsAs code k s t = ((exec_numbered k s ≡ None) × (t ≡ s)) ⊎ (t ≡ change_exec k (exec_ended code) (drop_process (OfExec k) s))

end_at : (code k : ℕ) (s : State) (o : Option Exec) → exec_numbered k s ≡ o
    → EndsAs code k s (with_found o (λ x. and_then (tell_of (exec_die_event x.id code) x.container)
    (and_then (change (drop_process (OfExec k))) (change (change_exec k (exec_ended code))))) s).state
end_at code k s None e = inl (e, refl)
end_at code k s (Some x) e = inr (ap (λ (t : State). change_exec k (exec_ended code) (drop_process (OfExec k) t)) (told_state (exec_die_event x.id code) x.container s))

pub end_exec_state : (code k : ℕ) (s : State) → EndsAs code k s (end_exec code k s).state
end_exec_state code k s = end_at code k s (exec_numbered k s) refl

pub end_exec_steady : (W : ℕ → Parts → Process → Type 0) (Local : Parts → Type 0) (n : ℕ) (P : Parts → Type 0) (code k : ℕ) (s : State) → SteadyBy W Local n P s
    → SteadyBy W Local n P (end_exec code k s).state
end_exec_steady W Local n P code k s h = elim (end_exec_state code k s) [
  | inl same ↦ subst (SteadyBy W Local n P) (sym same.1) h
  | inr same ↦ subst (SteadyBy W Local n P) (sym same) (end_exec_by W Local n P code k s h)
]

pub touches_end : (code k : ℕ) (s : State) → Touches k s (end_exec code k s).state
touches_end code k s = elim (end_exec_state code k s) [
  | inl same ↦ subst (Touches k s) (sym same.1) (touches_none k s)
  | inr same ↦ subst (Touches k s) (sym same) (touches_raw_end code k s)
]

exec_none : (W : ℕ → Process → Type 0) (o : Option Exec) (p : Option Process) → o ≡ None → ExecBy W o p → p ≡ None
exec_none W None p e h = h
exec_none W (Some x) p e h = absurd (cc)

pub end_exec_none : (W : ℕ → Parts → Process → Type 0) (Local : Parts → Type 0) (n : ℕ) (P : Parts → Type 0) (code k : ℕ) (s : State) → SteadyBy W Local n P s
    → process_of (OfExec k) (end_exec code k s).state.processes ≡ None
end_exec_none W Local n P code k s h = elim (end_exec_state code k s) [
  | inl same ↦ subst (λ (t : State). process_of (OfExec k) t.processes ≡ None) (sym same.1)
      (exec_none (λ j p. W j (parts_of j s) p) (exec_numbered k s) (process_of (OfExec k) s.processes) same.0 (h.0.6 k))
  | inr same ↦ subst (λ (t : State). process_of (OfExec k) t.processes ≡ None) (sym same) (gone (OfExec k) s.processes h.0.1)
]

-- ---- a step of an exec

touches_effect : (e : ProcessEffect) (k : ℕ) (s : State) → Touches k s (by_effect e (OfExec k) s).state
touches_effect Lives k s = touches_none k s
touches_effect (Wrote stream payload) k s = record { looks = λ m. refl; processes = λ m other. refl; execs = λ m x e. (x, e, refl) }
touches_effect (Ended code) k s = touches_end code k s

live_started : (W : ℕ → Process → Type 0) (o : Option Exec) (p : Option Process) (x : Exec) (q : Process) → o ≡ Some x → p ≡ Some q → ExecBy W o p → x.started ≡ true
live_started W None p x q e f h = absurd (cc)
live_started W (Some y) None x q e f h = absurd (cc)
live_started W (Some y) (Some r) x q e f h = sym (ap started_in e) ∙ h.1
  where
    started_in : Option Exec → Bool
    started_in None = false
    started_in (Some z) = z.started

wrote_some : (f : Process → ProcessStep) (o : Option Process) (stream : Stream) (payload : List ℕ) → effect_of f o ≡ Wrote stream payload → (p : Process) × (o ≡ Some p)
wrote_some f None stream payload e = absurd (cc)
wrote_some f (Some p) stream payload e = (p, refl)

-- by what the step gave
step_by : (W : ℕ → Parts → Process → Type 0) (Local : Parts → Type 0) (n : ℕ) (P : Parts → Type 0) (step : ℕ → Process → ProcessStep) → IsStep step → (k : ℕ) (s : State) (e : ProcessEffect)
    → effect_of (step s.clock) (process_of (OfExec k) s.processes) ≡ e → SteadyBy W Local n P s → SteadyBy W Local n P (stepped step (OfExec k) s) → SteadyBy W Local n P (by_effect e (OfExec k) (stepped step (OfExec k) s)).state
step_by W Local n P step is k s Lives e h moved = moved
step_by W Local n P step is k s (Ended code) e h moved = end_exec_steady W Local n P code k (stepped step (OfExec k) s) moved
step_by W Local n P step is k s (Wrote stream payload) e h moved =
    let f : Process → Process = λ p. (step s.clock p).process in
    let t : State = stepped step (OfExec k) s in
    let less : (o : Owner) → exec_room_in o t.processes ≤ exec_room_in o s.processes = exec_room_changed k f (λ q. let r = (is s.clock q).room in omega (arith, r)) s.processes in
    let room : written (effect_of (step s.clock) (process_of (OfExec k) s.processes)) + room_in (option_map f (process_of (OfExec k) s.processes)) ≤ room_in (process_of (OfExec k) s.processes) =
    step_room (step s.clock) (λ p. (is s.clock p).room) (process_of (OfExec k) s.processes) in
    let falls : length payload + room_in (process_of (OfExec k) t.processes) ≤ room_in (process_of (OfExec k) s.processes) =
    subst (λ o. length payload + room_in o ≤ room_in (process_of (OfExec k) s.processes)) (sym (changed_stands (OfExec k) f s.processes))
    (subst (λ (x : ProcessEffect). written x + room_in (option_map f (process_of (OfExec k) s.processes)) ≤ room_in (process_of (OfExec k) s.processes)) e room) in
    let there = wrote_some (step s.clock) (process_of (OfExec k) s.processes) stream payload e in (
      (
        moved.0.0,
        moved.0.1,
        moved.0.2,
        moved.0.3,
        moved.0.4,
        moved.0.5,
        moved.0.6,
        record {
          mains = moved.0.7.mains;
          outputs = put_fits k s.clock stream payload s.processes t.processes s.outputs falls less h.0.7.outputs;
          empty = λ m x found fresh. elim (eqb_tells k m) [
            | inl same ↦
                let on : x.started ≡ true = live_started (λ j p. W j (parts_of j s) p) (exec_numbered k s) (process_of (OfExec k) s.processes) x there.0 (subst (λ j. exec_numbered j s ≡ Some x) (sym same.1) found) there.1 (h.0.6 k) in
                let no_way : false ≡ true = sym fresh ∙ on in absurd (cc)
            | inr other ↦ put_empty k m s.clock stream payload s.outputs other.1 (h.0.7.empty m x found fresh)
          ];
        },
      ),
      moved.1,
      moved.2,
    )

pub exec_step_steady : (W : ℕ → Parts → Process → Type 0) (Local : Parts → Type 0) (n : ℕ) (P : Parts → Type 0) (step : ℕ → Process → ProcessStep) → IsStep step → (k : ℕ) (s : State)
    → ((x : Exec) (q : Process) → exec_numbered k s ≡ Some x → process_of (OfExec k) s.processes ≡ Some q → W x.container (parts_of x.container s) q → W x.container (parts_of x.container s) (step s.clock q).process)
    → SteadyBy W Local n P s → SteadyBy W Local n P (step_process step (OfExec k) s).state
exec_step_steady W Local n P step is k s keeps h =
    step_by W Local n P step is k s (effect_of (step s.clock) (process_of (OfExec k) s.processes)) refl h
    (exec_process_by W Local n P k (λ p. (step s.clock p).process) s keeps (λ q. let r = (is s.clock q).room in omega (arith, r)) h)

pub touches_step : (step : ℕ → Process → ProcessStep) (k : ℕ) (s : State) → Touches k s (step_process step (OfExec k) s).state
touches_step step k s =
    touches_then k s (stepped step (OfExec k) s) (step_process step (OfExec k) s).state (touches_process k (λ p. (step s.clock p).process) s)
    (touches_effect (effect_of (step s.clock) (process_of (OfExec k) s.processes)) k (stepped step (OfExec k) s))

-- ---- the loop

-- of that container, if it is found
abbrev IsOf : ℕ → State → Exec → Type 0
IsOf n s x = (y : Exec) → exec_numbered x.number s ≡ Some y → y.container ≡ n

abbrev pub AllDone : ℕ → (Option Process → Type 0) → State → Type 0
AllDone n D s = (m : ℕ) (x : Exec) → exec_numbered m s ≡ Some x → x.container ≡ n → D (process_of (OfExec m) s.processes)

left_by : (b : Bool) (x : Exec) (m : ℕ) (xs : List Exec) → (x.number == m) ≡ b → b ≡ false → (b || list_any (λ (y : Exec). y.number == m) xs) ≡ true → list_any (λ (y : Exec). y.number == m) xs ≡ true
left_by true x m xs e f h = absurd (cc)
left_by false x m xs e f h = h

pub loop : (n : ℕ) (D : Option Process → Type 0) (I : State → Type 0) (f : Exec → State → Effect)
    → ((x : Exec) (s : State) → IsOf n s x → I s → I (f x s).state × Touches x.number s (f x s).state × ((y : Exec) → exec_numbered x.number (f x s).state ≡ Some y → D (process_of (OfExec x.number) (f x s).state.processes)))
    → (xs : List Exec) (s : State) → AllByRecursion (IsOf n s) xs
    → ((m : ℕ) (x : Exec) → exec_numbered m s ≡ Some x → x.container ≡ n → (list_any (λ (y : Exec). y.number == m) xs ≡ true) ⊎ D (process_of (OfExec m) s.processes))
    → I s → I (each f xs s).state × AllDone n D (each f xs s).state
loop n D I f step [] s own todo i = (i, λ m x e c. elim (todo m x e c) [ inl no_way ↦ absurd (cc) | inr d ↦ d ])
loop n D I f step (x ∷ xs) s own todo i =
    let t : State = (f x s).state in
    let one = step x s own.0 i in
    loop n D I f step xs t
    (all_weaken (IsOf n s) (IsOf n t) (λ z k y e. let old = one.1.execs z.number y e in sym old.2 ∙ k old.0 old.1) xs own.1)
    (λ m y e c. elim (eqb_tells x.number m) [
      | inl is ↦ inr (subst (λ j. D (process_of (OfExec j) t.processes)) is.1 (one.2 y (subst (λ j. exec_numbered j t ≡ Some y) (sym is.1) e)))
      | inr other ↦ let old = one.1.execs m y e in elim (todo m old.0 old.1 (old.2 ∙ c)) [
        | inl among ↦ inl (left_by (x.number == m) x m xs refl other.0 among)
        | inr d ↦ inr (subst D (sym (one.1.processes m other.1)) d)
      ]
    ]) one.0

-- ---- the running execs

own_by : (b : Bool) (x y : Exec) (rest : Option Exec) → (x.number == y.number) ≡ b → x.number ≢ y.number → rest ≡ Some y → (if b then Some x else rest) ≡ Some y
own_by true x y rest e other more = absurd (other (eqb-true x.number y.number e))
own_by false x y rest e other more = more

own_behind : (x : Exec) (all xs : List Exec) → AllByRecursion (λ n. x.number ≢ n) (map (λ y. y.number) xs) → AllByRecursion (λ (y : Exec). find (λ (z : Exec). z.number == y.number) all ≡ Some y) xs
    → AllByRecursion (λ (y : Exec). find (λ (z : Exec). z.number == y.number) (x ∷ all) ≡ Some y) xs
own_behind x all [] other h = tt
own_behind x all (y ∷ ys) other h = (own_by (x.number == y.number) x y (find (λ (z : Exec). z.number == y.number) all) refl other.0 h.0, own_behind x all ys other.1 h.1)

pub own_exec : (xs : List Exec) → AreDistinct (map (λ x. x.number) xs) → AllByRecursion (λ (y : Exec). find (λ (z : Exec). z.number == y.number) xs ≡ Some y) xs
own_exec [] h = tt
own_exec (x ∷ xs) h =
    (ap (λ b. if b then Some x else find (λ (z : Exec). z.number == x.number) xs) (eq-eqb x.number x.number refl), own_behind x xs xs h.0 (own_exec xs h.1))

passing_by : (P : Exec → Type 0) (b : Bool) (x : Exec) (q : Exec → Bool) (xs : List Exec) → q x ≡ b → P x → AllByRecursion (λ y. P y × (q y ≡ true)) xs → AllByRecursion (λ y. P y × (q y ≡ true)) (if b then x ∷ xs else xs)
passing_by P true x q xs e px more = ((px, e), more)
passing_by P false x q xs e px more = more

pub all_passing : (P : Exec → Type 0) (q : Exec → Bool) (xs : List Exec) → AllByRecursion P xs → AllByRecursion (λ y. P y × (q y ≡ true)) (filter q xs)
all_passing P q [] h = tt
all_passing P q (x ∷ xs) h = passing_by P (q x) x q (filter q xs) refl h.0 (all_passing P q xs h.1)

same_container : (o : Option Exec) (x y : Exec) → o ≡ Some x → o ≡ Some y → y.container ≡ x.container
same_container None x y e f = absurd (cc)
same_container (Some z) x y e f = sym (ap container_in f) ∙ ap container_in e
  where
    container_in : Option Exec → ℕ
    container_in None = 0
    container_in (Some z) = z.container

running_own : (n : ℕ) (s : State) → AreDistinct (map (λ x. x.number) s.execs) → AllByRecursion (IsOf n s) (running_execs n s)
running_own n s h =
    let inner = all_passing (λ (y : Exec). exec_numbered y.number s ≡ Some y) (λ x. x.container == n) s.execs (own_exec s.execs h) in
    let outer = all_passing (λ (y : Exec). (exec_numbered y.number s ≡ Some y) × ((y.container == n) ≡ true)) (λ x. is_live (OfExec x.number) s) (filter (λ x. x.container == n) s.execs) inner in
    all_weaken (λ (y : Exec). ((exec_numbered y.number s ≡ Some y) × ((y.container == n) ≡ true)) × (is_live (OfExec y.number) s ≡ true)) (IsOf n s)
    (λ x k y e. same_container (exec_numbered x.number s) x y k.0.0 e ∙ eqb-true x.container n k.0.1) (running_execs n s) outer

runs_by : (D : Option Process → Type 0) → D None → (n m : ℕ) (s : State) (x : Exec) (p : Option Process) → process_of (OfExec m) s.processes ≡ p → AreDistinct (map (λ x. x.number) s.execs)
    → exec_numbered m s ≡ Some x → x.container ≡ n → (list_any (λ (y : Exec). y.number == m) (running_execs n s) ≡ true) ⊎ D p
runs_by D none n m s x None f h e c = inr none
runs_by D none n m s x (Some q) f h e c =
    let is : x.number ≡ m = eqb-true x.number m (passes (λ (y : Exec). y.number == m) x s.execs e) in
    let first : find (λ (y : Exec). y.number == m) (filter (λ x. x.container == n) s.execs) ≡ Some x =
    find_filtered (λ (y : Exec). y.number) (λ x. x.container == n) m s.execs h ∙ (ap (keep_if (λ x. x.container == n)) e ∙ ap (λ b. if b then Some x else None) (eq-eqb x.container n c)) in
    inl (found_any (λ (y : Exec). y.number == m) (λ x. is_live (OfExec x.number) s) x (filter (λ x. x.container == n) s.execs) first (subst (λ j. is_live (OfExec j) s ≡ true) (sym is) (ap is_some f)))

pub running_loop : (n : ℕ) (D : Option Process → Type 0) → D None → (I : State → Type 0) (f : Exec → State → Effect)
    → ((x : Exec) (s : State) → IsOf n s x → I s → I (f x s).state × Touches x.number s (f x s).state × ((y : Exec) → exec_numbered x.number (f x s).state ≡ Some y → D (process_of (OfExec x.number) (f x s).state.processes)))
    → (s : State) → AreDistinct (map (λ x. x.number) s.execs) → I s → I (each f (running_execs n s) s).state × AllDone n D (each f (running_execs n s) s).state
running_loop n D none I f step s h i =
    loop n D I f step (running_execs n s) s (running_own n s h) (λ m x e c. runs_by D none n m s x (process_of (OfExec m) s.processes) refl h e c) i
