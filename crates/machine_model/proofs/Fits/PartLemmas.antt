-- What one sees of the container of a number: its life, its main process and its timers; and how single changes change it.
pub use Rattle.machine_model.proofs.Fits.LogRoomLemmas.{life_of}
use Rattle.std.proofs.Common.{◌≡◌, ◌≢◌, ℕ, ◌≤◌, ◌==◌, Bool, true, false, not, inl, inr, List, [], ◌∷◌, Option, Some, None, find, map, if◌then◌else◌, refl, ap, sym, ◌∙◌, subst}
use Rattle.std.proofs.lemmas.Bool.{eqb-true}
use Rattle.std.specs.Prelude.{option_map, is_some}
use Rattle.std.specs.List.{AllByRecursion}
use Rattle.std.proofs.lemmas.Bool.Decides.{eqb_tells}
use Rattle.container_table.specs.Lists.{update_first}
use Rattle.container_table.specs.declared.rank.Rank.{Rank}
use Rattle.proc_kernel.specs.Processes.{Process, is_frozen}
use Rattle.proc_kernel.specs.Tables.{Entry, process_of}
use Rattle.api_json.specs.Status.{is_paused}
use Rattle.machine_model.specs.State.{State, container_numbered, timer_of}
use Rattle.machine_model.specs.Chain.{Effect, still, and_then, each, with_found, with_container, tell, tell_of, tell_mounts, renew}
use Rattle.machine_model.specs.EventTexts.{mount_event}
use Rattle.machine_model.specs.Consistency.{AreDistinct, is_there, AreSingle}
use Rattle.machine_model.proofs.Fold.RowLemmas.{found_number, made}
use Rattle.machine_model.proofs.ChangeLemmas.{map_updated}
use Rattle.machine_model.proofs.Fits.LogRoomLemmas.{RoomBy, Rooms}
use Rattle.engine_text.specs.declared.exec.Exec.{Exec}
use Rattle.engine_text.specs.declared.container.Container.{Container}
use Rattle.engine_text.specs.declared.container.Life.{Life}
use Rattle.engine_text.specs.declared.event.Action.{Action}
use Rattle.engine_text.specs.declared.event.Event.{Event}
use Rattle.engine_text.specs.declared.owner.Owner.TheVariants.{Container as OfContainer, Exec as OfExec}
use Rattle.engine_text.specs.declared.step.DueAction.{DueAction}

-- ---- looks

pub record Parts : Type 0 where
  pub life : Option Life
  pub main : Option Process
  pub stop : Bool
  pub removal : Bool
  pub restart : Bool

abbrev pub parts_of : ℕ → State → Parts
parts_of n s = record {
  life = life_of (container_numbered n s);
  main = process_of (OfContainer n) s.processes;
  stop = is_there (timer_of Rank.StopDeadline n s);
  removal = is_there (timer_of Rank.RemovalDeadline n s);
  restart = is_there (timer_of Rank.RestartTimer n s);
}

pub record IsRanked (d : DueAction) : Type 0 where
  pub least : 1 ≤ d.rank
  pub greatest : d.rank ≤ 3

-- ---- execs

-- a process that is frozen as its container is paused
abbrev pub IcyAs : Option Life → Process → Type 0
IcyAs None p = ⊥
IcyAs (Some l) p = is_frozen p.pace ≡ is_paused l.status

-- an exec's process, by what one sees of its container
abbrev pub Watches : Parts → Process → Type 0
Watches v p = (is_some v.main ≡ true) × IcyAs v.life p

-- an exec and its process, beside what is so of its container's number and the process
abbrev pub ExecBy : (ℕ → Process → Type 0) → Option Exec → Option Process → Type 0
ExecBy W None p = p ≡ None
ExecBy W (Some x) None = not (x.pid == 0) ≡ false
ExecBy W (Some x) (Some p) = (not (x.pid == 0) ≡ true) × (x.started ≡ true) × W x.container p

abbrev pub ExecsBy : (ℕ → Process → Type 0) → List Exec → List Entry → Type 0
ExecsBy W xs es = (m : ℕ) → ExecBy W (find (λ x. x.number == m) xs) (process_of (OfExec m) es)

pub exec_moved : (W V : ℕ → Process → Type 0) (o : Option Exec) (p : Option Process) → ((x : Exec) (q : Process) → o ≡ Some x → p ≡ Some q → W x.container q → V x.container q) → ExecBy W o p → ExecBy V o p
exec_moved W V None p k h = h
exec_moved W V (Some x) None k h = h
exec_moved W V (Some x) (Some q) k h = (h.0, h.1, k x q refl refl h.2)

pub execs_moved : (W V : ℕ → Process → Type 0) (xs : List Exec) (es fs : List Entry) → ((m : ℕ) → process_of (OfExec m) fs ≡ process_of (OfExec m) es) → ((k : ℕ) (p : Process) → W k p → V k p)
    → ExecsBy W xs es → ExecsBy V xs fs
execs_moved W V xs es fs same k h m =
    subst (ExecBy V (find (λ x. x.number == m) xs)) (sym (same m))
    (exec_moved W V (find (λ x. x.number == m) xs) (process_of (OfExec m) es) (λ x q e f w. k x.container q w) (h m))

-- where the looks of the others stay
pub watched : (n : ℕ) (s t : State) → ((m : ℕ) → n ≢ m → parts_of m t ≡ parts_of m s) → ((p : Process) → Watches (parts_of n s) p → Watches (parts_of n t) p) → (k : ℕ) (p : Process) → Watches (parts_of k s) p → Watches (parts_of k t) p
watched n s t others same k p h = elim (eqb_tells n k) [
  | inl e ↦ subst (λ j. Watches (parts_of j t) p) e.1 (same p (subst (λ j. Watches (parts_of j s) p) (sym e.1) h))
  | inr e ↦ subst (λ v. Watches v p) (sym (others k e.1)) h
]

abbrev pub Roomy : Parts → Type 0
Roomy v = RoomBy v.life v.main

pub roomed : (n : ℕ) (s t : State) → ((m : ℕ) → n ≢ m → parts_of m t ≡ parts_of m s) → Roomy (parts_of n t) → ((m : ℕ) → Roomy (parts_of m s)) → (m : ℕ) → Roomy (parts_of m t)
roomed n s t others one h m = elim (eqb_tells n m) [ inl e ↦ subst (λ k. Roomy (parts_of k t)) e.1 one | inr e ↦ subst Roomy (sym (others m e.1)) (h m) ]

-- what every single change keeps
abbrev pub Kept : (ℕ → Parts → Process → Type 0) → State → Type 0
Kept W s =
    AreDistinct (map (λ c. c.number) s.containers) × AreDistinct (map (λ e. e.owner) s.processes) × AreSingle s.timers × AllByRecursion IsRanked s.timers × (1 ≤ s.next_pid)
    × AreDistinct (map (λ x. x.number) s.execs) × ExecsBy (λ k p. W k (parts_of k s) p) s.execs s.processes × Rooms s.containers s.execs s.processes s.outputs

abbrev pub Watch : ℕ → Parts → Process → Type 0
Watch k v p = Watches v p

abbrev pub TablesFit : State → Type 0
TablesFit s = Kept Watch s

-- ---- the relation

-- one sees P of container n, and of each other what `Local` says; of execs W
abbrev pub SteadyBy : (ℕ → Parts → Process → Type 0) → (Parts → Type 0) → ℕ → (Parts → Type 0) → State → Type 0
SteadyBy W Local n P s = Kept W s × ((m : ℕ) → n ≢ m → Local (parts_of m s)) × P (parts_of n s)

abbrev pub Steady : (Parts → Type 0) → ℕ → (Parts → Type 0) → State → Type 0
Steady Local n P s = SteadyBy Watch Local n P s

pub record Leads (Local : Parts → Type 0) (n : ℕ) (P : Parts → Type 0) (e : State → Effect) (Q : Parts → Type 0) : Type 0 where
  pub holds : (s : State) → Steady Local n P s → Steady Local n Q (e s).state

pub leads_then : {Local : Parts → Type 0} {n : ℕ} {P Q R : Parts → Type 0} {e f : State → Effect} → Leads Local n P e Q → Leads Local n Q f R → Leads Local n P (and_then e f) R
leads_then {Local} {n} {P} {Q} {R} {e} {f} first second = record { holds = λ s h. second.holds (e s).state (first.holds s h) }

pub leads_from : {Local : Parts → Type 0} {n : ℕ} {P Q R : Parts → Type 0} {e : State → Effect} → ((v : Parts) → P v → Q v) → Leads Local n Q e R → Leads Local n P e R
leads_from {Local} {n} {P} {Q} {R} {e} k one = record { holds = λ s h. one.holds s (h.0, h.1, k (parts_of n s) h.2) }

pub leads_to : {Local : Parts → Type 0} {n : ℕ} {P Q R : Parts → Type 0} {e : State → Effect} → ((v : Parts) → Q v → R v) → Leads Local n P e Q → Leads Local n P e R
leads_to {Local} {n} {P} {Q} {R} {e} k one = record { holds = λ s h. let a = one.holds s h in (a.0, a.1, k (parts_of n (e s).state) a.2) }

pub leads_still : {Local : Parts → Type 0} {n : ℕ} {P : Parts → Type 0} → Leads Local n P still P
leads_still = record { holds = λ s h. h }

pub leads_at : {Local : Parts → Type 0} {n : ℕ} {P Q : Parts → Type 0} (e : State → State → Effect) → ((s : State) → Leads Local n P (e s) Q) → Leads Local n P (λ s. e s s) Q
leads_at e k = record { holds = λ s. (k s).holds s }

pub leads_each : {A : Type 0} {Local : Parts → Type 0} {n : ℕ} {P : Parts → Type 0} {f : A → State → Effect} → ((x : A) → Leads Local n P (f x) P) → (xs : List A) → Leads Local n P (each f xs) P
leads_each k [] = leads_still
leads_each k (x ∷ xs) = leads_then (k x) (leads_each k xs)

pub leads_found : {A : Type 0} {Local : Parts → Type 0} {n : ℕ} {P : Parts → Type 0} (o : Option A) {f : A → State → Effect} → ((x : A) → Leads Local n P (f x) P) → Leads Local n P (with_found o f) P
leads_found None k = leads_still
leads_found (Some x) k = k x

-- the container as it stands: P of it before, or nobody
abbrev pub Stood : Container → (Parts → Type 0) → Parts → Type 0
Stood c P v = (v.life ≡ Some c.life) × P v

with_by : (Local : Parts → Type 0) (n : ℕ) (P Q : Parts → Type 0) (f : Container → State → Effect) (s : State) (o : Option Container) → container_numbered n s ≡ o
    → ((v : Parts) → v.life ≡ None → P v → Q v) → ((c : Container) → c.number ≡ n → Leads Local n (Stood c P) (f c) Q) → Steady Local n P s → Steady Local n Q (with_found o f s).state
with_by Local n P Q f s None e none one h = (h.0, h.1, none (parts_of n s) (ap life_of e) h.2)
with_by Local n P Q f s (Some c) e none one h = (one c (found_number n c s.containers e)).holds s (h.0, h.1, (ap life_of e, h.2))

pub leads_with : {Local : Parts → Type 0} {n : ℕ} {P Q : Parts → Type 0} (f : Container → State → Effect) → ((v : Parts) → v.life ≡ None → P v → Q v)
    → ((c : Container) → c.number ≡ n → Leads Local n (Stood c P) (f c) Q) → Leads Local n P (with_container n f) Q
leads_with {Local} {n} {P} {Q} f none one = record { holds = λ s h. with_by Local n P Q f s (container_numbered n s) refl none one h }

pub leads_tell : {Local : Parts → Type 0} {n : ℕ} {P : Parts → Type 0} (m : ℕ) (event : Container → ℕ → Event) → Leads Local n P (tell_of event m) P
leads_tell {Local} {n} {P} m event =
    leads_at (λ s. with_found (container_numbered m s) (λ c s. tell (event c s.clock ∷ []) s)) (λ s. leads_found (container_numbered m s) (λ c. record { holds = λ s h. h }))

pub leads_mounts : {Local : Parts → Type 0} {n : ℕ} {P : Parts → Type 0} (m : ℕ) (a : Action) → Leads Local n P (tell_mounts a m) P
leads_mounts {Local} {n} {P} m a =
    leads_at (λ s. with_found (container_numbered m s) (λ c s. tell (map (λ m. mount_event a m.volume c s.clock) c.life.mounts) s))
    (λ s. leads_found (container_numbered m s) (λ c. record { holds = λ s h. h }))

-- ---- containers

changed_at : (b : Bool) (g : List ℕ → List ℕ) (f : Life → Life) (c : Container) (r : Option Container)
    → life_of (if b then Some (made g f c) else r) ≡ (if b then Some (f c.life) else life_of r)
changed_at true g f c r = refl
changed_at false g f c r = refl

life_at : (b : Bool) (c : Container) (r : Option Container) → life_of (if b then Some c else r) ≡ (if b then Some c.life else life_of r)
life_at true c r = refl
life_at false c r = refl

mapped_at : (f : Life → Life) (b : Bool) (l : Life) (r : Option Life) → option_map f (if b then Some l else r) ≡ (if b then Some (f l) else option_map f r)
mapped_at f true l r = refl
mapped_at f false l r = refl

-- the one that is changed, by whether it is hit first
same_cons : (b : Bool) (n : ℕ) (g : List ℕ → List ℕ) (f : Life → Life) (c : Container) (cs new : List Container) → (c.number == n) ≡ b
    → life_of (find (λ c. c.number == n) new) ≡ option_map f (life_of (find (λ c. c.number == n) cs))
    → life_of (find (λ c. c.number == n) (if b then made g f c ∷ cs else c ∷ new)) ≡ option_map f (life_of (find (λ c. c.number == n) (c ∷ cs)))
same_cons true n g f c cs new e more =
    ap (λ b. life_of (if b then Some (made g f c) else find (λ c. c.number == n) cs)) e ∙ sym (ap (λ b. option_map f (life_of (if b then Some c else find (λ c. c.number == n) cs))) e)
same_cons false n g f c cs new e more =
    ap (λ b. life_of (if b then Some c else find (λ c. c.number == n) new)) e ∙ (more ∙ sym (ap (λ b. option_map f (life_of (if b then Some c else find (λ c. c.number == n) cs))) e))

pub life_changed : (n : ℕ) (g : List ℕ → List ℕ) (f : Life → Life) (cs : List Container)
    → life_of (find (λ c. c.number == n) (update_first (λ c. c.number == n) (made g f) cs)) ≡ option_map f (life_of (find (λ c. c.number == n) cs))
life_changed n g f [] = refl
life_changed n g f (c ∷ cs) = same_cons (c.number == n) n g f c cs (update_first (λ c. c.number == n) (made g f) cs) refl (life_changed n g f cs)

other_cons : (b : Bool) (n m : ℕ) (g : List ℕ → List ℕ) (f : Life → Life) (c : Container) (cs new : List Container) → (c.number == n) ≡ b → n ≢ m
    → find (λ c. c.number == m) new ≡ find (λ c. c.number == m) cs
    → find (λ c. c.number == m) (if b then made g f c ∷ cs else c ∷ new) ≡ find (λ c. c.number == m) (c ∷ cs)
other_cons true n m g f c cs new e other more =
    let off : (c.number == m) ≡ false = is_off (c.number == m) refl in
    ap (λ b. if b then Some (made g f c) else find (λ c. c.number == m) cs) off ∙ sym (ap (λ b. if b then Some c else find (λ c. c.number == m) cs) off)
  where
    is_off : (t : Bool) → (c.number == m) ≡ t → t ≡ false
    is_off true h = absurd (other (sym (eqb-true c.number n e) ∙ eqb-true c.number m h))
    is_off false h = refl
other_cons false n m g f c cs new e other more = ap (λ r. if c.number == m then Some c else r) more

pub other_changed : (n m : ℕ) (g : List ℕ → List ℕ) (f : Life → Life) (cs : List Container) → n ≢ m
    → find (λ c. c.number == m) (update_first (λ c. c.number == n) (made g f) cs) ≡ find (λ c. c.number == m) cs
other_changed n m g f [] other = refl
other_changed n m g f (c ∷ cs) other = other_cons (c.number == n) n m g f c cs (update_first (λ c. c.number == n) (made g f) cs) refl other (other_changed n m g f cs other)

pub leads_renew : {Local : Parts → Type 0} {n : ℕ} {P Q : Parts → Type 0} (f : State → Life → Life)
    → ((s : State) → 1 ≤ s.next_pid → (v : Parts) → P v → Q (record v { life = option_map (f s) v.life }))
    → ((s : State) (v : Parts) → P v → (p : Process) → Watches v p → Watches (record v { life = option_map (f s) v.life }) p)
    → ((s : State) (v : Parts) → P v → Roomy v → Roomy (record v { life = option_map (f s) v.life })) → Leads Local n P (λ s. renew n (f s) s) Q
leads_renew {Local} {n} {P} {Q} f k keeps rooms = record {
  holds = λ s h.
      let t : State = record s { containers = update_first (λ c. c.number == n) (made (λ name. name) (f s)) s.containers } in
      let lives : parts_of n t ≡ record (parts_of n s) { life = option_map (f s) (parts_of n s).life } =
      ap (λ l. record (parts_of n s) { life = l }) (life_changed n (λ name. name) (f s) s.containers) in
      let others : (m : ℕ) → n ≢ m → parts_of m t ≡ parts_of m s = λ m other. ap (λ l. record (parts_of m s) { life = life_of l }) (other_changed n m (λ name. name) (f s) s.containers other) in (
        (
          subst AreDistinct (sym (map_updated (λ (c : Container). c.number) (λ c. c.number == n) (made (λ name. name) (f s)) s.containers (λ c. refl))) h.0.0,
          h.0.1,
          h.0.2,
          h.0.3,
          h.0.4,
          h.0.5,
          execs_moved (λ j p. Watches (parts_of j s) p) (λ j p. Watches (parts_of j t) p) s.execs s.processes s.processes (λ m. refl)
              (watched n s t others (λ p w. subst (λ v. Watches v p) (sym lives) (keeps s (parts_of n s) h.2 p w))) h.0.6,
          record { mains = roomed n s t others (subst Roomy (sym lives) (rooms s (parts_of n s) h.2 (h.0.7.mains n))) h.0.7.mains; outputs = h.0.7.outputs; empty = h.0.7.empty },
        ),
        λ m other. subst Local (sym (others m other)) (h.1 m other),
        subst Q (sym lives) (k s h.0.4 (parts_of n s) h.2),
      );
}
