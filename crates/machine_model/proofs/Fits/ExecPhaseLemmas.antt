-- The execs of a container while it ends, wakes or pauses: none is left, or all are frozen as it is.
use Rattle.std.proofs.Common.{◌≡◌, ◌≢◌, ℕ, ◌==◌, Bool, true, false, Option, Some, None, refl, ap, sym, ◌∙◌, subst, inl, inr, arith}
use Rattle.std.proofs.lemmas.Bool.Decides.{eqb_tells}
use Rattle.std.specs.Prelude.{option_map, is_some}
use Rattle.proc_kernel.specs.Processes.{Process, is_frozen, thaw, freeze, frozen_pace}
use Rattle.proc_kernel.specs.Tables.{process_of, effect_of}
use Rattle.machine_model.specs.State.{State, exec_numbered, change_life}
use Rattle.machine_model.specs.Consistency.{AreDistinct}
use Rattle.machine_model.specs.Effects.EndMain.{end_exec, end_execs}
use Rattle.machine_model.specs.Effects.Meet.{by_effect, stepped, step_process, thaw_execs}
use Rattle.machine_model.specs.Calls.Pause.{freeze_process, freeze_execs}
use Rattle.machine_model.proofs.Fold.RowLemmas.{made}
use Rattle.machine_model.proofs.ChangeLemmas.{map_updated}
use Rattle.machine_model.proofs.Tables.ProcessLemmas.{changed_stands}
use Rattle.machine_model.proofs.Processes.PaceLemmas.{thaw_goes}
use Rattle.machine_model.proofs.Fits.LogRoomLemmas.{room_renewed}
use Rattle.machine_model.proofs.Processes.LimitLemmas.{thaw_fits, freeze_fits}
use Rattle.machine_model.proofs.Fits.PartLemmas.{Roomy, roomed, Parts, parts_of, life_of, IcyAs, Watches, Watch, exec_moved, execs_moved, SteadyBy, Steady, life_changed, other_changed}
use Rattle.machine_model.proofs.Fits.MainPartLemmas.{NoExecs, exec_process_by}
use Rattle.machine_model.proofs.Fits.ExecLoopLemmas.{Touches, AllDone, running_loop, end_exec_steady, end_exec_none, touches_end, touches_process, touches_step, exec_step_steady}
use Rattle.engine_text.specs.declared.script.Pace.TheVariants.{Running as Goes, Frozen}
use Rattle.engine_text.specs.declared.script.Pace.{Pace}
use Rattle.engine_text.specs.declared.container.Container.{Container}
use Rattle.engine_text.specs.declared.container.Life.{Life}
use Rattle.engine_text.specs.declared.exec.Exec.{Exec}
use Rattle.engine_text.specs.declared.owner.Owner.TheVariants.{Exec as OfExec}
use Rattle.engine_text.specs.declared.script.Effect.{Effect as ProcessEffect}
use Rattle.engine_text.specs.declared.script.Effect.TheVariants.{Lives, Wrote, Ended}

-- ---- whatever the execs of one container are frozen as

abbrev pub Loosely : ℕ → ℕ → Parts → Process → Type 0
Loosely n k v p = (is_some v.main ≡ true) × (n ≢ k → IcyAs v.life p)

pub loosen : (Local : Parts → Type 0) (n : ℕ) (P : Parts → Type 0) (s : State) → Steady Local n P s → SteadyBy (Loosely n) Local n P s
loosen Local n P s h = (
  (
    h.0.0,
    h.0.1,
    h.0.2,
    h.0.3,
    h.0.4,
    h.0.5,
    execs_moved (λ j p. Watches (parts_of j s) p) (λ j p. Loosely n j (parts_of j s) p) s.execs s.processes s.processes (λ m. refl) (λ k p w. (w.0, λ other. w.1)) h.0.6,
    h.0.7,
  ),
  h.1,
  h.2,
)

pub tighten : (Local : Parts → Type 0) (n : ℕ) (P : Parts → Type 0) (s : State)
    → ((m : ℕ) (x : Exec) (q : Process) → exec_numbered m s ≡ Some x → x.container ≡ n → process_of (OfExec m) s.processes ≡ Some q → is_some (parts_of n s).main ≡ true → P (parts_of n s) → IcyAs (parts_of n s).life q)
    → SteadyBy (Loosely n) Local n P s → Steady Local n P s
tighten Local n P s icy h = (
  (
    h.0.0,
    h.0.1,
    h.0.2,
    h.0.3,
    h.0.4,
    h.0.5,
    λ m. exec_moved (λ j p. Loosely n j (parts_of j s) p) (λ j p. Watches (parts_of j s) p) (exec_numbered m s) (process_of (OfExec m) s.processes)
        (λ x q e f w. (
          w.0,
          elim (eqb_tells n x.container) [
            | inl is ↦ subst (λ j. IcyAs (parts_of j s).life q) is.1 (icy m x q e (sym is.1) f (subst (λ j. is_some (parts_of j s).main ≡ true) (sym is.1) w.0) h.2)
            | inr other ↦ w.1 other.1
          ],
        )) (h.0.6 m),
    h.0.7,
  ),
  h.1,
  h.2,
)

pub renew_loosely : (Local : Parts → Type 0) (n : ℕ) (P Q : Parts → Type 0) (f : Life → Life) → ((v : Parts) → P v → Q (record v { life = option_map f v.life })) → ((l : Life) → (f l).log ≡ l.log) → (s : State) → SteadyBy (Loosely n) Local n P s
    → SteadyBy (Loosely n) Local n Q (change_life n f s)
renew_loosely Local n P Q f k log s h =
    let t : State = change_life n f s in
    let lives : parts_of n t ≡ record (parts_of n s) { life = option_map f (parts_of n s).life } = ap (λ l. record (parts_of n s) { life = l }) (life_changed n (λ name. name) f s.containers) in
    let others : (m : ℕ) → n ≢ m → parts_of m t ≡ parts_of m s = λ m other. ap (λ l. record (parts_of m s) { life = life_of l }) (other_changed n m (λ name. name) f s.containers other) in (
      (
        subst AreDistinct (sym (map_updated (λ (c : Container). c.number) (λ c. c.number == n) (made (λ name. name) f) s.containers (λ c. refl))) h.0.0,
        h.0.1,
        h.0.2,
        h.0.3,
        h.0.4,
        h.0.5,
        execs_moved (λ j p. Loosely n j (parts_of j s) p) (λ j p. Loosely n j (parts_of j t) p) s.execs s.processes s.processes (λ m. refl)
            (λ j p w. (w.0, λ other. subst (λ v. IcyAs v.life p) (sym (others j other)) (w.1 other))) h.0.6,
        record { mains = roomed n s t others (subst Roomy (sym lives) (room_renewed f log (parts_of n s).life (parts_of n s).main (h.0.7.mains n))) h.0.7.mains; outputs = h.0.7.outputs; empty = h.0.7.empty },
      ),
      λ m other. subst Local (sym (others m other)) (h.1 m other),
      subst Q (sym lives) (k (parts_of n s) h.2),
    )

-- ---- all end

pub end_all : (Local : Parts → Type 0) (n : ℕ) (P : Parts → Type 0) (s : State) → Steady Local n P s → Steady Local n P (end_execs n s).state × NoExecs n (end_execs n s).state
end_all Local n P s h =
    let all = running_loop n (λ p. p ≡ None) refl (Steady Local n P) (λ (x : Exec). end_exec 137 x.number)
    (λ x s own i. (end_exec_steady Watch Local n P 137 x.number s i, touches_end 137 x.number s, λ y e. end_exec_none Watch Local n P 137 x.number s i)) s h.0.5 h in
    (all.0, λ m x e c. all.1 m x e c)

-- ---- all thaw

abbrev pub PacedAs : Bool → Option Process → Type 0
PacedAs b p = (q : Process) → p ≡ Some q → is_frozen q.pace ≡ b

mapped_paced : (b : Bool) (f : Process → Process) (p : Option Process) → ((q : Process) → is_frozen (f q).pace ≡ b) → PacedAs b (option_map f p)
mapped_paced b f None k q e = absurd (cc)
mapped_paced b f (Some r) k q e = ap (λ (o : Option Process). pace_in o) (sym e) ∙ k r
  where
    pace_in : Option Process → Bool
    pace_in None = false
    pace_in (Some p) = is_frozen p.pace

after_effect : (n : ℕ) (Local : Parts → Type 0) (P : Parts → Type 0) (b : Bool) (e : ProcessEffect) (k : ℕ) (s : State) → SteadyBy (Loosely n) Local n P s → PacedAs b (process_of (OfExec k) s.processes)
    → PacedAs b (process_of (OfExec k) (by_effect e (OfExec k) s).state.processes)
after_effect n Local P b Lives k s h paced = paced
after_effect n Local P b (Wrote stream payload) k s h paced = paced
after_effect n Local P b (Ended code) k s h paced = λ q e. let no_way : None ≡ Some q = sym (end_exec_none (Loosely n) Local n P code k s h) ∙ e in absurd (cc)

own_loosely : (n : ℕ) (s : State) (x : Exec) (q r : Process) → x.container ≡ n → Loosely n x.container (parts_of x.container s) q → Loosely n x.container (parts_of x.container s) r
own_loosely n s x q r is w = (w.0, λ other. absurd (other (sym is)))

thaws_one : (Local : Parts → Type 0) (n : ℕ) (P : Parts → Type 0) (k : ℕ) (s : State) → ((y : Exec) → exec_numbered k s ≡ Some y → y.container ≡ n) → SteadyBy (Loosely n) Local n P s
    → SteadyBy (Loosely n) Local n P (step_process thaw (OfExec k) s).state × Touches k s (step_process thaw (OfExec k) s).state
    × ((y : Exec) → exec_numbered k (step_process thaw (OfExec k) s).state ≡ Some y → PacedAs false (process_of (OfExec k) (step_process thaw (OfExec k) s).state.processes))
thaws_one Local n P k s own i =
    let keeps = λ (x : Exec) (q : Process) (e : exec_numbered k s ≡ Some x) (f : process_of (OfExec k) s.processes ≡ Some q) (w : Loosely n x.container (parts_of x.container s) q).
    own_loosely n s x q (thaw s.clock q).process (own x e) w in
    let moved : SteadyBy (Loosely n) Local n P (stepped thaw (OfExec k) s) = exec_process_by (Loosely n) Local n P k (λ p. (thaw s.clock p).process) s keeps (λ q. let r = (thaw_fits s.clock q).room in omega (arith, r)) i in (
      exec_step_steady (Loosely n) Local n P thaw thaw_fits k s keeps i,
      touches_step thaw k s,
      λ y e. after_effect n Local P false (effect_of (thaw s.clock) (process_of (OfExec k) s.processes)) k (stepped thaw (OfExec k) s) moved
          (subst (PacedAs false) (sym (changed_stands (OfExec k) (λ p. (thaw s.clock p).process) s.processes))
          (mapped_paced false (λ p. (thaw s.clock p).process) (process_of (OfExec k) s.processes) (λ q. thaw_goes s.clock q))),
    )

none_paced : (b : Bool) → PacedAs b None
none_paced b q e = absurd (cc)

pub thaw_all : (Local : Parts → Type 0) (n : ℕ) (P : Parts → Type 0) (s : State) → SteadyBy (Loosely n) Local n P s
    → SteadyBy (Loosely n) Local n P (thaw_execs n s).state × AllDone n (PacedAs false) (thaw_execs n s).state
thaw_all Local n P s h =
    running_loop n (PacedAs false) (none_paced false) (SteadyBy (Loosely n) Local n P) (λ (x : Exec). step_process thaw (OfExec x.number)) (λ x s own i. thaws_one Local n P x.number s own i) s h.0.5 h

-- ---- all are frozen

frozen_so : (t : ℕ) (pace : Pace) → is_frozen (frozen_pace t pace) ≡ true
frozen_so t (Goes due) = refl
frozen_so t (Frozen left) = refl

pub freeze_all : (Local : Parts → Type 0) (n : ℕ) (P : Parts → Type 0) (s : State) → SteadyBy (Loosely n) Local n P s
    → SteadyBy (Loosely n) Local n P (freeze_execs n s).state × AllDone n (PacedAs true) (freeze_execs n s).state
freeze_all Local n P s h =
    running_loop n (PacedAs true) (none_paced true) (SteadyBy (Loosely n) Local n P) (λ (x : Exec). freeze_process (OfExec x.number))
    (λ x s own i. (
      exec_process_by (Loosely n) Local n P x.number (freeze s.clock) s (λ y q e f w. own_loosely n s y q (freeze s.clock q) (own y e) w) (λ q. (freeze_fits s.clock q).room) i,
      touches_process x.number (freeze s.clock) s,
      λ y e. subst (PacedAs true) (sym (changed_stands (OfExec x.number) (freeze s.clock) s.processes))
          (mapped_paced true (freeze s.clock) (process_of (OfExec x.number) s.processes) (λ q. frozen_so s.clock q.pace)),
    )) s h.0.5 h
