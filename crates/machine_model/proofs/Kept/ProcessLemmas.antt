-- What the states behind every step say of processes, dues, logs and counts.
use Rattle.std.specs.Option.{is_some}
use Rattle.std.proofs.Common.{◌≡◌, ◌≢◌, ℕ, ◌+◌, ◌≤◌, ◌==◌, Bool, true, false, not, List, [], ◌∷◌, Option, Some, None, if◌then◌else◌, find, filter, map, length, refl, ap, sym, ◌∙◌, subst, arith}
use Rattle.std.specs.List.{AllByRecursion}
use Rattle.proc_kernel.specs.Processes.{Process, next_due, due_of}
use Rattle.proc_kernel.specs.Tables.{Entry, process_of}
use Rattle.proc_kernel.specs.Tables as tables
use Rattle.proc_kernel.specs.Times.{IsNear, IsPaced}
use Rattle.machine_model.specs.State.{State, container_numbered, exec_numbered}
use Rattle.machine_model.specs.Consistency.{AreDistinct, is_there, IsFrozenLike, FollowsMain, HasOwner, HasExecPid, HasProcesses, IsWithinLimits, live_execs}
use Rattle.machine_model.specs.History.{greatest_moment}
use Rattle.machine_model.specs.Effects.Launch.{log_size}
use Rattle.machine_model.proofs.ListLemmas.{all_append, all_weaken, all_of_mapped}
use Rattle.machine_model.proofs.DueLemmas.{own_process, all_actions}
use Rattle.machine_model.proofs.Tables.ProcessLemmas.{gone_others}
use Rattle.machine_model.proofs.Fold.RowLemmas.{same_some}
use Rattle.machine_model.proofs.Tables.NumberLemmas.{is_not}
use Rattle.machine_model.proofs.Fits.ExecLoopLemmas.{own_exec}
use Rattle.machine_model.proofs.Fits.LogRoomLemmas.{RoomBy, OutputFits}
use Rattle.machine_model.proofs.Fits.PartLemmas.{Parts, parts_of, life_of, IcyAs, Watches, ExecBy}
use Rattle.machine_model.proofs.Fits.LaunchLemmas.{Fine, OnBy}
use Rattle.machine_model.proofs.Fits.CallLemmas.{PartsFit}
use Rattle.machine_model.proofs.Fits.StepLemmas.{mains_have, own_container}
use Rattle.machine_model.proofs.Kept.EventLemmas.{paid_for, without_exec}
use Rattle.machine_model.proofs.Kept.TimeLemmas.{FitsAt, Times}
use Rattle.machine_model.proofs.Processes.LimitLemmas.{size}
use Rattle.engine_text.specs.declared.script.Pace.{Pace}
use Rattle.engine_text.specs.declared.script.Pace.TheVariants.{Running, Frozen}
use Rattle.engine_text.specs.declared.container.Container.{Container}
use Rattle.engine_text.specs.declared.container.Life.{Life}
use Rattle.engine_text.specs.declared.exec.Exec.{Exec}
use Rattle.engine_text.specs.declared.log.OwnedLog.{OwnedLog}
use Rattle.engine_text.specs.declared.owner.Owner.{Owner}
use Rattle.engine_text.specs.declared.owner.Owner.TheVariants.{Container as OfContainer, Exec as OfExec}
use Rattle.engine_text.specs.declared.step.DueAction.{DueAction}

-- ---- processes

alike_by : (o : Option Life) (main : Option Process) (a b c : Bool) (q : Process) → is_some main ≡ true → IcyAs o q → OnBy Fine o main a b c → IsFrozenLike (Some q) main
alike_by None main a b c q live icy h = absurd icy
alike_by (Some l) None a b c q live icy h = absurd (cc)
alike_by (Some l) (Some m) a b c q live icy h = icy ∙ sym h.0.frozen

follows_by : (s : State) (x : Exec) (p : Option Process) → ExecBy (λ k q. Watches (parts_of k s) q) (Some x) p → PartsFit s → IsFrozenLike p (process_of (OfContainer x.container) s.processes)
follows_by s x None h mains = tt
follows_by s x (Some q) h mains =
    let v : Parts = parts_of x.container s in
    alike_by v.life v.main v.stop v.removal v.restart q h.2.0 h.2.1 (mains.1 x.container)

pid_by : (s : State) (x : Exec) (p : Option Process) → ExecBy (λ k q. Watches (parts_of k s) q) (Some x) p → not (x.pid == 0) ≡ is_some p
pid_by s x None h = h
pid_by s x (Some q) h = h.0

main_there : (o : Option Container) (p : Option Process) (a b c : Bool) (q : Process) → p ≡ Some q → OnBy Fine (life_of o) p a b c → is_there o ≡ true
main_there None p a b c q e h = let no_way : None ≡ Some q = sym h.0 ∙ e in absurd (cc)
main_there (Some x) p a b c q e h = refl

exec_there : (W : ℕ → Process → Type 0) (o : Option Exec) (p : Option Process) (q : Process) → p ≡ Some q → ExecBy W o p → is_there o ≡ true
exec_there W None p q e h = let no_way : None ≡ Some q = sym h ∙ e in absurd (cc)
exec_there W (Some x) p q e h = refl

owner_stands : (s : State) (o : Owner) (q : Process) → process_of o s.processes ≡ Some q → PartsFit s → HasOwner s o
owner_stands s (OfContainer n) q e h = main_there (container_numbered n s) (parts_of n s).main (parts_of n s).stop (parts_of n s).removal (parts_of n s).restart q e (h.1 n)
owner_stands s (OfExec n) q e h = exec_there (λ k q. Watches (parts_of k s) q) (exec_numbered n s) (process_of (OfExec n) s.processes) q e (h.0.6 n)

own_fits : (s : State) (x : Exec) → exec_numbered x.number s ≡ Some x → PartsFit s → ExecBy (λ k q. Watches (parts_of k s) q) (Some x) (process_of (OfExec x.number) s.processes)
own_fits s x own h = subst (λ o. ExecBy (λ k q. Watches (parts_of k s) q) o (process_of (OfExec x.number) s.processes)) own (h.0.6 x.number)

pub has_processes : (s : State) → PartsFit s → HasProcesses s
has_processes s h =
    let mains = mains_have s h in
    record {
      mains = mains.0;
      frozen = mains.1;
      execs = all_weaken (λ (x : Exec). exec_numbered x.number s ≡ Some x) (FollowsMain s) (λ x own. follows_by s x (process_of (OfExec x.number) s.processes) (own_fits s x own h) h) s.execs (own_exec s.execs h.0.5);
      single = mains.3;
      owners = all_weaken (λ (e : Entry). process_of e.owner s.processes ≡ Some e.process) (λ e. HasOwner s e.owner) (λ e own. owner_stands s e.owner e.process own h) s.processes (own_process s.processes h.0.1);
      pids = mains.2;
      exec_pids = all_weaken (λ (x : Exec). exec_numbered x.number s ≡ Some x) (HasExecPid s) (λ x own. pid_by s x (process_of (OfExec x.number) s.processes) (own_fits s x own h)) s.execs (own_exec s.execs h.0.5);
    }

-- ---- limits

near_from : (t m : ℕ) (o : Option ℕ) → o ≡ Some m → IsNear t o → t ≤ m
near_from t m None e h = absurd (cc)
near_from t m (Some k) e h = let same : k ≡ m = same_some k m e in omega (arith, same, h.0)

due_from : (t m : ℕ) (pace : Pace) → due_of pace ≡ Some m → IsPaced t pace → t ≤ m
due_from t m (Running due) e h = near_from t m due e h
due_from t m (Frozen left) e h = absurd (cc)

log_least : (o : Option Life) (l : Life) (p : Option Process) → o ≡ Some l → RoomBy o p → log_size l.log ≤ 4194304
log_least None l p e h = absurd (cc)
log_least (Some k) l p e h = let same : log_size k.log ≡ log_size l.log = ap size_in e in omega (arith, same, h)
  where
    size_in : Option Life → ℕ
    size_in None = 0
    size_in (Some x) = log_size x.log

pub within_limits : (s : State) → PartsFit s → Times s → s.clock ≤ greatest_moment → IsWithinLimits s
within_limits s mains times clock = record {
  dues = all_append (λ (d : DueAction). s.clock ≤ d.moment) _ s.timers
      (all_actions (λ (d : DueAction). s.clock ≤ d.moment) s.processes
      (all_weaken (FitsAt s.clock) (λ e. (moment : ℕ) → next_due e.process ≡ Some moment → s.clock ≤ moment) (λ e fits moment due. due_from s.clock moment e.process.pace due fits.0.pace) s.processes times.0)) times.1;
  clock = clock;
  logs = all_weaken (λ (c : Container). find (λ d. d.number == c.number) s.containers ≡ Some c) (λ c. log_size c.life.log ≤ 4194304)
      (λ c own. log_least (life_of (container_numbered c.number s)) c.life (process_of (OfContainer c.number) s.processes) (ap life_of own) (mains.0.7.mains c.number)) s.containers (own_container s.containers mains.0.0);
  outputs = all_weaken (OutputFits s.processes) (λ (o : OwnedLog). log_size o.log ≤ 1048576) (λ o fits. omega (arith, fits)) s.outputs mains.0.7.outputs;
  input = all_weaken (FitsAt s.clock) (λ e. size e.process ≤ 1048576) (λ e fits. fits.1) s.processes times.0;
}

-- ---- running execs and their processes

filter_cons : (a b : Bool) (x : Exec) (ys zs : List Exec) → a ≡ b → length ys ≡ length zs → length (if a then x ∷ ys else ys) ≡ length (if b then x ∷ zs else zs)
filter_cons true true x ys zs e h = let one : length (x ∷ ys) ≡ 1 + length ys = omega arith in let two : length (x ∷ zs) ≡ 1 + length zs = omega arith in omega (arith, one, two, h)
filter_cons false false x ys zs e h = h
filter_cons true false x ys zs e h = absurd (cc)
filter_cons false true x ys zs e h = absurd (cc)

filter_same : (p q : Exec → Bool) (xs : List Exec) → AllByRecursion (λ x. p x ≡ q x) xs → length (filter p xs) ≡ length (filter q xs)
filter_same p q [] h = refl
filter_same p q (x ∷ xs) h = filter_cons (p x) (q x) x (filter p xs) (filter q xs) h.0 (filter_same p q xs h.1)

live_by : (o : Option Process) (x : Exec) (xs : List Exec) (es : List Entry) → process_of (OfExec x.number) es ≡ o → AllByRecursion (λ y. x.number ≢ y.number) xs
    → ((fs : List Entry) → length (filter (λ y. is_some (process_of (OfExec y.number) fs)) xs) ≤ paid_for fs)
    → length (if is_some o then x ∷ filter (λ y. is_some (process_of (OfExec y.number) es)) xs else filter (λ y. is_some (process_of (OfExec y.number) es)) xs) ≤ paid_for es
live_by None x xs es e other more = more es
live_by (Some p) x xs es e other more =
    let fs : List Entry = tables.without (OfExec x.number) es in
    let less : paid_for es ≡ 1 + paid_for fs = without_exec x.number p es e in
    let rest : List Exec = filter (λ y. is_some (process_of (OfExec y.number) es)) xs in
    let left : List Exec = filter (λ y. is_some (process_of (OfExec y.number) fs)) xs in
    let same : length rest ≡ length left = filter_same (λ y. is_some (process_of (OfExec y.number) es)) (λ y. is_some (process_of (OfExec y.number) fs)) xs
    (all_weaken (λ (y : Exec). x.number ≢ y.number) (λ y. is_some (process_of (OfExec y.number) es) ≡ is_some (process_of (OfExec y.number) fs))
    (λ y differ. ap is_some (sym (gone_others (OfExec x.number) (OfExec y.number) es (is_not x.number y.number differ)))) xs other) in
    let few : length left ≤ paid_for fs = more fs in
    let longer : length (x ∷ rest) ≡ 1 + length rest = omega arith in
    omega (arith, less, same, few, longer)

live_least : (xs : List Exec) (es : List Entry) → AreDistinct (map (λ x. x.number) xs) → length (filter (λ y. is_some (process_of (OfExec y.number) es)) xs) ≤ paid_for es
live_least [] es h = omega arith
live_least (x ∷ xs) es h =
    live_by (process_of (OfExec x.number) es) x xs es refl (all_of_mapped (λ n. x.number ≢ n) (λ (y : Exec). y.number) xs h.0) (λ fs. live_least xs fs h.1)

pub live_paid : (s : State) → AreDistinct (map (λ x. x.number) s.execs) → length (live_execs s) ≤ paid_for s.processes
live_paid s h = live_least s.execs s.processes h
