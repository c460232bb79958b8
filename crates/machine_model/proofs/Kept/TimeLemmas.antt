-- No process's times lie behind the clock or more than a week ahead, no timer's before it, and waiting input keeps its limit, through every effect.
use Rattle.std.proofs.Common.{◌≡◌, ℕ, ◌+◌, ◌≤◌, Bool, true, false, List, [], ◌∷◌, Option, Some, None, if◌then◌else◌, length, refl, ap, sym, ◌∙◌, subst, arith}
use Rattle.std.specs.List.{AllByRecursion}
use Rattle.engine_text.specs.Owner.{same_owner}
use Rattle.engine_text.specs.Scripts.{Program}
use Rattle.proc_kernel.specs.Processes.{Process, ProcessStep, feed, spawn as spawned}
use Rattle.proc_kernel.specs.Tables.{Entry, process_of, effect_of, room_at}
use Rattle.proc_kernel.specs.Tables as tables
use Rattle.proc_kernel.specs.Times.{AreShort, IsTimely}
use Rattle.proc_kernel.proofs.TimeLemmas.{spawn_timely, feed_timely}
use Rattle.machine_model.specs.State.{State, change_process}
use Rattle.machine_model.specs.Chain.{Effect, after, still}
use Rattle.machine_model.specs.Effects.Launch.{container_room}
use Rattle.machine_model.specs.Calls.ExecStart.{exec_room}
use Rattle.machine_model.proofs.ListLemmas.{all_append}
use Rattle.machine_model.proofs.Tables.ProcessLemmas.{All_changed, All_without}
use Rattle.machine_model.proofs.Processes.LimitLemmas.{size, IsStep, feed_size}
use Rattle.machine_model.proofs.Costs.CostLemmas.{Cost, none, AreFrom, IsPriced, write_part}
use Rattle.machine_model.proofs.Costs.ExecEndLemmas.{Level, level_end, level_ends, left_by_end, left_by_ends}
use Rattle.engine_text.specs.declared.owner.Owner.{Owner}
use Rattle.engine_text.specs.declared.owner.Owner.TheVariants.{Container as OfContainer, Exec as OfExec}
use Rattle.engine_text.specs.declared.script.Effect.{Effect as ProcessEffect}
use Rattle.engine_text.specs.declared.script.Effect.TheVariants.{Lives, Wrote, Ended}
use Rattle.engine_text.specs.declared.step.DueAction.{DueAction}

-- a process at a moment
abbrev pub FitsAt : ℕ → Entry → Type 0
FitsAt t e = IsTimely t e.process × (size e.process ≤ 1048576)

abbrev pub TimesOf : ℕ → List Entry → List DueAction → Type 0
TimesOf t es ds = AllByRecursion (FitsAt t) es × AreFrom t ds

abbrev pub Times : State → Type 0
Times s = TimesOf s.clock s.processes s.timers

abbrev pub KeepsTimes : Cost → State → Effect → Type 0
KeepsTimes x s e = Times s → Times e.state

-- a change of the process that is found
found_by : (P : Entry → Type 0) (o : Owner) (f : Process → Process) (b : Bool) (e : Entry) (es new : List Entry) → same_owner e.owner o ≡ b
    → ((d : Entry) → (if same_owner e.owner o then Some e.process else process_of o es) ≡ Some d.process → P d → P (record d { process = f d.process })) → P e → AllByRecursion P es
    → (((d : Entry) → process_of o es ≡ Some d.process → P d → P (record d { process = f d.process })) → AllByRecursion P new) → AllByRecursion P (if b then record e { process = f e.process } ∷ es else e ∷ new)
found_by P o f true e es new is k pe rest more = (k e (ap (λ b. if b then Some e.process else process_of o es) is) pe, rest)
found_by P o f false e es new is k pe rest more = (pe, more (λ d found p. k d (ap (λ b. if b then Some e.process else process_of o es) is ∙ found) p))

pub all_found : (P : Entry → Type 0) (o : Owner) (f : Process → Process) (es : List Entry) → ((e : Entry) → process_of o es ≡ Some e.process → P e → P (record e { process = f e.process })) → AllByRecursion P es
    → AllByRecursion P (tables.change o f es)
all_found P o f [] k h = tt
all_found P o f (e ∷ es) k h = found_by P o f (same_owner e.owner o) e es (tables.change o f es) refl k h.0 h.1 (λ more. all_found P o f es more h.1)

times_level : (s t : State) → Level s t → AllByRecursion (FitsAt s.clock) t.processes → Times s → Times t
times_level s t h left times =
    (subst (λ m. AllByRecursion (FitsAt m) t.processes) (sym h.clock) left, subst (λ m. AreFrom m t.timers) (sym h.clock) (subst (AreFrom s.clock) (sym h.timers) times.1))

step_times : (s : State) (owner : Owner) (step : ℕ → Process → ProcessStep) → IsStep step → (e : ProcessEffect)
    → KeepsTimes none s (after (still (change_process owner (λ p. (step s.clock p).process) s)) (write_part e owner (change_process owner (λ p. (step s.clock p).process) s)))
step_times s owner step is e times =
    let left = All_changed (FitsAt s.clock) owner (λ p. (step s.clock p).process)
    (λ e h. ((is s.clock e.process).timely h.0, let less = (is s.clock e.process).input in omega (arith, less, h.1))) s.processes times.0 in
    writes e owner left
  where
    writes : (e : ProcessEffect) (owner : Owner) → AllByRecursion (FitsAt s.clock) (tables.change owner (λ p. (step s.clock p).process) s.processes)
        → Times (after (still (change_process owner (λ p. (step s.clock p).process) s)) (write_part e owner (change_process owner (λ p. (step s.clock p).process) s))).state
    writes Lives o left = (left, times.1)
    writes (Ended code) o left = (left, times.1)
    writes (Wrote stream payload) (OfContainer n) left = (left, times.1)
    writes (Wrote stream payload) (OfExec n) left = (left, times.1)

spawned_fits : (program : Program) (t : ℕ) (stdin : Bool) (room : ℕ) (o : Owner) → AreShort program.ops → FitsAt t (tables.begun o (spawned program t stdin room))
spawned_fits program t stdin room o short = (spawn_timely program t stdin room short, omega arith)

fed : (bytes : List ℕ) (t : ℕ) (o : Option Process) (p : Process) → o ≡ Some p → length bytes ≤ room_at o → size p ≤ 1048576 → size (feed bytes t p) ≤ 1048576
fed bytes t None p e fits low = absurd (cc)
fed bytes t (Some q) p e fits low =
    let room : length bytes ≤ room_at (Some p) = subst (λ o. length bytes ≤ room_at o) e fits in
    let more : size (feed bytes t p) ≡ size p + length bytes = feed_size bytes t p in
    omega (arith, room, more, low)

pub times_priced : IsPriced (Unit {0}) (λ n. Unit {0}) KeepsTimes
times_priced = record {
  on_still = λ s h. h;
  on_after = λ x y s a b first second h. second (first h);
  on_more = λ x y s e low h. h;
  on_told = λ s v at h. h;
  on_mounts = λ s a c found h. h;
  on_ended = λ s d h. h;
  on_renew = λ s n f mark h. h;
  on_retry = λ s n h. h;
  on_step = λ s owner step is. step_times s owner step is (effect_of (step s.clock) (process_of owner s.processes));
  on_move = λ s owner f fits h.
      (All_changed (FitsAt s.clock) owner f (λ e k. ((fits e.process).timely k.0, let less = (fits e.process).input in omega (arith, less, k.1))) s.processes h.0, h.1);
  on_feed = λ s owner bytes fits h.
      (all_found (FitsAt s.clock) owner (feed bytes s.clock) s.processes (λ e found k. (feed_timely bytes s.clock e.process k.0, fed bytes s.clock (process_of owner s.processes) e.process found (fits tt) k.1)) h.0, h.1);
  on_drop = λ s n h. (All_without (FitsAt s.clock) (OfContainer n) s.processes h.0, h.1);
  on_end_exec = λ s code n p e h. times_level s _ (level_end code n s) (left_by_end (FitsAt s.clock) code n s h.0) h;
  on_end_execs = λ s n h. times_level s _ (level_ends n s) (left_by_ends (FitsAt s.clock) n s h.0) h;
  on_launch = λ s c program found short h. (
    all_append (FitsAt s.clock) s.processes _ h.0 (spawned_fits program s.clock c.life.open_stdin (container_room c) (OfContainer c.number) short, tt),
    h.1,
  );
  on_start_exec = λ s id x program stdin found fresh short h.
      (all_append (FitsAt s.clock) s.processes _ h.0 (spawned_fits program s.clock stdin exec_room (OfExec x.number) short, tt), h.1);
  on_timers = λ s timers keeps h. (h.0, keeps h.1);
  on_destroyed = λ s c there h. h;
  on_begun = λ s connection c asked there h. h;
  on_time_out = λ s c h. h;
  on_end_ticket = λ s n ends h. h;
  on_volumes = λ s name labels free h. h;
  on_gone_volume = λ s name unused h. h;
  on_made = λ s name spec most free stand h. h;
  on_made_exec = λ s c words stdin out err there h. h;
  on_renamed = λ s c name there free h. h;
}
