-- Of which runs the records of logs are, in every state of a legal history.
use Rattle.std.proofs.Common.{◌≡◌, ◌≤◌, ◌==◌, ℕ, Bool, true, false, List, [], ◌∷◌, ◌++◌, Option, Some, None, cond, find, map, refl, ap, sym, ◌∙◌, subst, arith, length, length-append, if◌then◌else◌}
use Rattle.std.specs.Prelude.{nat_le, nat_lt, unwrap_or, option_map}
use Rattle.std.specs.List.{AllByRecursion, filter}
use Rattle.std.proofs.lemmas.Bool.{eqb-true, false≢true}
use Rattle.std.proofs.lemmas.Bool.Decides.{nat_tests}
use Rattle.std.proofs.lemmas.List.Elements.{filter-append}
use Rattle.engine_text.specs.declared.call.CreateSpec.{CreateSpec}
use Rattle.engine_text.specs.declared.container.Container.{Container}
use Rattle.engine_text.specs.declared.container.Life.{Life}
use Rattle.engine_text.specs.declared.exec.Exec.{Exec}
use Rattle.engine_text.specs.declared.log.LogRecord.{LogRecord}
use Rattle.engine_text.specs.declared.log.OwnedLog.{OwnedLog}
use Rattle.engine_text.specs.declared.step.DueAction.{DueAction}
use Rattle.engine_text.specs.declared.step.Step.{Step}
use Rattle.engine_text.specs.Owner.{same_owner}
use Rattle.engine_text.specs.declared.owner.Owner.{Owner}
use Rattle.engine_text.specs.declared.owner.Owner.TheVariants.{Container as OfContainer, Exec as OfExec}
use Rattle.machine_model.specs.State.{State, container_numbered, exec_numbered, is_live}
use Rattle.machine_model.specs.Chain.{Effect, still}
use Rattle.machine_model.specs.Call.{outcome_of}
use Rattle.machine_model.specs.Calls.Attach.{run_of}
use Rattle.machine_model.specs.Consistency.{IsUnstarted}
use Rattle.machine_model.specs.Due.{least_due, due_effect}
use Rattle.machine_model.specs.Effects.Destroy.{is_exec_of}
use Rattle.machine_model.specs.Effects.Meet.{logged, record_of}
use Rattle.machine_model.specs.History.{Charter, IsLegal, Extends, after_step, opening_state, state_after, state_from}
use Rattle.machine_model.specs.LogStream.{if_over, length_at_end, standing_log}
use Rattle.machine_model.specs.Step.{at_moment, step_of}
use Rattle.machine_model.specs.Streams.{Coming, Over, begun_state, run_state, state_of_run}
use Rattle.machine_model.proofs.ChangeLemmas.{all_filtered, all_removed, all_updated}
use Rattle.machine_model.proofs.ClosureLemmas.{IsClosed, runs_call, runs_due}
use Rattle.machine_model.proofs.Histories.{legal_front}
use Rattle.machine_model.proofs.Laws.{attach_law, consistency_law}
use Rattle.machine_model.proofs.ListLemmas.{all_append, all_weaken}
use Rattle.machine_model.proofs.Fold.RowLemmas.{same_some}
use Rattle.machine_model.proofs.ObeyLemmas.{found_all}

-- ---- of which runs

-- the records are of runs up to this one
abbrev pub AreUpTo : ℕ → List LogRecord → Type 0
AreUpTo run log = AllByRecursion (λ r. r.run ≤ run) log

-- a container's of those that have begun
abbrev OfBegun : Container → Type 0
OfBegun c = AreUpTo c.life.starts c.life.log

-- an exec's of its one run
abbrev OfFirst : OwnedLog → Type 0
OfFirst o = AreUpTo 1 o.log

abbrev Keep : List Container → List OwnedLog → Type 0
Keep cs os = AllByRecursion OfBegun cs × AllByRecursion OfFirst os

abbrev Kept : State → Type 0
Kept s = Keep s.containers s.outputs

abbrev Keeps : State → Effect → Type 0
Keeps s e = Kept s → Kept e.state

pub up_to : (m n : ℕ) (log : List LogRecord) → m ≤ n → AreUpTo m log → AreUpTo n log
up_to m n log le all = all_weaken (λ r. r.run ≤ m) (λ r. r.run ≤ n) (λ r h. omega (arith, h, le)) log all

-- ---- every effect

marked : (f : Life → Life) (c : Container) → (f c.life).log ≡ c.life.log → c.life.starts ≤ (f c.life).starts → OfBegun c
    → AreUpTo (f c.life).starts (f c.life).log
marked f c log starts all = subst (AreUpTo (f c.life).starts) (sym log) (up_to c.life.starts (f c.life).starts c.life.log starts all)

runs_closed : IsClosed Keeps
runs_closed = record {
  on_still = λ s h. h;
  on_after = λ s a b first second h. second (first h);
  on_told = λ s v at h. h;
  on_mounts = λ s a c h. h;
  on_ended = λ s d h. h;
  on_renew = λ s n f mark h. (
    all_updated OfBegun (λ c. c.number == n) (λ c. record c { life = f c.life }) (λ c all. marked f c (mark.log c.life) (mark.starts c.life) all) s.containers h.0,
    h.1,
  );
  on_log = λ s n stream payload h. (
    all_updated OfBegun (λ c. c.number == n) (λ c. record c { life = logged stream payload s.clock c.life })
        (λ c all. all_append (λ r. r.run ≤ c.life.starts) c.life.log (record_of c.life.starts stream payload s.clock ∷ []) all (omega arith, tt)) s.containers h.0,
    h.1,
  );
  on_output = λ s n stream payload h. (
    h.0,
    all_updated OfFirst (λ o. same_owner o.owner (OfExec n)) (λ o. record o { log = o.log ++ record_of 1 stream payload s.clock ∷ [] })
        (λ o all. all_append (λ r. r.run ≤ 1) o.log (record_of 1 stream payload s.clock ∷ []) all (omega arith, tt)) s.outputs h.1,
  );
  on_process = λ s owner f h. h;
  on_drop = λ s owner h. h;
  on_spawn = λ s owner program stdin room h. h;
  on_timers = λ s timers h. h;
  on_exec = λ s n f mark h. h;
  on_destroyed = λ s c found h. (
    all_removed OfBegun (λ d. d.number == c.number) s.containers h.0,
    all_filtered OfFirst _ s.outputs h.1,
  );
  on_begun = λ s connection c asked found h. h;
  on_time_out = λ s c h. h;
  on_end_ticket = λ s n h. h;
  on_made_volume = λ s name labels none h. h;
  on_gone_volume = λ s name unused h. h;
  on_made = λ s name spec free stand h. (all_append OfBegun s.containers _ h.0 (tt, tt), h.1);
  on_made_exec = λ s c words stdin out err found h. (h.0, all_append OfFirst s.outputs _ h.1 (tt, tt));
  on_renamed = λ s c name found free h. (all_updated OfBegun (λ d. d.number == c.number) _ (λ d all. all) s.containers h.0, h.1);
}

-- ---- histories

due_runs : (s : State) (d : Option DueAction) → Kept s → Kept (unwrap_or (step_of d s) (still s)).state
due_runs s None h = h
due_runs s (Some d) h = runs_due runs_closed d (at_moment d.moment s) h

step_runs : (s : State) (x : Step) → Kept s → Kept (after_step s x)
step_runs s Step.Due h = due_runs s (least_due s) h
step_runs s (Step.Call connection moment c) h = runs_call runs_closed c connection (at_moment moment s) h

runs_from : (s : State) (h : List Step) → Kept s → Kept (state_from s h)
runs_from s [] kept = kept
runs_from s (x ∷ xs) kept = runs_from (after_step s x) xs (step_runs s x kept)

-- no log has a record of a run that hasn't begun, an exec that hasn't started doesn't live, and no attach follows run 0
pub record HasRuns (s : State) : Type 0 where
  pub containers : AllByRecursion (λ c. AreUpTo c.life.starts c.life.log) s.containers
  pub outputs : AllByRecursion (λ o. AreUpTo 1 o.log) s.outputs
  pub unstarted : AllByRecursion (IsUnstarted s) s.execs
  pub attached : AllByRecursion (λ c. 1 ≤ run_of c) s.containers

pub legal_runs : (ch : Charter) (h : List Step) → IsLegal ch h → HasRuns (state_after ch h)
legal_runs ch h legal =
    let kept = runs_from (opening_state ch) h (tt, tt) in
    record { containers = kept.0; outputs = kept.1; unstarted = (consistency_law ch h legal).execs.unstarted; attached = attach_law ch h legal }

pub earlier_runs : (ch : Charter) (a b : List Step) → Extends a b → IsLegal ch b → HasRuns (state_after ch a)
earlier_runs ch a b extends legal = legal_runs ch a (legal_front ch a extends.0 (subst (IsLegal ch) extends.1 legal))

-- ---- the end of a run

keep_all : (b : Bool) (r : LogRecord) (xs ys : List LogRecord) → b ≡ true → xs ≡ ys → cond b (r ∷ xs) xs ≡ r ∷ ys
keep_all true r xs ys is same = ap (λ l. r ∷ l) same
keep_all false r xs ys is same = absurd (false≢true is)

all_kept : (run : ℕ) (log : List LogRecord) → AreUpTo run log → filter (λ r. nat_le r.run run) log ≡ log
all_kept run [] all = refl
all_kept run (r ∷ log) all =
    let le : r.run ≤ run = all.0 in
    keep_all (nat_le r.run run) r (filter (λ r. nat_le r.run run) log) log (grind (arith, nat_tests, le)) (all_kept run log all.1)

-- a log of runs up to this one has all its records by its end
pub run_whole : (run : ℕ) (log : List LogRecord) → AreUpTo run log → length_at_end run log ≡ length log
run_whole run log all = ap length (all_kept run log all)

pub run_longer : (run : ℕ) (log rest : List LogRecord) → length_at_end run log ≤ length_at_end run (log ++ rest)
run_longer run log rest =
    let e = ap length (filter-append (λ r. nat_le r.run run) log rest) ∙ length-append (filter (λ r. nat_le r.run run) log) (filter (λ r. nat_le r.run run) rest) in
    omega (arith, e)

-- of a run that isn't over the records are all of its own and of earlier ones
unended : (live : Bool) (run begun : ℕ) (log : List LogRecord) (same : Bool) → (run == begun) ≡ same → begun ≤ run → AreUpTo begun log
    → unwrap_or (if_over (begun_state same live) (length_at_end run log)) (length log) ≡ length_at_end run log
unended true run begun log true is le all = sym (run_whole run log (up_to begun run log le all))
unended false run begun log true is le all = refl
unended live run begun log false is le all = refl

run_reach : (run begun : ℕ) (log : List LogRecord) (live less : Bool) → nat_lt begun run ≡ less → AreUpTo begun log
    → unwrap_or (if_over (if less then Coming else begun_state (run == begun) live) (length_at_end run log)) (length log) ≡ length_at_end run log
run_reach run begun log live true is all = sym (run_whole run log (up_to begun run log (grind (arith, nat_tests, is)) all))
run_reach run begun log live false is all = live_reach (run == begun) refl
  where
    live_reach : (same : Bool) → (run == begun) ≡ same
        → unwrap_or (if_over (begun_state same live) (length_at_end run log)) (length log) ≡ length_at_end run log
    live_reach true same = unended live run begun log true same (let e = eqb-true run begun same in omega (arith, e)) all
    live_reach false same = refl

-- of a container that stands
main_reach : (o : Option Container) (n run : ℕ) (log : List LogRecord) (s : State) → container_numbered n s ≡ o → HasRuns s
    → option_map (λ (c : Container). c.life.log) o ≡ Some log
    → unwrap_or (if_over (state_of_run run (option_map (λ (c : Container). c.life.starts) o) (is_live (OfContainer n) s)) (length_at_end run log)) (length log)
    ≡ length_at_end run log
main_reach None n run log s found runs is = refl
main_reach (Some c) n run log s found runs is =
    let all = found_all (λ c. AreUpTo c.life.starts c.life.log) (λ c. c.number == n) c s.containers found runs.containers in
    run_reach run c.life.starts log (is_live (OfContainer n) s) (nat_lt c.life.starts run) refl (subst (AreUpTo c.life.starts) (same_some c.life.log log is) all)

-- of an exec
exec_reach : (started live : Bool) (run : ℕ) (log : List LogRecord) → (started ≡ false → live ≡ false) → AreUpTo 1 log
    → unwrap_or (if_over (state_of_run run (Some (if started then 1 else 0)) live) (length_at_end run log)) (length log) ≡ length_at_end run log
exec_reach true live run log idle all = run_reach run 1 log live (nat_lt 1 run) refl all
exec_reach false true run log idle all = absurd (false≢true (sym (idle refl)))
exec_reach false false run log idle all = unstarted (nat_lt 0 run) refl
  where
    over : (same : Bool) → begun_state same false ≡ Over
    over true = refl
    over false = refl

    unstarted : (less : Bool) → nat_lt 0 run ≡ less
        → unwrap_or (if_over (if less then Coming else begun_state (run == 0) false) (length_at_end run log)) (length log) ≡ length_at_end run log
    unstarted true is = sym (run_whole run log (up_to 1 run log (grind (arith, nat_tests, is)) all))
    unstarted false is = ap (λ x. unwrap_or (if_over x (length_at_end run log)) (length log)) (over (run == 0))

-- whose output is the log that was found
output_of : (n : ℕ) (log : List LogRecord) (os : List OwnedLog) (o : Option OwnedLog) → find (λ l. same_owner l.owner (OfExec n)) os ≡ o
    → option_map (λ (l : OwnedLog). l.log) o ≡ Some log → AllByRecursion (λ o. AreUpTo 1 o.log) os → AreUpTo 1 log
output_of n log os None found is all = absurd (cc)
output_of n log os (Some l) found is all = subst (AreUpTo 1) (same_some l.log log is) (found_all (λ o. AreUpTo 1 o.log) (λ l. same_owner l.owner (OfExec n)) l os found all)

number_by : (b : Bool) (n : ℕ) (y x : Exec) (rest : Option Exec) → (y.number == n) ≡ b → (if b then Some y else rest) ≡ Some x
    → (rest ≡ Some x → x.number ≡ n) → x.number ≡ n
number_by true n y x rest is found more = ap (λ (z : Exec). z.number) (sym (same_some y x found)) ∙ eqb-true y.number n is
number_by false n y x rest is found more = more found

found_exec : (n : ℕ) (x : Exec) (xs : List Exec) → find (λ y. y.number == n) xs ≡ Some x → x.number ≡ n
found_exec n x [] found = absurd (cc)
found_exec n x (y ∷ xs) found = number_by (y.number == n) n y x (find (λ z. z.number == n) xs) refl found (found_exec n x xs)

exec_stands : (o : Option Exec) (n run : ℕ) (log : List LogRecord) (s : State) → exec_numbered n s ≡ o → HasRuns s
    → standing_log (OfExec n) s ≡ Some log
    → unwrap_or (if_over (state_of_run run (option_map (λ (x : Exec). if x.started then 1 else 0) o) (is_live (OfExec n) s)) (length_at_end run log)) (length log)
    ≡ length_at_end run log
exec_stands None n run log s found runs is = refl
exec_stands (Some x) n run log s found runs is =
    let idle = found_all (IsUnstarted s) (λ (x : Exec). x.number == n) x s.execs found runs.unstarted in
    let number = found_exec n x s.execs found in
    exec_reach x.started (is_live (OfExec n) s) run log (subst (λ m. x.started ≡ false → is_live (OfExec m) s ≡ false) number idle)
    (output_of n log s.outputs (find (λ l. same_owner l.owner (OfExec n)) s.outputs) refl is runs.outputs)

pub run_stands : (owner : Owner) (run : ℕ) (log : List LogRecord) (s : State) → HasRuns s → standing_log owner s ≡ Some log
    → unwrap_or (if_over (run_state owner run s) (length_at_end run log)) (length log) ≡ length_at_end run log
run_stands (OfContainer n) run log s runs is = main_reach (container_numbered n s) n run log s refl runs is
run_stands (OfExec n) run log s runs is = exec_stands (exec_numbered n s) n run log s refl runs is
