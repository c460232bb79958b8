-- Logs only grow along every history, while they are kept.
use Rattle.std.specs.Prelude.{is_some, unwrap_or, option_map}
use Rattle.std.specs.Option.{option_or}
use Rattle.std.proofs.Common.{◌≡◌, ℕ, ◌+◌, ◌≤◌, ◌<◌, ◌==◌, true, List, [], ◌∷◌, ◌++◌, Option, Some, None, find, map, refl, ap, sym, ◌∙◌, subst, arith}
use Rattle.std.specs.List.{AllByRecursion}
use Rattle.machine_model.specs.State.{State, owner_number, change_process, drop_process, change_exec, initial_state}
use Rattle.machine_model.specs.Chain.{Effect, still}
use Rattle.machine_model.specs.Call.{outcome_of}
use Rattle.machine_model.specs.Due.{least_due, due_effect, time_out}
use Rattle.machine_model.specs.Step.{at_moment, finished, step_of}
use Rattle.machine_model.specs.History.{Charter, opening_state, after_step, state_from, state_after}
use Rattle.machine_model.specs.Consistency.{AreDistinct}
use Rattle.machine_model.specs.Effects.Meet.{logged, record_of}
use Rattle.machine_model.specs.LogStream.{log_among, kept_log, standing_log, log_found}
use Rattle.machine_model.specs.Laws.{LogGrowsLaw}
use Rattle.machine_model.specs.Effects.Launch.{spawn}
use Rattle.machine_model.specs.Tickets.{begun}
use Rattle.machine_model.specs.Calls.Take.{end_ticket}
use Rattle.machine_model.specs.Calls.Create.{placed, new_volume, new_container, with_new}
use Rattle.machine_model.specs.Calls.Volumes.{without_volume}
use Rattle.machine_model.specs.Calls.ExecCreate.{with_exec, new_exec}
use Rattle.machine_model.proofs.ListLemmas.{append_nil, all_append, all_weaken, distinct_more, below_more, more_numbers}
use Rattle.machine_model.proofs.Histories.{run_append}
use Rattle.machine_model.proofs.ClosureLemmas.{IsClosed}
use Rattle.machine_model.proofs.Logs.GrowthLemmas.{Begins, Grows, Later, Logs, Owns, among, exec_standing, grows_after, grows_changed, grows_put, later_begun, later_refl, made_standing, owns_begun}
use Rattle.machine_model.proofs.Logs.RemovalLemmas.{grows_destroyed}
use Rattle.engine_text.specs.declared.container.Container.{Container}
use Rattle.engine_text.specs.declared.log.KeptLogs.{KeptLogs}
use Rattle.engine_text.specs.declared.log.LogRecord.{LogRecord}
use Rattle.engine_text.specs.declared.owner.Owner.{Owner}
use Rattle.engine_text.specs.declared.owner.Owner.TheVariants.{Container as OfContainer, Exec as OfExec}
use Rattle.engine_text.specs.declared.step.DueAction.{DueAction}
use Rattle.engine_text.specs.declared.step.Step.{Step}
use Rattle.machine_model.proofs.ClosureLemmas.{runs_call, runs_due}

-- ---- every effect

same_standing : (o : Owner) (s t : State) → t.containers ≡ s.containers → t.outputs ≡ s.outputs → standing_log o t ≡ standing_log o s
same_standing (OfContainer m) s t cs os = ap (λ xs. option_map (λ (c : Container). c.life.log) (find (λ c. c.number == m) xs)) cs
same_standing (OfExec m) s t cs os = ap (log_among (OfExec m)) os

-- the same by its parts
abbrev LogsOf : Owner → Option (List LogRecord) → List KeptLogs → ℕ → List Container → Type 0
LogsOf o x ks n cs = Owns o x ks n × AreDistinct (map (λ c. c.number) cs) × AllByRecursion (λ c. c.number < n) cs

-- what touches no log
quiet : (o : Owner) (s t : State) → t.containers ≡ s.containers → t.outputs ≡ s.outputs → t.kept ≡ s.kept → t.next_number ≡ s.next_number
    → Logs o s → Logs o t × (s.next_number ≤ t.next_number) × Later (s.next_number ≤ owner_number o) (log_found o s) (log_found o t)
quiet o s t cs os ks n h =
    let x : standing_log o t ≡ standing_log o s = same_standing o s t cs os in
    let a : LogsOf o (standing_log o t) s.kept s.next_number s.containers = subst (λ y. LogsOf o y s.kept s.next_number s.containers) (sym x) h in
    let b : LogsOf o (standing_log o t) t.kept s.next_number s.containers = subst (λ y. LogsOf o (standing_log o t) y s.next_number s.containers) (sym ks) a in
    let c : LogsOf o (standing_log o t) t.kept t.next_number s.containers = subst (λ y. LogsOf o (standing_log o t) t.kept y s.containers) (sym n) b in
    let d : LogsOf o (standing_log o t) t.kept t.next_number t.containers = subst (λ y. LogsOf o (standing_log o t) t.kept t.next_number y) (sym cs) c in
    let low : Type 0 = s.next_number ≤ owner_number o in
    let e : Later low (log_found o s) (option_or (standing_log o t) (among o s.kept)) = subst (λ y. Later low (log_found o s) (option_or y (among o s.kept))) (sym x) (later_refl low (log_found o s)) in
    (d, omega (arith, n), subst (λ y. Later low (log_found o s) (option_or (standing_log o t) (among o y))) (sym ks) e)

pub logs_closed : (o : Owner) → IsClosed (Grows o)
logs_closed o = record {
  on_still = λ s h. quiet o s s refl refl refl refl h;
  on_after = λ s a b first second h. grows_after o s a b first second h;
  on_told = λ s v at h. quiet o s s refl refl refl refl h;
  on_mounts = λ s a c h. quiet o s s refl refl refl refl h;
  on_ended = λ s d h. quiet o s s refl refl refl refl h;
  on_renew = λ s n f mark h. grows_changed o s n f (λ name. name) (λ l. ([], mark.log l ∙ sym (append_nil l.log))) h;
  on_log = λ s n stream payload h. grows_changed o s n (logged stream payload s.clock) (λ name. name) (λ l. (record_of l.starts stream payload s.clock ∷ [], refl)) h;
  on_output = λ s n stream payload h. grows_put o (OfExec n) s (record_of 1 stream payload s.clock) h;
  on_process = λ s owner f h. quiet o s (change_process owner f s) refl refl refl refl h;
  on_drop = λ s owner h. quiet o s (drop_process owner s) refl refl refl refl h;
  on_spawn = λ s owner program stdin room h. quiet o s (spawn owner program stdin room s) refl refl refl refl h;
  on_timers = λ s timers h. quiet o s (record s { timers = timers }) refl refl refl refl h;
  on_exec = λ s n f mark h. quiet o s (change_exec n f s) refl refl refl refl h;
  on_destroyed = λ s c found h. grows_destroyed o s c found h;
  on_begun = λ s connection c asked found h. quiet o s (begun connection c.number asked s) refl refl refl refl h;
  on_time_out = λ s c h. quiet o s (time_out c s) refl refl refl refl h;
  on_end_ticket = λ s n h. quiet o s (end_ticket n s) refl refl refl refl h;
  on_made_volume = λ s name labels none h. quiet o s (record s { volumes = placed (new_volume name labels s.clock) s.volumes }) refl refl refl refl h;
  on_gone_volume = λ s name unused h. quiet o s (without_volume name s) refl refl refl refl h;
  on_made = λ s name spec free stand h.
      let c : Container = new_container name spec s in
      let t : State = with_new c s in
      let begins : Begins o s.next_number (standing_log o s) (standing_log o t) = made_standing o s c t.uses refl in (
        (
          owns_begun o (standing_log o s) (standing_log o t) s.kept s.next_number begins h.0,
          subst AreDistinct (sym (more_numbers s.containers c)) (distinct_more (map (λ c. c.number) s.containers) s.next_number h.1 (below_more s.next_number s.containers h.2)),
          all_append (λ c. c.number < s.next_number + 1) s.containers (c ∷ []) (all_weaken (λ c. c.number < s.next_number) (λ c. c.number < s.next_number + 1) (λ c low. omega (arith, low)) s.containers h.2) (omega arith, tt),
        ),
        omega arith,
        later_begun o (standing_log o s) (standing_log o t) (kept_log o s) s.kept s.next_number begins h.0 refl,
      );
  on_made_exec = λ s c words stdin out err found h.
      let t : State = with_exec (new_exec c words stdin out err s) s in
      let begins : Begins o s.next_number (standing_log o s) (standing_log o t) = exec_standing o s t.execs in (
        (
          owns_begun o (standing_log o s) (standing_log o t) s.kept s.next_number begins h.0,
          h.1,
          all_weaken (λ c. c.number < s.next_number) (λ c. c.number < s.next_number + 1) (λ c low. omega (arith, low)) s.containers h.2,
        ),
        omega arith,
        later_begun o (standing_log o s) (standing_log o t) (kept_log o s) s.kept s.next_number begins h.0 refl,
      );
  on_renamed = λ s c name found free h. grows_changed o s c.number (λ l. l) (λ old. name) (λ l. ([], sym (append_nil l.log))) h;
}

-- ---- histories

-- a step's effect between its moment and its end
from_moment : (o : Owner) (s : State) (t : ℕ) (e : Effect) → Grows o (at_moment t s) e → (calls : ℕ) → Grows o s (record { state = (finished calls e).state; events = []; died = [] })
from_moment o s t e one calls =
    grows_after o s (record { state = at_moment t s; events = []; died = [] }) (record { state = (finished calls e).state; events = []; died = [] })
    (quiet o s (at_moment t s) refl refl refl refl)
    (grows_after o (at_moment t s) e (record { state = (finished calls e).state; events = []; died = [] }) one (quiet o e.state (finished calls e).state refl refl refl refl))

due_grows : (o : Owner) (s : State) (d : Option DueAction) → Grows o s (record { state = (unwrap_or (step_of d s) (still s)).state; events = []; died = [] })
due_grows o s None h = quiet o s s refl refl refl refl h
due_grows o s (Some d) h = from_moment o s d.moment (due_effect d (at_moment d.moment s)) (runs_due (logs_closed o) d (at_moment d.moment s)) 0 h

step_grows : (o : Owner) (s : State) (x : Step) → Grows o s (record { state = after_step s x; events = []; died = [] })
step_grows o s Step.Due h = due_grows o s (least_due s) h
step_grows o s (Step.Call connection moment c) h =
    from_moment o s moment (outcome_of c connection (at_moment moment s)).effect (runs_call (logs_closed o) c connection (at_moment moment s)) 1 h

pub logs_grow : (o : Owner) (s : State) (h : List Step) → Grows o s (record { state = state_from s h; events = []; died = [] })
logs_grow o s [] k = quiet o s s refl refl refl refl k
logs_grow o s (x ∷ xs) k =
    grows_after o s (record { state = after_step s x; events = []; died = [] }) (record { state = state_from (after_step s x) xs; events = []; died = [] })
    (step_grows o s x) (logs_grow o (after_step s x) xs) k

none_standing : (o : Owner) (seed : List ℕ) (t : ℕ) → standing_log o (initial_state seed t) ≡ None
none_standing (OfContainer n) seed t = refl
none_standing (OfExec n) seed t = refl

logs_opening : (o : Owner) (charter : Charter) → Logs o (opening_state charter)
logs_opening o charter =
    let none = none_standing o charter.seed charter.opening in
    ((λ low. (none, tt), λ is. tt, tt), tt, tt)

found_later : (low : Type 0) (x y : Option (List LogRecord)) → is_some x ≡ true → is_some y ≡ true → Later low x y → (rest : List LogRecord) × (unwrap_or y [] ≡ unwrap_or x [] ++ rest)
found_later low None y first second later = absurd (cc)
found_later low (Some l) None first second later = absurd (cc)
found_later low (Some l) (Some m) first second later = later

pub log_grows_law : LogGrowsLaw
log_grows_law charter a b owner legal extends first second =
    let s : State = state_after charter a in
    let kept = logs_grow owner (opening_state charter) a (logs_opening owner charter) in
    let more = logs_grow owner s extends.0 kept.0 in
    let same : state_after charter b ≡ state_from s extends.0 = ap (state_after charter) extends.1 ∙ run_append charter a extends.0 in
    let later : Later (s.next_number ≤ owner_number owner) (log_found owner s) (log_found owner (state_after charter b)) =
    subst (λ t. Later (s.next_number ≤ owner_number owner) (log_found owner s) (log_found owner t)) (sym same) more.2 in
    found_later (s.next_number ≤ owner_number owner) (log_found owner s) (log_found owner (state_after charter b)) first second later
