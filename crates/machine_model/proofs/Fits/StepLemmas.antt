-- Statuses, goals, main processes and timers fit each other behind every step, and so HasTimers holds.
use Rattle.std.specs.Option.{is_some, unwrap_or}
use Rattle.std.proofs.Common.{◌≡◌, ◌≢◌, ℕ, ◌≤◌, ◌==◌, Bool, true, false, not, List, [], ◌∷◌, Option, Some, None, find, map, if◌then◌else◌, refl, ap, sym, subst, arith, inl, inr}
use Rattle.std.proofs.lemmas.Bool.{eqb-true, eq-eqb}
use Rattle.std.proofs.lemmas.Bool.Decides.{eqb_tells}
use Rattle.std.specs.List.{AllByRecursion, filter_map, list_any, cons_option}
use Rattle.container_table.specs.Timers.{timer_in, is_before}
use Rattle.container_table.specs.Ranks.{rank_numbered}
use Rattle.container_table.specs.declared.rank.Rank.{Rank}
use Rattle.machine_model.proofs.RankLemmas.{op_rank, removal_rank, restart_rank}
use Rattle.engine_text.specs.Texts.{same_bytes, without_slash}
use Rattle.proc_kernel.specs.Processes.{run_due, next_due}
use Rattle.proc_kernel.specs.Tables.{Entry}
use Rattle.machine_model.specs.State.{State, container_numbered, timer_of, owner_number}
use Rattle.machine_model.specs.Chain.{Effect, with_found, still}
use Rattle.machine_model.specs.EventTexts.{exec_event, plain_event}
use Rattle.machine_model.specs.Call.{outcome_of}
use Rattle.machine_model.specs.Filters.{is_image}
use Rattle.machine_model.specs.Consistency.{AreDistinct, is_there, HasMain, IsFrozenRight, HasPid, HasGoal, TimerStands, HasTimer, HasRemoval, HasTimers, IsConsistent}
use Rattle.machine_model.specs.Due.{action_at, by_rank, due_actions, least_due, stop_deadline, removal_deadline, restart_timer, due_effect}
use Rattle.machine_model.specs.Effects.Meet.{step_process}
use Rattle.machine_model.specs.Calls.Create.{volume_named}
use Rattle.machine_model.specs.Calls.ExecCreate as exec_create
use Rattle.machine_model.specs.Calls.ExecCreate.{if_running}
use Rattle.machine_model.specs.Calls.Rename as rename
use Rattle.machine_model.specs.Calls.Rename.{named}
use Rattle.machine_model.specs.Calls.Volumes as volumes
use Rattle.machine_model.specs.Outcome.{answers}
use Rattle.machine_model.specs.Step.{at_moment, step_of}
use Rattle.machine_model.specs.History.{after_step}
use Rattle.machine_model.specs.Views.{volume_body}
use Rattle.machine_model.proofs.ListLemmas.{all_append, all_weaken, all_both}
use Rattle.machine_model.proofs.ObeyLemmas.{found_all}
use Rattle.machine_model.proofs.DueLemmas.{IsAwakeAt, FindsAwake, Goes, least_finds, least_goes, all_there, passes}
use Rattle.machine_model.proofs.Fits.LaunchLemmas.{Fine, Up, OnBy, On, Local, never}
use Rattle.machine_model.proofs.Fits.PartLemmas.{Parts, parts_of, life_of, IsRanked, Leads}
use Rattle.machine_model.proofs.Fits.RemoveLemmas.{remove_mains}
use Rattle.machine_model.proofs.Fits.UnpauseLemmas.{unpause_mains}
use Rattle.machine_model.proofs.Fits.RestartLemmas.{restart_mains}
use Rattle.machine_model.proofs.Fits.StopLemmas.{stop_mains}
use Rattle.machine_model.proofs.Fits.StartLemmas.{start_mains}
use Rattle.machine_model.proofs.Fits.CallLemmas.{PartsFit, whole, mains_at}
use Rattle.machine_model.proofs.Fits.DueLemmas.{leads_stop_deadline, leads_removal_deadline, leads_restart_timer, leads_op, exec_op}
use Rattle.machine_model.proofs.Fits.PauseLemmas.{pause_mains}
use Rattle.machine_model.proofs.Fits.KillLemmas.{kill_mains}
use Rattle.machine_model.proofs.Fits.FeedLemmas.{feed_mains, feed_end_mains}
use Rattle.machine_model.proofs.Fits.ExecLemmas.{running_by, mains_made_exec, exec_found, inspect_found}
use Rattle.machine_model.proofs.Fits.CreateLemmas.{create_image}
use Rattle.machine_model.proofs.Fits.RenameLemmas.{rename_by}
use Rattle.machine_model.proofs.Fits.UpdateLemmas.{update_mains}
use Rattle.machine_model.proofs.Fits.FreshLemmas.{Fresh, mains_told}
use Rattle.engine_text.specs.declared.call.Call.{Call}
use Rattle.engine_text.specs.declared.container.Container.{Container}
use Rattle.engine_text.specs.declared.owner.Owner.{Owner}
use Rattle.engine_text.specs.declared.owner.Owner.TheVariants.{Container as OfContainer, Exec as OfExec}
use Rattle.engine_text.specs.declared.pairs.Pair.{Pair}
use Rattle.engine_text.specs.declared.step.DueAction.{DueAction}
use Rattle.engine_text.specs.declared.step.Step.{Step}
use Rattle.engine_text.specs.declared.volume.Volume.{Volume}
use Rattle.engine_text.specs.declared.event.Action.TheVariants as Action

-- ---- volumes

volume_standing : (o : Option Volume) (name : List ℕ) (labels : List Pair) (s : State) → PartsFit s → PartsFit (volumes.by_standing o name labels s).effect.state
volume_standing (Some v) name labels s h = h
volume_standing None name labels s h = h

volume_inspects : (o : Option Volume) (name : List ℕ) (s : State) → PartsFit s
    → PartsFit (volumes.with_volume o name (λ v. answers 200 (volume_body v)) s).effect.state
volume_inspects None name s h = h
volume_inspects (Some v) name s h = h

volume_unless : (b : Bool) (name : List ℕ) (s : State) → PartsFit s → PartsFit (volumes.unless_in_use b name s).effect.state
volume_unless true name s h = h
volume_unless false name s h = h

volume_removes : (o : Option Volume) (name : List ℕ) (s : State) → PartsFit s → PartsFit (volumes.with_volume o name (λ v s. volumes.unless_in_use (volumes.is_in_use name s) name s) s).effect.state
volume_removes None name s h = h
volume_removes (Some v) name s h = volume_unless (volumes.is_in_use name s) name s h

-- ---- every call

pub mains_call : (c : Call) (connection : ℕ) (s : State) → Fresh s → PartsFit s → PartsFit (outcome_of c connection s).effect.state
mains_call (Call.Create spec) connection s fresh h = create_image (is_image spec.image) spec s fresh h
mains_call (Call.Start target) connection s fresh h = start_mains target s h
mains_call (Call.Stop target wait signal) connection s fresh h = stop_mains connection target wait signal s h
mains_call (Call.Restart target wait signal) connection s fresh h = restart_mains connection target wait signal s h
mains_call (Call.Kill target signal) connection s fresh h = kill_mains target signal s h
mains_call (Call.Pause target) connection s fresh h = pause_mains target s h
mains_call (Call.Unpause target) connection s fresh h = unpause_mains target s h
mains_call (Call.Rename target name) connection s fresh h = mains_at s target (λ c. rename.by_status c.life.status (without_slash name) c) (λ c found. rename_by c.life.status (without_slash name) c s h) h
mains_call (Call.Update target policy) connection s fresh h = update_mains target policy s h
mains_call (Call.Remove target force) connection s fresh h = remove_mains connection target force s h
mains_call (Call.Wait target until) connection s fresh h = mains_at s target _ (λ c found. h) h
mains_call (Call.Inspect target) connection s fresh h = mains_at s target _ (λ c found. h) h
mains_call (Call.List all limit filter) connection s fresh h = h
mains_call (Call.Logs target ask) connection s fresh h = mains_at s target _ (λ c found. h) h
mains_call (Call.Attach target ask) connection s fresh h = mains_at s target _ (λ c found. mains_told c.number (plain_event Action.Attach) s h) h
mains_call (Call.ExecCreate target words stdin out err) connection s fresh h =
    mains_at s target _
    (λ c found. running_by c.life.status c _ s h
    (λ runs. mains_told c.number (exec_event Action.ExecCreate (exec_create.new_exec c words stdin out err s).id) (exec_create.with_exec (exec_create.new_exec c words stdin out err s) s)
    (mains_made_exec (exec_create.new_exec c words stdin out err s) s refl refl fresh.execs_below fresh.outputs_below h))) h
mains_call (Call.ExecStart id detach) connection s fresh h = exec_found (find (λ x. same_bytes x.id id) s.execs) id detach s refl h
mains_call (Call.ExecInspect id) connection s fresh h = inspect_found (find (λ x. same_bytes x.id id) s.execs) id s h
mains_call (Call.VolumeCreate name labels) connection s fresh h = volume_standing (volume_named name s) name labels s h
mains_call (Call.VolumeInspect name) connection s fresh h = volume_inspects (volume_named name s) name s h
mains_call (Call.VolumeRemove name) connection s fresh h = volume_removes (volume_named name s) name s h
mains_call (Call.VolumeList filter) connection s fresh h = h
mains_call (Call.Events since until filter) connection s fresh h = h
mains_call Call.JournalRead connection s fresh h = h
mains_call (Call.Feed owner run bytes) connection s fresh h = feed_mains owner run bytes s h
mains_call (Call.FeedEnd owner run) connection s fresh h = feed_end_mains owner run s h
mains_call (Call.Take ticket) connection s fresh h = h
mains_call (Call.Drop ticket) connection s fresh h = h

-- ---- due steps

-- a timer that is due stands
abbrev IsTimer : State → DueAction → Type 0
IsTimer s d = 1 ≤ d.rank → is_there (timer_in d.rank d.number s.timers) ≡ true

processes_no_timer : (s : State) (es : List Entry) → AllByRecursion (IsTimer s) (filter_map (λ e. action_at (owner_number e.owner) (next_due e.process)) es)
processes_no_timer s [] = tt
processes_no_timer s (e ∷ es) = one (next_due e.process) (processes_no_timer s es)
  where
    one : (o : Option ℕ) → AllByRecursion (IsTimer s) (filter_map (λ e. action_at (owner_number e.owner) (next_due e.process)) es)
        → AllByRecursion (IsTimer s) (cons_option (action_at (owner_number e.owner) o) (filter_map (λ e. action_at (owner_number e.owner) (next_due e.process)) es))
    one None more = more
    one (Some moment) more = (λ low. absurd (omega (arith, low)), more)

least_there : (s : State) (d : DueAction) → least_due s ≡ Some d → IsTimer s d
least_there s d e =
    found_all (IsTimer s) (λ d. not (list_any (λ e. is_before e d) (due_actions s))) d (due_actions s) e
    (all_append (IsTimer s) (filter_map (λ e. action_at (owner_number e.owner) (next_due e.process)) s.processes) s.timers (processes_no_timer s s.processes)
    (all_weaken (λ d. is_there (timer_in d.rank d.number s.timers) ≡ true) (IsTimer s) (λ d there low. there) s.timers (all_there s.timers)))

mains_leads : (s : State) (n : ℕ) (P : Parts → Type 0) (e : State → Effect) → Leads Local n (λ v. On Fine v × P v) e (On Fine) → P (parts_of n s) → PartsFit s → PartsFit (e s).state
mains_leads s n P e leads p h = whole n (e s).state (leads.holds s (h.0, λ m other. h.1 m, (h.1 n, p)))

up_by : (s : State) (n : ℕ) (o : Option Container) → container_numbered n s ≡ o → IsAwakeAt s n → PartsFit s → On Up (parts_of n s)
up_by s n None e awake h =
    subst (λ o. OnBy Up (life_of o) (parts_of n s).main (parts_of n s).stop (parts_of n s).removal (parts_of n s).restart) (sym e)
    (subst (λ o. OnBy Fine (life_of o) (parts_of n s).main (parts_of n s).stop (parts_of n s).removal (parts_of n s).restart) e (h.1 n))
up_by s n (Some c) e awake h =
    subst (λ o. OnBy Up (life_of o) (parts_of n s).main (parts_of n s).stop (parts_of n s).removal (parts_of n s).restart) (sym e)
    (subst (λ o. OnBy Fine (life_of o) (parts_of n s).main (parts_of n s).stop (parts_of n s).removal (parts_of n s).restart) e (h.1 n), awake c e)

op_of : (s : State) (o : Owner) → IsAwakeAt s (owner_number o) → Goes s (owner_number o) → PartsFit s → PartsFit (step_process run_due o s).state
op_of s (OfContainer n) awake goes h =
    whole n (step_process run_due (OfContainer n) s).state ((leads_op n).holds s (h.0, λ m other. h.1 m, up_by s n (container_numbered n s) refl awake h))
op_of s (OfExec n) awake goes h = whole n (step_process run_due (OfExec n) s).state (exec_op n n s goes (h.0, λ m other. h.1 m, h.1 n))

op_by : (s : State) (n : ℕ) (o : Option Entry) → find (λ e. owner_number e.owner == n) s.processes ≡ o → IsAwakeAt s n → Goes s n → PartsFit s
    → PartsFit (with_found o (λ (e : Entry). step_process run_due e.owner) s).state
op_by s n None e awake goes h = h
op_by s n (Some x) e awake goes h =
    let is : owner_number x.owner ≡ n = eqb-true (owner_number x.owner) n (passes (λ (e : Entry). owner_number e.owner == n) x s.processes e) in
    op_of s x.owner (subst (IsAwakeAt s) (sym is) awake) (subst (Goes s) (sym is) goes) h

by : (s : State) (rank n : ℕ) (r : Rank) → rank_numbered rank ≡ r → rank ≤ 3 → (rank ≢ 1 → IsAwakeAt s n) → (rank ≡ 0 → Goes s n) → (1 ≤ rank → is_there (timer_in rank n s.timers) ≡ true) → PartsFit s
    → PartsFit (by_rank r n s).state
by s rank n Rank.Op e top awake goes there h =
    let is : rank ≡ 0 = op_rank rank e in
    op_by s n (find (λ e. owner_number e.owner == n) s.processes) refl (awake (λ other. omega (arith, is, other))) (goes is) h
by s rank n Rank.StopDeadline e top awake goes there h = whole n (stop_deadline n s).state ((leads_stop_deadline n).holds s (h.0, λ m other. h.1 m, h.1 n))
by s rank n Rank.RemovalDeadline e top awake goes there h =
    let is : rank ≡ 2 = removal_rank rank e in
    mains_leads s n (λ v. v.removal ≡ true) (removal_deadline n) (leads_removal_deadline n) (subst (λ r. is_there (timer_in r n s.timers) ≡ true) is (there (omega (arith, is)))) h
by s rank n Rank.RestartTimer e top awake goes there h =
    let others = restart_rank rank e in
    let is : rank ≡ 3 = omega (arith, others.0, others.1, others.2, top) in
    mains_leads s n (λ v. v.restart ≡ true) (restart_timer n) (leads_restart_timer n) (subst (λ r. is_there (timer_in r n s.timers) ≡ true) is (there (omega (arith, is)))) h

abbrev IsLow : DueAction → Type 0
IsLow d = d.rank ≤ 3

low_processes : (es : List Entry) → AllByRecursion IsLow (filter_map (λ e. action_at (owner_number e.owner) (next_due e.process)) es)
low_processes [] = tt
low_processes (e ∷ es) = one (next_due e.process) (low_processes es)
  where
    one : (o : Option ℕ) → AllByRecursion IsLow (filter_map (λ e. action_at (owner_number e.owner) (next_due e.process)) es)
        → AllByRecursion IsLow (cons_option (action_at (owner_number e.owner) o) (filter_map (λ e. action_at (owner_number e.owner) (next_due e.process)) es))
    one None more = more
    one (Some moment) more = (omega arith, more)

pub mains_due : (s : State) (d : DueAction) → least_due s ≡ Some d → FindsAwake s d → (d.rank ≡ 0 → Goes s d.number) → PartsFit s → PartsFit (due_effect d (at_moment d.moment s)).state
mains_due s d e awake goes h =
    let low : IsLow d = found_all IsLow (λ d. not (list_any (λ e. is_before e d) (due_actions s))) d (due_actions s) e
    (all_append IsLow (filter_map (λ e. action_at (owner_number e.owner) (next_due e.process)) s.processes) s.timers (low_processes s.processes)
    (all_weaken IsRanked IsLow (λ d ranked. ranked.greatest) s.timers h.0.3)) in
    by (at_moment d.moment s) d.rank d.number (rank_numbered d.rank) refl low awake goes (least_there s d e) h

-- ---- every step

due_by : (s : State) (o : Option DueAction) → least_due s ≡ o → IsConsistent s → PartsFit s → PartsFit (unwrap_or (step_of o s) (still s)).state
due_by s None e h mains = mains
due_by s (Some d) e h mains = mains_due s d e (least_finds s d h e) (least_goes s d h e) mains

pub mains_step : (s : State) (x : Step) → IsConsistent s → Fresh s → PartsFit s → PartsFit (after_step s x)
mains_step s Step.Due h fresh mains = due_by s (least_due s) refl h mains
mains_step s (Step.Call connection moment c) h fresh mains =
    mains_call c connection (at_moment moment s) (record { below = fresh.below; execs_below = fresh.execs_below; outputs_below = fresh.outputs_below }) mains

-- ---- what it says of a state

own_by : (b : Bool) (x y : Container) (rest : Option Container) → (x.number == y.number) ≡ b → x.number ≢ y.number → rest ≡ Some y → (if b then Some x else rest) ≡ Some y
own_by true x y rest e other more = absurd (other (eqb-true x.number y.number e))
own_by false x y rest e other more = more

own_behind : (x : Container) (all cs : List Container) → AllByRecursion (λ n. x.number ≢ n) (map (λ c. c.number) cs) → AllByRecursion (λ c. find (λ d. d.number == c.number) all ≡ Some c) cs
    → AllByRecursion (λ c. find (λ d. d.number == c.number) (x ∷ all) ≡ Some c) cs
own_behind x all [] other h = tt
own_behind x all (c ∷ cs) other h = (own_by (x.number == c.number) x c (find (λ d. d.number == c.number) all) refl other.0 h.0, own_behind x all cs other.1 h.1)

pub own_container : (cs : List Container) → AreDistinct (map (λ c. c.number) cs) → AllByRecursion (λ c. find (λ d. d.number == c.number) cs ≡ Some c) cs
own_container [] h = tt
own_container (c ∷ cs) h =
    (ap (λ b. if b then Some c else find (λ d. d.number == c.number) cs) (eq-eqb c.number c.number refl), own_behind c cs cs h.0 (own_container cs h.1))

pub all_fine : (s : State) → PartsFit s
    → AllByRecursion (λ c. Fine c.life (parts_of c.number s).main (parts_of c.number s).stop (parts_of c.number s).removal (parts_of c.number s).restart) s.containers
all_fine s h =
    all_weaken (λ c. find (λ d. d.number == c.number) s.containers ≡ Some c) (λ c. Fine c.life (parts_of c.number s).main (parts_of c.number s).stop (parts_of c.number s).removal (parts_of c.number s).restart)
    (λ c own. subst (λ o. OnBy Fine (life_of o) (parts_of c.number s).main (parts_of c.number s).stop (parts_of c.number s).removal (parts_of c.number s).restart) own (h.1 c.number)) s.containers (own_container s.containers h.0.0)

stands_by : (s : State) (d : DueAction) (o : Option Container) → container_numbered d.number s ≡ o → IsRanked d → is_there (timer_in d.rank d.number s.timers) ≡ true → PartsFit s
    → is_there o ≡ true
stands_by s d (Some c) e ranked there h = refl
stands_by s d None e ranked there h =
    let absent = subst (λ o. OnBy Fine (life_of o) (parts_of d.number s).main (parts_of d.number s).stop (parts_of d.number s).removal (parts_of d.number s).restart) e (h.1 d.number) in
    elim (eqb_tells d.rank 1) [
      | inl f ↦ never (is_there (timer_of Rank.StopDeadline d.number s)) absent.1 (subst (λ r. is_there (timer_in r d.number s.timers) ≡ true) f.1 there)
      | inr f ↦ elim (eqb_tells d.rank 2) [
        | inl g ↦ never (is_there (timer_of Rank.RemovalDeadline d.number s)) absent.2 (subst (λ r. is_there (timer_in r d.number s.timers) ≡ true) g.1 there)
        | inr g ↦
            let three : d.rank ≡ 3 = omega (arith, f.1, g.1, ranked.least, ranked.greatest) in
            never (is_there (timer_of Rank.RestartTimer d.number s)) absent.3 (subst (λ r. is_there (timer_in r d.number s.timers) ≡ true) three there)
      ]
    ]

live_by : (s : State) (d : DueAction) (o : Option Container) → container_numbered d.number s ≡ o → is_there o ≡ true → IsRanked d → is_there (timer_in d.rank d.number s.timers) ≡ true → PartsFit s
    → d.rank ≤ 2 → is_some (parts_of d.number s).main ≡ true
live_by s d None e some ranked there h low = absurd (cc)
live_by s d (Some c) e some ranked there h low =
    let fine : Fine c.life (parts_of d.number s).main (parts_of d.number s).stop (parts_of d.number s).removal (parts_of d.number s).restart =
    subst (λ o. OnBy Fine (life_of o) (parts_of d.number s).main (parts_of d.number s).stop (parts_of d.number s).removal (parts_of d.number s).restart) e (h.1 d.number) in
    elim (eqb_tells d.rank 1) [
      | inl f ↦ fine.0.stop (subst (λ r. is_there (timer_in r d.number s.timers) ≡ true) f.1 there)
      | inr f ↦
          let two : d.rank ≡ 2 = omega (arith, f.1, ranked.least, low) in
          (fine.0.removal (subst (λ r. is_there (timer_in r d.number s.timers) ≡ true) two there)).0
    ]

pub has_timers : (s : State) → PartsFit s → HasTimers s
has_timers s h = record {
  goals = all_weaken (λ c. Fine c.life (parts_of c.number s).main (parts_of c.number s).stop (parts_of c.number s).removal (parts_of c.number s).restart) (HasGoal s) (λ c fine. fine.1) s.containers (all_fine s h);
  timers = all_both IsRanked (λ d. is_there (timer_in d.rank d.number s.timers) ≡ true) (TimerStands s)
      (λ d ranked there.
      let stands = stands_by s d (container_numbered d.number s) refl ranked there h in
      record {
        least = ranked.least;
        greatest = ranked.greatest;
        container = stands;
        deadline = λ low. live_by s d (container_numbered d.number s) refl stands ranked there h low;
      }) s.timers h.0.3 (all_there s.timers);
  restarts = all_weaken (λ c. Fine c.life (parts_of c.number s).main (parts_of c.number s).stop (parts_of c.number s).removal (parts_of c.number s).restart) (HasTimer s) (λ c fine. fine.0.restart) s.containers (all_fine s h);
  removals = all_weaken (λ c. Fine c.life (parts_of c.number s).main (parts_of c.number s).stop (parts_of c.number s).removal (parts_of c.number s).restart) (HasRemoval s) (λ c fine there. (fine.0.removal there).1) s.containers (all_fine s h);
  single = h.0.2;
}

-- of HasProcesses, what is of main processes
pub mains_have : (s : State) → PartsFit s → AllByRecursion (HasMain s) s.containers × AllByRecursion (IsFrozenRight s) s.containers × AllByRecursion (HasPid s) s.containers × AreDistinct (map (λ e. e.owner) s.processes)
mains_have s h = (
  all_weaken (λ c. Fine c.life (parts_of c.number s).main (parts_of c.number s).stop (parts_of c.number s).removal (parts_of c.number s).restart) (HasMain s) (λ c fine. fine.0.status) s.containers (all_fine s h),
  all_weaken (λ c. Fine c.life (parts_of c.number s).main (parts_of c.number s).stop (parts_of c.number s).removal (parts_of c.number s).restart) (IsFrozenRight s) (λ c fine. fine.0.frozen) s.containers (all_fine s h),
  all_weaken (λ c. Fine c.life (parts_of c.number s).main (parts_of c.number s).stop (parts_of c.number s).removal (parts_of c.number s).restart) (HasPid s) (λ c fine. fine.0.pid) s.containers (all_fine s h),
  h.0.1,
)
