-- What the end of a main process keeps of what fits.
use Rattle.std.specs.Option.{is_some}
use Rattle.std.proofs.Common.{◌≡◌, ℕ, ◌+◌, ◌≤◌, ◌==◌, Bool, true, false, not, Option, Some, None, refl, ap, sym, ◌∙◌, subst}
use Rattle.api_json.specs.Status.{is_paused, is_restarting}
use Rattle.container_table.specs.Timers.{cleared, with_timer}
use Rattle.proc_kernel.specs.Processes.{Process}
use Rattle.machine_model.specs.State.{State, drop_process}
use Rattle.machine_model.specs.Chain.{change, and_then, with_container, renew, tell_of}
use Rattle.machine_model.specs.EventTexts.{plain_event, die_event}
use Rattle.machine_model.specs.Consistency.{FitsStatus, IsFrozenAs, HasStarted}
use Rattle.machine_model.specs.Effects.EndMain.{end_execs, ended, die, exited, no_goal, restarting, removed_if, follow, decision_at, by_goal, by_status, end_main}
use Rattle.machine_model.proofs.Fits.PartLemmas.{Steady, Parts, Leads, leads_then, leads_from, leads_to, leads_still, leads_at, leads_with, leads_tell, leads_mounts, leads_renew, Stood}
use Rattle.machine_model.proofs.Fits.MainPartLemmas.{drop_main, NoExecs}
use Rattle.machine_model.proofs.Fits.TimerPartLemmas.{leads_clear_1, leads_clear_2, leads_set_3, timed}
use Rattle.machine_model.proofs.Fits.LogRoomLemmas.{room_renewed}
use Rattle.machine_model.proofs.Fits.ExecLoopLemmas.{told_state}
use Rattle.machine_model.proofs.Fits.ExecPhaseLemmas.{end_all}
use Rattle.machine_model.proofs.Fits.LaunchLemmas.{Names, Calm, Up, CalmUp, Live, OnBy, On, Here, Local, on_weaker, on_none, here_of, on_here, mapped_by, icy_renewed, on_renew, here_renew, Fallen, never, live_started, leads_launch_by_call, Bare, leads_destroy}
use Rattle.restart_policy.specs.declared.decision.Decision.{Decision}
use Rattle.restart_policy.specs.declared.decision.Decision.TheVariants.{Stay, Again}
use Rattle.engine_text.specs.declared.owner.Owner.TheVariants.{Container as OfContainer}
use Rattle.engine_text.specs.declared.container.Container.{Container}
use Rattle.engine_text.specs.declared.container.Goal.{Goal}
use Rattle.engine_text.specs.declared.container.Life.{Life}
use Rattle.engine_text.specs.declared.status.Status.{Status}
use Rattle.engine_text.specs.declared.event.Action.TheVariants.{Unmount, Stop, Restart}

-- ---- the end of a main process

-- behind a die
abbrev Dying : Life → Option Process → Bool → Bool → Bool → Type 0
Dying l p a b c = (not (l.pid == 0) ≡ false) × (p ≡ None) × (c ≡ false) × Names l.words × (is_paused l.status ≡ false) × (1 ≤ l.starts)

pub live_rests : (u : Status) (c : Bool) → FitsStatus u true → c ≡ is_restarting u → c ≡ false
live_rests Status.Created c h e = e
live_rests Status.Running c h e = e
live_rests Status.Paused c h e = e
live_rests Status.Restarting c h e = absurd (cc)
live_rests Status.Removing c h e = e
live_rests Status.Exited c h e = e
live_rests Status.Dead c h e = e

-- what a die leaves, before its code
abbrev Dropped : Life → Option Process → Bool → Bool → Bool → Type 0
Dropped l p a b c = (p ≡ None) × (c ≡ false) × Names l.words × (is_paused l.status ≡ false) × (1 ≤ l.starts)

dropped_by : (o : Option Life) (p : Option Process) (a b c : Bool) → OnBy Live o p a b c → OnBy Dropped o None a b c
dropped_by None p a b c h = (refl, h.1, h.2, h.3)
dropped_by (Some l) p a b c h =
    let calm : Calm l p a b c = h.0.0.0 in
    (refl, live_rests l.status c (subst (FitsStatus l.status) h.1 calm.status) calm.restart, calm.program h.1, h.0.1, live_started l (is_some p) h.1 calm.status calm.started)

-- the execs end, the die is told, and the process is gone
leads_die : (code n : ℕ) → Leads Local n (On Live) (and_then (end_execs n) (and_then (tell_of (die_event code) n) (die code n))) (On Dying)
leads_die code n =
    let ends : Leads Local n (On Dropped) (λ s. renew n (ended code s.clock) s) (On Dying) =
    leads_renew (λ s. ended code s.clock) (λ s pid v h. mapped_by Dropped Dying (ended code s.clock) (λ l p a b c k. (refl, k.0, k.1, k.2, k.3, k.4)) v.life v.main v.stop v.removal v.restart h)
    (λ s v h q w. (w.0, icy_renewed Dropped (ended code s.clock) (λ l p a b c k. refl) v.life v.main v.stop v.removal v.restart q h w.1)) (λ s v h roomy. room_renewed (ended code s.clock) (λ l. refl) v.life v.main roomy) in
    record {
      holds = λ s h.
          let all = end_all Local n (On Live) s h in
          let t : State = (end_execs n s).state in
          let u : State = (tell_of (die_event code) n t).state in
          let here = subst (λ (z : State). Steady Local n (On Live) z × NoExecs n z) (sym (told_state (die_event code) n t)) all in
          let gone : Steady Local n (On Dropped) (drop_process (OfContainer n) u) =
          drop_main Local n (On Live) (On Dropped) (λ v k. dropped_by v.life v.main v.stop v.removal v.restart k) u here.1 here.0 in
          subst (λ m. Steady Local n (On Dying) (renew n (ended code m) (drop_process (OfContainer n) u)).state) refl (ends.holds (drop_process (OfContainer n) u) gone);
    }

-- nothing runs, and nothing is to come, of what was started
abbrev Spent : Life → Option Process → Bool → Bool → Bool → Type 0
Spent l p a b c = Fallen l p a b c × (1 ≤ l.starts)

cleared_1 : (o : Option Life) (p : Option Process) (a b c : Bool) → OnBy Dying o p a b c → OnBy (λ l p a b c. Dying l p a b c × (a ≡ false)) o p false b c
cleared_1 None p a b c h = (h.0, refl, h.2, h.3)
cleared_1 (Some l) p a b c h = (h, refl)

cleared_2 : (o : Option Life) (p : Option Process) (a b c : Bool) → OnBy (λ l p a b c. Dying l p a b c × (a ≡ false)) o p a b c → OnBy Spent o p a false c
cleared_2 None p a b c h = (h.0, h.1, refl, h.3)
cleared_2 (Some l) p a b c h = ((h.0.0, h.0.1, h.1, refl, h.0.2, h.0.3, h.0.4), h.0.5)

leads_deadlines : (n : ℕ) → Leads Local n (On Dying) (change (λ s. record s { timers = cleared 2 n (cleared 1 n s.timers) })) (On Spent)
leads_deadlines n =
    let first : Leads Local n (On Dying) (change (λ s. record s { timers = cleared 1 n s.timers })) (On (λ l p a b c. Dying l p a b c × (a ≡ false))) =
    leads_clear_1 (λ v h. cleared_1 v.life v.main v.stop v.removal v.restart h) in
    let second : Leads Local n (On (λ l p a b c. Dying l p a b c × (a ≡ false))) (change (λ s. record s { timers = cleared 2 n s.timers })) (On Spent) =
    leads_clear_2 (λ v h. cleared_2 v.life v.main v.stop v.removal v.restart h) in
    let both = leads_then first second in
    record { holds = λ s h. both.holds s h }

-- at rest
pub rests : (l : Life) (u : Status) (p : Option Process) (a b c : Bool) → l.status ≡ u → FitsStatus u false → is_paused u ≡ false → is_restarting u ≡ false
    → not (l.pid == 0) ≡ false → p ≡ None → a ≡ false → b ≡ false → c ≡ false → HasStarted l → CalmUp l p a b c
rests l u p a b c is fits up calm pid none off away quiet started =
    let dead : is_some p ≡ false = ap is_some none in (
      record {
        status = subst (λ x. FitsStatus l.status x) (sym dead) (subst (λ x. FitsStatus x false) (sym is) fits);
        frozen = subst (IsFrozenAs (is_paused l.status)) (sym none) tt;
        pid = pid ∙ sym dead;
        stop = λ e. never a off e;
        removal = λ e. never b away e;
        restart = quiet ∙ sym (ap is_restarting is ∙ calm);
        program = λ e. never (is_some p) dead e;
        again = λ e. never c quiet e;
        started = started;
      },
      ap is_paused is ∙ up,
    )

-- at rest, with neither a process nor a timer
abbrev Rested : Life → Option Process → Bool → Bool → Bool → Type 0
Rested l p a b c = CalmUp l p a b c × Bare l p a b c

spent_exits : (n : ℕ) → Leads Local n (On Spent) (renew n exited) (On Rested)
spent_exits n =
    on_renew exited
    (λ l p a b c h. (rests (exited l) Status.Exited p a b c refl refl refl refl h.0.0 h.0.1 h.0.2 h.0.3 h.0.4 (λ other. h.1), (h.0.1, h.0.2, h.0.3, h.0.4)))
    (λ l p a b c h. sym h.0.6) (λ l. refl)

-- one that is removed by itself is gone
leads_removed_if : (auto : Bool) (n : ℕ) → Leads Local n (On Rested) (removed_if auto n) (On CalmUp)
leads_removed_if true n = leads_from (λ v h. on_weaker Rested Bare (λ l p x y z k. k.1) v h) (leads_destroy n)
leads_removed_if false n = leads_from (λ v h. on_weaker Rested CalmUp (λ l p x y z k. k.0) v h) leads_still

-- its timer is to be set
abbrev Waiting : Life → Option Process → Bool → Bool → Bool → Type 0
Waiting l p a b c = (not (l.pid == 0) ≡ false) × (p ≡ None) × (a ≡ false) × (b ≡ false) × Names l.words × (l.status ≡ Status.Restarting) × (1 ≤ l.starts)

waits_by : (l : Life) (p : Option Process) (a b c : Bool) → Waiting l p a b c → CalmUp l p a b true
waits_by l p a b c h =
    let dead : is_some p ≡ false = ap is_some h.1 in (
      record {
        status = subst (λ x. FitsStatus l.status x) (sym dead) (subst (λ x. FitsStatus x false) (sym h.5) refl);
        frozen = subst (IsFrozenAs (is_paused l.status)) (sym h.1) tt;
        pid = h.0 ∙ sym dead;
        stop = λ e. never a h.2 e;
        removal = λ e. never b h.3 e;
        restart = sym (ap is_restarting h.5);
        program = λ e. h.4;
        again = λ e. h.4;
        started = λ other. h.6;
      },
      ap is_paused h.5,
    )

leads_follow : (d : Decision) (auto : Bool) (n : ℕ) → Leads Local n (Here Spent) (follow d auto n) (On CalmUp)
leads_follow Stay auto n = leads_from (λ v h. on_here Spent v h) (leads_then (spent_exits n) (leads_removed_if auto n))
leads_follow (Again delay) auto n =
    let marks : Leads Local n (Here Spent) (renew n (restarting delay)) (Here Waiting) =
    here_renew Spent Waiting (λ s. restarting delay) (λ s pid l p a b c h. (h.0.0, h.0.1, h.0.2, h.0.3, h.0.5, refl, h.1)) (λ s l p a b c h. sym h.0.6) (λ s l. refl) in
    let sets : Leads Local n (Here Waiting) (change (λ s. record s { timers = with_timer (s.clock + delay) 3 n s.timers })) (On CalmUp) =
    leads_set_3 (λ s. s.clock + delay) (λ v h. on_here CalmUp (timed v.stop v.removal true v) (h.0, h.1, waits_by h.0 v.main v.stop v.removal v.restart h.2)) in
    leads_then marks sets

up_calm : (v : Parts) → On Up v → On CalmUp v
up_calm v h = on_weaker Up CalmUp (λ l p a b c k. (k.0.0, k.1)) v h

leads_by_goal : (g : Goal) (c : Container) → Leads Local c.number (Here Spent) (by_goal g c) (On CalmUp)
leads_by_goal Goal.Remove c = leads_from (λ v h. on_weaker Spent Bare (λ l p x y z k. (k.0.1, k.0.2, k.0.3, k.0.4)) v (on_here Spent v h)) (leads_destroy c.number)
leads_by_goal Goal.Stop c =
    leads_from (λ v h. on_here Spent v h)
    (leads_then (spent_exits c.number) (leads_then (leads_tell c.number (plain_event Stop)) (leads_removed_if c.life.auto_remove c.number)))
leads_by_goal Goal.Restart c =
    leads_from (λ v h. on_weaker Spent Fallen (λ l p x y z k. k.0) v (on_here Spent v h))
    (leads_then (leads_tell c.number (plain_event Stop))
    (leads_to up_calm (leads_then (leads_launch_by_call c.number) (leads_tell c.number (plain_event Restart)))))
leads_by_goal Goal.None c =
    leads_at (λ s. follow (decision_at s.clock c.life) c.life.auto_remove c.number) (λ s. leads_follow (decision_at s.clock c.life) c.life.auto_remove c.number)

leads_by_status : (u : Status) (c : Container) → c.life.status ≡ u → Leads Local c.number (Stood c (On Spent)) (by_status u c) (On CalmUp)
leads_by_status Status.Dead c e =
    leads_from (λ v h. on_here CalmUp v (c.life, h.0, dead (subst (λ (o : Option Life). OnBy Spent o v.main v.stop v.removal v.restart) h.0 h.1))) leads_still
  where
    dead : {p : Option Process} {x y z : Bool} → Spent c.life p x y z → CalmUp c.life p x y z
    dead {p} {x} {y} {z} h = rests c.life Status.Dead p x y z e tt refl refl h.0.0 h.0.1 h.0.2 h.0.3 h.0.4 (λ other. h.1)
leads_by_status Status.Created c e = leads_from (λ v h. here_of Spent c.life v h.0 h.1) (leads_by_goal c.life.goal c)
leads_by_status Status.Running c e = leads_from (λ v h. here_of Spent c.life v h.0 h.1) (leads_by_goal c.life.goal c)
leads_by_status Status.Paused c e = leads_from (λ v h. here_of Spent c.life v h.0 h.1) (leads_by_goal c.life.goal c)
leads_by_status Status.Restarting c e = leads_from (λ v h. here_of Spent c.life v h.0 h.1) (leads_by_goal c.life.goal c)
leads_by_status Status.Removing c e = leads_from (λ v h. here_of Spent c.life v h.0 h.1) (leads_by_goal c.life.goal c)
leads_by_status Status.Exited c e = leads_from (λ v h. here_of Spent c.life v h.0 h.1) (leads_by_goal c.life.goal c)

leads_decided : (n : ℕ) → Leads Local n (On Spent) (with_container n (λ c. by_status c.life.status c)) (On CalmUp)
leads_decided n =
    leads_with (λ c. by_status c.life.status c) (λ v e h. on_none Spent CalmUp v e h)
    (λ c is. subst (λ m. Leads Local m (Stood c (On Spent)) (by_status c.life.status c) (On CalmUp)) is (leads_by_status c.life.status c refl))

goalless : (l : Life) (p : Option Process) (a b c : Bool) → CalmUp l p a b c → Up (no_goal l) p a b c
goalless l p a b c h = (
  (
    record {
      status = h.0.status;
      frozen = h.0.frozen;
      pid = h.0.pid;
      stop = h.0.stop;
      removal = h.0.removal;
      restart = h.0.restart;
      program = h.0.program;
      again = h.0.again;
      started = h.0.started;
    },
    tt,
  ),
  h.1,
)

-- of a container that isn't paused and whose process lives
pub leads_end_main : (code n : ℕ) → Leads Local n (On Live) (end_main code n) (On Up)
leads_end_main code n =
    let all = leads_then (leads_die code n)
    (leads_then (leads_deadlines n)
    (leads_then (leads_mounts n Unmount)
    (leads_then (leads_decided n) (leads_then (on_renew no_goal goalless (λ l p a b c h. refl) (λ l. refl)) leads_still)))) in
    record { holds = λ s h. all.holds s h }
