-- What steps, thaws, signals and halts keep of what fits.
use Rattle.std.proofs.Common.{◌≡◌, ℕ, ◌+◌, ◌≤◌, ◌==◌, Bool, true, false, not, List, Option, Some, None, refl, ap, sym, ◌∙◌, subst, arith, ◌*◌, ℤ, pos, negsuc, length}
use Rattle.std.specs.Prelude.{option_map, is_some, unwrap_or}
use Rattle.api_json.specs.Status.{is_paused, is_restarting}
use Rattle.container_table.specs.Timers.{cleared}
use Rattle.container_table.specs.declared.rank.Rank.{Rank}
use Rattle.proc_kernel.specs.Processes.{signal, thaw, Process, ProcessStep, is_frozen}
use Rattle.proc_kernel.specs.Tables.{effect_of, process_of}
use Rattle.machine_model.specs.State.{State, change_process, timer_of, change_life}
use Rattle.machine_model.specs.Chain.{change, and_then, in_order, renew, tell_of}
use Rattle.machine_model.specs.EventTexts.{plain_event, kill_event}
use Rattle.machine_model.specs.Consistency.{FitsStatus, IsFrozenAs, GoalStands, HasStarted}
use Rattle.machine_model.specs.Effects.Cancel.{cancelled, cancel_restart}
use Rattle.machine_model.specs.Effects.Halt.{lesser, set_deadline, halt}
use Rattle.machine_model.specs.Effects.Meet.{logged, by_effect, stepped, step_process, running, thaw_execs, wake_parts, thaw_container, send, woken, meet_signal}
use Rattle.machine_model.specs.Effects.Launch.{log_size}
use Rattle.machine_model.proofs.Fits.PartLemmas.{Steady, Parts, parts_of, Leads, leads_then, leads_from, leads_still, leads_with, leads_tell, leads_renew, IcyAs, Stood, Roomy}
use Rattle.machine_model.proofs.Processes.PaceLemmas.{Going, StepGoes, thaw_goes, signal_goes, signal_thaws}
use Rattle.machine_model.proofs.Fits.MainPartLemmas.{leads_process}
use Rattle.machine_model.proofs.Fits.TimerPartLemmas.{leads_clear_3, leads_set_1}
use Rattle.machine_model.proofs.Fits.LogRoomLemmas.{RoomBy, room_in, log_more}
use Rattle.machine_model.proofs.Processes.LimitLemmas.{IsStep, written, thaw_fits, signal_fits}
use Rattle.machine_model.proofs.Fits.ExecLoopLemmas.{told_state}
use Rattle.machine_model.proofs.Fits.ExecPhaseLemmas.{loosen, tighten, renew_loosely, thaw_all}
use Rattle.machine_model.proofs.Fits.LaunchLemmas.{Names, Fine, Up, Live, OnBy, On, Here, Local, on_weaker, on_none, here_of, on_here, mapped_by, icy_renewed, here_renew, Fallen, goal_live, never, live_started}
use Rattle.machine_model.proofs.Fits.EndMainLemmas.{leads_end_main}
use Rattle.engine_text.specs.declared.script.Effect.{Effect as ProcessEffect}
use Rattle.engine_text.specs.declared.script.Effect.TheVariants.{Lives, Wrote, Ended}
use Rattle.engine_text.specs.declared.script.Stream.{Stream}
use Rattle.engine_text.specs.declared.signal.Signal.{Signal}
use Rattle.engine_text.specs.declared.event.Action.TheVariants.{Unpause}
use Rattle.engine_text.specs.declared.owner.Owner.TheVariants.{Container as OfContainer}
use Rattle.engine_text.specs.declared.container.Container.{Container}
use Rattle.engine_text.specs.declared.container.Life.{Life}
use Rattle.engine_text.specs.declared.status.Status.{Status}

-- ---- steps of a main process

-- the same process, and a log with one record more
logs_more : (stream : Stream) (payload : List ℕ) (t : ℕ) (l : Life) (p : Option Process) (a b c : Bool) → Live l p a b c → Up (logged stream payload t l) p a b c
logs_more stream payload t l p a b c h = (
  (
    record {
      status = h.0.0.0.status;
      frozen = h.0.0.0.frozen;
      pid = h.0.0.0.pid;
      stop = h.0.0.0.stop;
      removal = h.0.0.0.removal;
      restart = h.0.0.0.restart;
      program = h.0.0.0.program;
      again = h.0.0.0.again;
      started = h.0.0.0.started;
    },
    h.0.0.1,
  ),
  h.0.1,
)

-- that many bytes may yet be logged beside what the process may write
abbrev SlackBy : ℕ → Option Life → Option Process → Type 0
SlackBy w None p = Unit {0}
SlackBy w (Some l) p = w + (log_size l.log + room_in p) ≤ 4194304

logged_room : (stream : Stream) (payload : List ℕ) (t : ℕ) (o : Option Life) (p : Option Process) → SlackBy (length payload) o p → RoomBy (option_map (logged stream payload t) o) p
logged_room stream payload t None p h = tt
logged_room stream payload t (Some l) p h = let more = log_more l.log l.starts stream payload t in omega (arith, h, more)

stepped_room : (w : ℕ) (o : Option Life) (p : Option Process) (q r : Process) → p ≡ Some q → w + r.room ≤ q.room → RoomBy o p → SlackBy w o (Some r)
stepped_room w None p q r e less h = tt
stepped_room w (Some l) p q r e less h = let before : log_size l.log + q.room ≤ 4194304 = subst (λ x. log_size l.log + room_in x ≤ 4194304) e h in omega (arith, before, less)

main_effect : (n : ℕ) (e : ProcessEffect) → Leads Local n (λ v. On Live v × SlackBy (written e) v.life v.main) (by_effect e (OfContainer n)) (On Up)
main_effect n Lives = leads_from (λ v h. on_weaker Live Up (λ l p a b c k. k.0) v h.0) leads_still
main_effect n (Wrote stream payload) =
    leads_renew (λ s. logged stream payload s.clock)
    (λ s pid v h. mapped_by Live Up (logged stream payload s.clock) (logs_more stream payload s.clock) v.life v.main v.stop v.removal v.restart h.0)
    (λ s v h q w. (w.0, icy_renewed Live (logged stream payload s.clock) (λ l p a b c h. refl) v.life v.main v.stop v.removal v.restart q h.0 w.1))
    (λ s v h roomy. logged_room stream payload s.clock v.life v.main h.1)
main_effect n (Ended code) = leads_from (λ v h. h.0) (leads_end_main code n)

moved_none : (R : Life → Option Process → Bool → Bool → Bool → Type 0) (o : Option Life) (p : Option Process) (a b c : Bool) (f : Process → Process) → ((l : Life) (a b c : Bool) → R l None a b c → Up l None a b c)
    → p ≡ None → OnBy R o p a b c → OnBy Up o (option_map f p) a b c
moved_none R None p a b c f k e h = (ap (option_map f) e, h.1, h.2, h.3)
moved_none R (Some l) p a b c f k e h = subst (λ q. Up l q a b c) (sym (ap (option_map f) e)) (k l a b c (subst (λ q. R l q a b c) e h))

moved_some : (R : Life → Option Process → Bool → Bool → Bool → Type 0) (o : Option Life) (p : Option Process) (a b c : Bool) (f : Process → Process) (q : Process)
    → ((l : Life) (a b c : Bool) → R l (Some q) a b c → Live l (Some (f q)) a b c) → p ≡ Some q → OnBy R o p a b c → OnBy Live o (option_map f p) a b c
moved_some R None p a b c f q k e h = let no_way : None ≡ Some q = sym h.0 ∙ e in absurd (cc)
moved_some R (Some l) p a b c f q k e h = subst (λ x. Live l x a b c) (sym (ap (option_map f) e)) (k l a b c (subst (λ x. R l x a b c) e h))

step_by : (R : Life → Option Process → Bool → Bool → Bool → Type 0) (step : ℕ → Process → ProcessStep) → IsStep step → (n : ℕ) (s : State) (o : Option Process) → process_of (OfContainer n) s.processes ≡ o
    → ((t : ℕ) (l : Life) (q : Process) (a b c : Bool) → R l (Some q) a b c → Live l (Some (step t q).process) a b c) → ((l : Life) (a b c : Bool) → R l None a b c → Up l None a b c)
    → Steady Local n (On R) s → Steady Local n (On Up) (and_then (change (stepped step (OfContainer n))) (by_effect (effect_of (step s.clock) o) (OfContainer n)) s).state
step_by R step is n s None e some none h =
    let f : Process → Process = λ p. (step s.clock p).process in
    let moved : Leads Local n (λ v. On R v × (v.main ≡ None)) (change (λ x. change_process (OfContainer n) f x)) (On Up) =
    leads_process (λ x. f) (λ x v k. moved_none R v.life v.main v.stop v.removal v.restart f none k.1 k.0) (λ x q. let r = (is s.clock q).room in omega (arith, r)) in
    moved.holds s (h.0, h.1, (h.2, e))
step_by R step is n s (Some q) e some none h =
    let f : Process → Process = λ p. (step s.clock p).process in
    let effect : ProcessEffect = (step s.clock q).effect in
    let room : written effect + (f q).room ≤ q.room = (is s.clock q).room in
    let moved : Leads Local n (λ v. On R v × (v.main ≡ Some q) × Roomy v) (change (λ x. change_process (OfContainer n) f x)) (λ v. On Live v × SlackBy (written effect) v.life v.main) =
    leads_process (λ x. f)
    (λ x v k. (
      moved_some R v.life v.main v.stop v.removal v.restart f q (λ l a b c r. some s.clock l q a b c r) k.1 k.0,
      subst (SlackBy (written effect) v.life) (sym (ap (option_map f) k.1)) (stepped_room (written effect) v.life v.main q (f q) k.1 room k.2),
    )) (λ x q. let r = (is s.clock q).room in omega (arith, r)) in
    (leads_then moved (main_effect n effect)).holds s (h.0, h.1, (h.2, e, h.0.7.mains n))

pub leads_step : (R : Life → Option Process → Bool → Bool → Bool → Type 0) (step : ℕ → Process → ProcessStep) → IsStep step → (n : ℕ)
    → ((t : ℕ) (l : Life) (q : Process) (a b c : Bool) → R l (Some q) a b c → Live l (Some (step t q).process) a b c) → ((l : Life) (a b c : Bool) → R l None a b c → Up l None a b c)
    → Leads Local n (On R) (step_process step (OfContainer n)) (On Up)
leads_step R step is n some none = record { holds = λ s h. step_by R step is n s (process_of (OfContainer n) s.processes) refl some none h }

-- all but whether the process is frozen
abbrev pub Loose : Life → Option Process → Bool → Bool → Bool → Type 0
Loose l p a b c =
    FitsStatus l.status (is_some p) × (not (l.pid == 0) ≡ is_some p) × (a ≡ true → is_some p ≡ true) × (b ≡ true → (is_some p ≡ true) × (l.status ≡ Status.Removing))
    × (c ≡ is_restarting l.status) × (is_some p ≡ true → Names l.words) × (c ≡ true → Names l.words) × GoalStands l.goal (is_some p) × (is_paused l.status ≡ false) × HasStarted l

tight : (l : Life) (q : Process) (p : Process) (a b c : Bool) → Going q → Loose l (Some p) a b c → Live l (Some q) a b c
tight l q p a b c going h = (
  (
    (
      record {
        status = h.0;
        frozen = subst (λ x. IsFrozenAs x (Some q)) (sym h.8) going;
        pid = h.1;
        stop = h.2;
        removal = h.3;
        restart = h.4;
        program = h.5;
        again = h.6;
        started = h.9;
      },
      h.7,
    ),
    h.8,
  ),
  refl,
)

tight_none : (l : Life) (a b c : Bool) → Loose l None a b c → Up l None a b c
tight_none l a b c h = (
  (
    record {
      status = h.0;
      frozen = tt;
      pid = h.1;
      stop = h.2;
      removal = h.3;
      restart = h.4;
      program = h.5;
      again = h.6;
      started = h.9;
    },
    h.7,
  ),
  h.8,
)

pub loose : (l : Life) (p : Option Process) (a b c : Bool) → Up l p a b c → Loose l p a b c
loose l p a b c h =
    (h.0.0.status, h.0.0.pid, h.0.0.stop, h.0.0.removal, h.0.0.restart, h.0.0.program, h.0.0.again, h.0.1, h.1, h.0.0.started)

-- a step that leaves none frozen
pub leads_loose : (step : ℕ → Process → ProcessStep) → IsStep step → (n : ℕ) → ((t : ℕ) (q : Process) → Going (step t q).process) → Leads Local n (On Loose) (step_process step (OfContainer n)) (On Up)
leads_loose step is n goes = leads_step Loose step is n (λ t l q a b c h. tight l (step t q).process q a b c (goes t q) h) tight_none

-- a step of a process that isn't frozen
pub leads_going : (step : ℕ → Process → ProcessStep) → IsStep step → (n : ℕ) → StepGoes step → Leads Local n (On Up) (step_process step (OfContainer n)) (On Up)
leads_going step is n goes =
    leads_step Up step is n
    (λ t l q a b c h. tight l (step t q).process q a b c (goes t q (subst (λ x. IsFrozenAs x (Some q)) h.1 h.0.0.frozen)) (loose l (Some q) a b c h)) (λ l a b c h. h)

-- ---- thaws and signals

abbrev pub Halted : Life → Option Process → Bool → Bool → Bool → Type 0
Halted l p a b c = Fine l p a b c × (l.status ≡ Status.Paused)

wakes : (l : Life) (p : Option Process) (a b c : Bool) → Halted l p a b c → Loose (running l) p a b c
wakes l p a b c h =
    let live : is_some p ≡ true = subst (λ u. FitsStatus u (is_some p)) h.1 h.0.0.status in
    (live, h.0.0.pid, h.0.0.stop, λ e. let r = (h.0.0.removal e).1 in absurd (apart (sym h.1 ∙ r)), h.0.0.restart ∙ ap is_restarting h.1, h.0.0.program, h.0.0.again, h.0.1, refl, λ other. live_started l (is_some p) live h.0.0.status h.0.0.started)
  where
    apart : Status.Paused ≡ Status.Removing → ⊥
    apart e = let no_way : true ≡ false = ap is_paused e in absurd (cc)

icy_going : (o : Option Life) (p : Option Process) (a b c : Bool) (q : Process) → is_some p ≡ true → is_frozen q.pace ≡ false → OnBy Loose o p a b c → IcyAs o q
icy_going None p a b c q live going h = never (is_some p) (ap is_some h.0) live
icy_going (Some l) p a b c q live going h = going ∙ sym h.8

pub leads_wake : (n : ℕ) → Leads Local n (On Halted) (in_order (wake_parts n)) (On Loose)
leads_wake n = record {
  holds = λ s h.
      let u : State = (tell_of (plain_event Unpause) n s).state in
      let told : Steady Local n (On Halted) u = subst (Steady Local n (On Halted)) (sym (told_state (plain_event Unpause) n s)) h in
      let t : State = change_life n running u in
      let runs = renew_loosely Local n (On Halted) (On Loose) running (λ v k. mapped_by Halted Loose running wakes v.life v.main v.stop v.removal v.restart k) (λ l. refl) u (loosen Local n (On Halted) u told) in
      let all = thaw_all Local n (On Loose) t runs in
      let w : State = (thaw_execs n t).state in
      tighten Local n (On Loose) w
      (λ m x q e c f live loosely. icy_going (parts_of n w).life (parts_of n w).main (parts_of n w).stop (parts_of n w).removal (parts_of n w).restart q live (all.1 m x e c q f) loosely) all.0;
}

pub leads_thaw : (n : ℕ) → Leads Local n (On Halted) (thaw_container n) (On Up)
leads_thaw n = leads_then (leads_wake n) (leads_loose thaw thaw_fits n thaw_goes)

pub leads_send : (thaws : Bool) (number n : ℕ) → Leads Local n (On Up) (send thaws number n) (On Up)
leads_send thaws number n = leads_going (signal number thaws) (signal_fits number thaws) n (signal_goes number thaws)

stood_up : (u : Status) (c : Container) (v : Parts) → c.life.status ≡ u → is_paused u ≡ false → Stood c (On Fine) v → On Loose v
stood_up u c v e calm h =
    let here : Here Fine v = here_of Fine c.life v h.0 h.1 in
    let fine : Fine c.life v.main v.stop v.removal v.restart = subst (λ (o : Option Life). OnBy Fine o v.main v.stop v.removal v.restart) h.0 h.1 in
    on_here Loose v (c.life, h.0, loose c.life v.main v.stop v.removal v.restart (fine, ap is_paused e ∙ calm))

leads_woken : (u : Status) (n : ℕ) (c : Container) → c.life.status ≡ u → Leads Local n (Stood c (On Fine)) (woken u n) (On Loose)
leads_woken Status.Paused n c e =
    leads_from (λ v h. on_here Halted v (c.life, h.0, (subst (λ (o : Option Life). OnBy Fine o v.main v.stop v.removal v.restart) h.0 h.1, e))) (leads_wake n)
leads_woken Status.Created n c e = leads_from (λ v h. stood_up Status.Created c v e refl h) leads_still
leads_woken Status.Running n c e = leads_from (λ v h. stood_up Status.Running c v e refl h) leads_still
leads_woken Status.Restarting n c e = leads_from (λ v h. stood_up Status.Restarting c v e refl h) leads_still
leads_woken Status.Removing n c e = leads_from (λ v h. stood_up Status.Removing c v e refl h) leads_still
leads_woken Status.Exited n c e = leads_from (λ v h. stood_up Status.Exited c v e refl h) leads_still
leads_woken Status.Dead n c e = leads_from (λ v h. stood_up Status.Dead c v e refl h) leads_still

-- it isn't paused behind it
pub leads_meet : (number n : ℕ) → Leads Local n (On Fine) (meet_signal number n) (On Up)
leads_meet number n =
    leads_with (λ c. and_then (woken c.life.status n) (send true number n)) (λ v e h. on_none Fine Up v e h)
    (λ c is. leads_then (leads_woken c.life.status n c refl) (leads_loose (signal number true) (signal_fits number true) n (signal_thaws number)))

-- ---- a halt

abbrev pub Alive : Life → Option Process → Bool → Bool → Bool → Type 0
Alive l p a b c = Fine l p a b c × (is_some p ≡ true)

leads_deadline : (z : ℤ) (n : ℕ) → Leads Local n (Here Alive) (change (set_deadline z n)) (Here Alive)
leads_deadline (pos seconds) n = leads_set_1 (λ s. lesser (timer_of Rank.StopDeadline n s) (s.clock + 1000 * seconds)) (λ v h. (
  h.0,
  h.1,
  (
    (
      record {
        status = h.2.0.0.status;
        frozen = h.2.0.0.frozen;
        pid = h.2.0.0.pid;
        stop = λ e. h.2.1;
        removal = h.2.0.0.removal;
        restart = h.2.0.0.restart;
        program = h.2.0.0.program;
        again = h.2.0.0.again;
        started = h.2.0.0.started;
      },
      h.2.0.1,
    ),
    h.2.1,
  ),
))
leads_deadline (negsuc k) n = record { holds = λ s h. h }

-- a mark of a container whose process lives: the goal and the manual flag
pub record IsGoalMark (f : Life → Life) : Type 0 where
  pub status : (l : Life) → (f l).status ≡ l.status
  pub pid : (l : Life) → (f l).pid ≡ l.pid
  pub words : (l : Life) → (f l).words ≡ l.words
  pub log : (l : Life) → (f l).log ≡ l.log
  pub starts : (l : Life) → (f l).starts ≡ l.starts

pub marked : (f : Life → Life) → IsGoalMark f → (l : Life) (p : Option Process) (a b c : Bool) → Alive l p a b c → Alive (f l) p a b c
marked f mark l p a b c h = (
  (
    record {
      status = subst (λ u. FitsStatus u (is_some p)) (sym (mark.status l)) h.0.0.status;
      frozen = subst (λ u. IsFrozenAs (is_paused u) p) (sym (mark.status l)) h.0.0.frozen;
      pid = ap (λ n. not (n == 0)) (mark.pid l) ∙ h.0.0.pid;
      stop = h.0.0.stop;
      removal = λ e. ((h.0.0.removal e).0, mark.status l ∙ (h.0.0.removal e).1);
      restart = h.0.0.restart ∙ sym (ap is_restarting (mark.status l));
      program = λ e. subst Names (sym (mark.words l)) (h.0.0.program e);
      again = λ e. subst Names (sym (mark.words l)) (h.0.0.again e);
      started = λ other. subst (λ n. 1 ≤ n) (sym (mark.starts l)) (live_started l (is_some p) h.1 h.0.0.status h.0.0.started);
    },
    subst (GoalStands (f l).goal) (sym h.1) (goal_live (f l).goal),
  ),
  h.1,
)

pub leads_halt : (mark : Life → Life) (seconds : Option ℤ) (signal : Option Signal) (c : Container) → IsGoalMark mark → Leads Local c.number (Here Alive) (halt mark seconds signal c) (On Up)
leads_halt mark seconds signal c is =
    let marks : Leads Local c.number (Here Alive) (renew c.number mark) (Here Alive) = here_renew Alive Alive (λ s. mark) (λ s pid l p x y z h. marked mark is l p x y z h) (λ s l p x y z h. ap is_paused (is.status l)) (λ s l. is.log l) in
    leads_then (leads_tell c.number (kill_event ((unwrap_or signal c.life.stop_signal).number)))
    (leads_then marks
    (leads_then (leads_deadline (unwrap_or seconds c.life.stop_after) c.number)
    (leads_from (λ v h. on_weaker Alive Fine (λ l p x y z k. k.0) v (on_here Alive v h)) (leads_meet ((unwrap_or signal c.life.stop_signal).number) c.number))))

-- ---- the end of a pending restart

abbrev pub Resting : Life → Option Process → Bool → Bool → Bool → Type 0
Resting l p a b c = Fine l p a b c × (l.status ≡ Status.Restarting)

abbrev pub Cancelled : Life → Option Process → Bool → Bool → Bool → Type 0
Cancelled l p a b c = Fallen l p a b c × GoalStands l.goal false × (l.status ≡ Status.Exited) × (1 ≤ l.starts)

-- its timer is gone
abbrev Untimed : Life → Option Process → Bool → Bool → Bool → Type 0
Untimed l p a b c =
    (not (l.pid == 0) ≡ false) × (p ≡ None) × (a ≡ false) × (b ≡ false) × (c ≡ false) × Names l.words × GoalStands l.goal false × (is_paused l.status ≡ false) × (1 ≤ l.starts)

pub no_process : (p : Option Process) → is_some p ≡ false → p ≡ None
no_process None e = refl
no_process (Some q) e = absurd (cc)

pub off_if : (b live : Bool) → live ≡ false → (b ≡ true → live ≡ true) → b ≡ false
off_if true live e k = never live e (k refl)
off_if false live e k = refl

untimed : (l : Life) (p : Option Process) (a b c : Bool) → Resting l p a b c → Untimed l p a b false
untimed l p a b c h =
    let dead : is_some p ≡ false = subst (λ u. FitsStatus u (is_some p)) h.1 h.0.0.status in (
      h.0.0.pid ∙ dead,
      no_process p dead,
      off_if a (is_some p) dead h.0.0.stop,
      off_if b (is_some p) dead (λ e. (h.0.0.removal e).0),
      refl,
      h.0.0.again (h.0.0.restart ∙ ap is_restarting h.1),
      subst (GoalStands l.goal) dead h.0.1,
      ap is_paused h.1,
      h.0.0.started (λ is. let no_way : true ≡ false = ap is_restarting (sym h.1 ∙ is) in absurd (cc)),
    )

pub leads_cancel : (n : ℕ) → Leads Local n (Here Resting) (cancel_restart n) (Here Cancelled)
leads_cancel n =
    let clears : Leads Local n (Here Resting) (change (λ s. record s { timers = cleared 3 n s.timers })) (Here Untimed) =
    leads_clear_3 (λ v h. (h.0, h.1, untimed h.0 v.main v.stop v.removal v.restart h.2)) in
    let marks : Leads Local n (Here Untimed) (renew n cancelled) (Here Cancelled) =
    here_renew Untimed Cancelled (λ s. cancelled) (λ s pid l p a b c h. ((h.0, h.1, h.2, h.3, h.4, h.5, refl), h.6, refl, h.8)) (λ s l p a b c h. sym h.7) (λ s l. refl) in
    leads_then clears marks
