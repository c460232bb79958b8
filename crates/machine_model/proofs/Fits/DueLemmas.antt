-- What fits still fits behind deadlines, restart timers and ops.
use Rattle.std.specs.Option.{is_some}
use Rattle.std.proofs.Common.{◌≡◌, ℕ, Bool, true, false, Option, Some, None, refl, ap, sym, ◌∙◌, subst}
use Rattle.api_json.specs.Status.{is_paused, is_restarting}
use Rattle.container_table.specs.Timers.{cleared}
use Rattle.proc_kernel.specs.Processes.{Process, is_frozen, run_due}
use Rattle.proc_kernel.specs.Tables.{process_of}
use Rattle.machine_model.specs.State.{State}
use Rattle.machine_model.specs.Chain.{change, with_container}
use Rattle.machine_model.specs.EventTexts.{kill_event}
use Rattle.machine_model.specs.Consistency.{FitsStatus, IsFrozenAs}
use Rattle.machine_model.specs.Due.{time_out, died, restarted, stop_deadline, removal_deadline, restart_timer}
use Rattle.machine_model.specs.Effects.Meet.{step_process}
use Rattle.machine_model.proofs.Processes.PaceLemmas.{due_goes}
use Rattle.machine_model.proofs.Fits.PartLemmas.{parts_of, Steady, Leads, leads_then, leads_from, leads_to, leads_with, leads_tell, IcyAs, Watch}
use Rattle.machine_model.proofs.Fits.TimerPartLemmas.{leads_clear_1, leads_clear_2, leads_clear_3}
use Rattle.machine_model.proofs.Fits.LaunchLemmas.{Fine, Up, Fallen, OnBy, On, Local, on_renew, never, live_started, leads_launch}
use Rattle.machine_model.proofs.Fits.MeetLemmas.{leads_meet, leads_going, no_process, off_if}
use Rattle.machine_model.proofs.Processes.LimitLemmas.{due_fits}
use Rattle.machine_model.proofs.Fits.ExecLoopLemmas.{exec_step_steady}
use Rattle.machine_model.proofs.Fits.CallLemmas.{up_fine}
use Rattle.machine_model.proofs.DueLemmas.{restarting_calm}
use Rattle.engine_text.specs.declared.owner.Owner.TheVariants.{Container as OfContainer, Exec as OfExec}
use Rattle.engine_text.specs.declared.container.Life.{Life}
use Rattle.engine_text.specs.declared.status.Status.{Status}

-- a stop deadline
unstopped : (o : Option Life) (p : Option Process) (a b c : Bool) → OnBy Fine o p a b c → OnBy Fine o p false b c
unstopped None p a b c h = (h.0, refl, h.2, h.3)
unstopped (Some l) p a b c h = (
  record {
    status = h.0.status;
    frozen = h.0.frozen;
    pid = h.0.pid;
    stop = λ e. never false refl e;
    removal = h.0.removal;
    restart = h.0.restart;
    program = h.0.program;
    again = h.0.again;
    started = h.0.started;
  },
  h.1,
)

pub leads_stop_deadline : (n : ℕ) → Leads Local n (On Fine) (stop_deadline n) (On Fine)
leads_stop_deadline n =
    let clears : Leads Local n (On Fine) (change (λ s. record s { timers = cleared 1 n s.timers })) (On Fine) =
    leads_clear_1 (λ v h. unstopped v.life v.main v.stop v.removal v.restart h) in
    leads_then clears (leads_then (leads_tell n (kill_event 9)) (leads_to up_fine (leads_meet 9 n)))

-- a removal deadline, which stands
abbrev Leaving : Life → Option Process → Bool → Bool → Bool → Type 0
Leaving l p a b c = Fine l p a b c × (l.status ≡ Status.Removing) × (b ≡ false)

pub leaves : (o : Option Life) (p : Option Process) (a b c : Bool) → b ≡ true → OnBy Fine o p a b c → OnBy Leaving o p a false c
leaves None p a b c e h = (h.0, h.1, refl, h.3)
leaves (Some l) p a b c e h = (
  (
    record {
      status = h.0.status;
      frozen = h.0.frozen;
      pid = h.0.pid;
      stop = h.0.stop;
      removal = λ f. never false refl f;
      restart = h.0.restart;
      program = h.0.program;
      again = h.0.again;
      started = h.0.started;
    },
    h.1,
  ),
  (h.0.removal e).1,
  refl,
)

dies : (l : Life) (p : Option Process) (a b c : Bool) → Leaving l p a b c → Fine (died l) p a b c
dies l p a b c h = (
  record {
    status = tt;
    frozen = subst (λ u. IsFrozenAs (is_paused u) p) h.1 h.0.0.frozen;
    pid = h.0.0.pid;
    stop = h.0.0.stop;
    removal = λ f. never b h.2 f;
    restart = h.0.0.restart ∙ ap is_restarting h.1;
    program = h.0.0.program;
    again = h.0.0.again;
    started = λ other. live_started l (is_some p) (subst (λ u. FitsStatus u (is_some p)) h.1 h.0.0.status) h.0.0.status h.0.0.started;
  },
  h.0.1,
)

pub leads_removal_deadline : (n : ℕ) → Leads Local n (λ v. On Fine v × (v.removal ≡ true)) (removal_deadline n) (On Fine)
leads_removal_deadline n =
    let clears : Leads Local n (λ v. On Fine v × (v.removal ≡ true)) (change (λ s. record s { timers = cleared 2 n s.timers })) (On Leaving) =
    leads_clear_2 (λ v h. leaves v.life v.main v.stop v.removal v.restart h.1 h.0) in
    let times : Leads Local n (On Fine) (with_container n (λ c. change (time_out c))) (On Fine) =
    leads_with (λ c. change (time_out c)) (λ v e h. h) (λ c is. leads_from (λ v h. h.1) (record { holds = λ s h. h })) in
    leads_then clears (leads_then (on_renew died dies (λ l p a b c h. sym (ap is_paused h.1)) (λ l. refl)) times)

-- a restart timer, which stands
falls : (o : Option Life) (p : Option Process) (a b c : Bool) → c ≡ true → OnBy Fine o p a b c → OnBy Fallen o p a b false
falls None p a b c e h = (h.0, h.1, h.2, refl)
falls (Some l) p a b c e h =
    let is : is_restarting l.status ≡ true = sym h.0.restart ∙ e in
    let dead : is_some p ≡ false = rests_so l.status (is_some p) is h.0.status in (
      h.0.pid ∙ dead,
      no_process p dead,
      off_if a (is_some p) dead h.0.stop,
      off_if b (is_some p) dead (λ f. (h.0.removal f).0),
      refl,
      h.0.again e,
      restarting_calm l.status is,
    )
  where
    rests_so : (u : Status) (live : Bool) → is_restarting u ≡ true → FitsStatus u live → live ≡ false
    rests_so Status.Restarting live e h = h
    rests_so Status.Created live e h = h
    rests_so Status.Exited live e h = h
    rests_so Status.Running live e h = absurd (cc)
    rests_so Status.Paused live e h = absurd (cc)
    rests_so Status.Removing live e h = absurd (cc)
    rests_so Status.Dead live e h = absurd (cc)

pub leads_restart_timer : (n : ℕ) → Leads Local n (λ v. On Fine v × (v.restart ≡ true)) (restart_timer n) (On Fine)
leads_restart_timer n =
    let clears : Leads Local n (λ v. On Fine v × (v.restart ≡ true)) (change (λ s. record s { timers = cleared 3 n s.timers })) (On Fallen) =
    leads_clear_3 (λ v h. falls v.life v.main v.stop v.removal v.restart h.1 h.0) in
    leads_then clears (leads_then (on_renew {R = Fallen} {T = Fallen} restarted (λ l p a b c h. h) (λ l p a b c h. refl) (λ l. refl)) (leads_to up_fine (leads_launch n)))

-- an op of a main process whose container isn't paused, and of an exec
pub leads_op : (n : ℕ) → Leads Local n (On Up) (step_process run_due (OfContainer n)) (On Fine)
leads_op n = leads_to up_fine (leads_going run_due due_fits n due_goes)

-- none of that exec's is frozen
abbrev pub GoesAt : State → ℕ → Type 0
GoesAt s k = (q : Process) → process_of (OfExec k) s.processes ≡ Some q → is_frozen q.pace ≡ false

same_icy : (o : Option Life) (q r : Process) → is_frozen q.pace ≡ is_frozen r.pace → IcyAs o q → IcyAs o r
same_icy None q r e h = h
same_icy (Some l) q r e h = sym e ∙ h

pub exec_op : (n k : ℕ) (s : State) → GoesAt s k → Steady Local n (On Fine) s → Steady Local n (On Fine) (step_process run_due (OfExec k) s).state
exec_op n k s goes h =
    exec_step_steady Watch Local n (On Fine) run_due due_fits k s
    (λ x q e f w. (w.0, same_icy (parts_of x.container s).life q (run_due s.clock q).process (goes q f ∙ sym (due_goes s.clock q (goes q f))) w.1)) h
