-- Goals, statuses, main processes and timers fit each other: what the effects at one container keep of it.
use Rattle.std.proofs.Common.{◌≡◌, ℕ, ◌+◌, ◌≤◌, ◌==◌, Bool, true, false, not, List, Option, Some, None, refl, ap, sym, ◌∙◌, subst, arith, ◌-◌}
use Rattle.std.proofs.lemmas.Bool.Decides.{nat_tests}
use Rattle.std.specs.Prelude.{option_map, is_some}
use Rattle.api_json.specs.Status.{is_paused, is_restarting}
use Rattle.proc_kernel.specs.Catalogue.{program_of}
use Rattle.proc_kernel.specs.Processes.{Process, spawn as spawned}
use Rattle.engine_text.specs.Scripts.{Program}
use Rattle.machine_model.specs.State.{State}
use Rattle.machine_model.specs.Chain.{change, with_container, renew}
use Rattle.machine_model.specs.EventTexts.{plain_event}
use Rattle.machine_model.specs.Consistency.{is_there, FitsStatus, IsFrozenAs, GoalStands, HasStarted}
use Rattle.machine_model.specs.Effects.Launch.{spawn, launched, launch_program, launch, launch_by_call, afresh, container_room, log_size}
use Rattle.machine_model.specs.Effects.Destroy.{without, destroy}
use Rattle.machine_model.specs.Effects.EndMain.{end_exec}
use Rattle.machine_model.proofs.Fits.PartLemmas.{Parts, parts_of, Leads, leads_then, leads_to, leads_with, leads_tell, leads_mounts, leads_renew, Watch, IcyAs, Stood}
use Rattle.machine_model.proofs.Fits.MainPartLemmas.{leads_spawn, leads_without}
use Rattle.machine_model.proofs.Fits.LogRoomLemmas.{RoomBy, room_renewed}
use Rattle.machine_model.proofs.Fits.ExecLoopLemmas.{end_exec_steady}
use Rattle.engine_text.specs.declared.log.LogRecord.{LogRecord}
use Rattle.engine_text.specs.declared.owner.Owner.TheVariants.{Container as OfContainer}
use Rattle.engine_text.specs.declared.container.Container.{Container}
use Rattle.engine_text.specs.declared.container.Goal.{Goal}
use Rattle.engine_text.specs.declared.container.Life.{Life}
use Rattle.engine_text.specs.declared.status.Status.{Status}
use Rattle.engine_text.specs.declared.event.Action.TheVariants.{Start, Mount, Destroy}

-- ---- what fits

-- the words name a program, at each count of starts
abbrev pub Names : List (List ℕ) → Type 0
Names words = (k : ℕ) → is_there (program_of words k) ≡ true

-- all but the goal
pub record Calm (l : Life) (p : Option Process) (a b c : Bool) : Type 0 where
  pub status : FitsStatus l.status (is_some p)
  pub frozen : IsFrozenAs (is_paused l.status) p
  pub pid : not (l.pid == 0) ≡ is_some p
  pub stop : a ≡ true → is_some p ≡ true
  pub removal : b ≡ true → (is_some p ≡ true) × (l.status ≡ Status.Removing)
  pub restart : c ≡ is_restarting l.status
  pub program : is_some p ≡ true → Names l.words
  pub again : c ≡ true → Names l.words
  pub started : HasStarted l

abbrev pub Fine : Life → Option Process → Bool → Bool → Bool → Type 0
Fine l p a b c = Calm l p a b c × GoalStands l.goal (is_some p)

-- nor paused
abbrev pub Up : Life → Option Process → Bool → Bool → Bool → Type 0
Up l p a b c = Fine l p a b c × (is_paused l.status ≡ false)

abbrev pub CalmUp : Life → Option Process → Bool → Bool → Bool → Type 0
CalmUp l p a b c = Calm l p a b c × (is_paused l.status ≡ false)

abbrev pub Live : Life → Option Process → Bool → Bool → Bool → Type 0
Live l p a b c = Up l p a b c × (is_some p ≡ true)

-- of a number that no container has
abbrev pub OnBy : (Life → Option Process → Bool → Bool → Bool → Type 0) → Option Life → Option Process → Bool → Bool → Bool → Type 0
OnBy R None p a b c = (p ≡ None) × (a ≡ false) × (b ≡ false) × (c ≡ false)
OnBy R (Some l) p a b c = R l p a b c

abbrev pub On : (Life → Option Process → Bool → Bool → Bool → Type 0) → Parts → Type 0
On R v = OnBy R v.life v.main v.stop v.removal v.restart

-- it stands
abbrev pub Here : (Life → Option Process → Bool → Bool → Bool → Type 0) → Parts → Type 0
Here R v = (l : Life) × (v.life ≡ Some l) × R l v.main v.stop v.removal v.restart

abbrev pub Local : Parts → Type 0
Local v = On Fine v

on_weaker_by : (R T : Life → Option Process → Bool → Bool → Bool → Type 0) → ((l : Life) (p : Option Process) (a b c : Bool) → R l p a b c → T l p a b c) → (o : Option Life) (p : Option Process) (a b c : Bool)
    → OnBy R o p a b c → OnBy T o p a b c
on_weaker_by R T k None p a b c h = h
on_weaker_by R T k (Some l) p a b c h = k l p a b c h

pub on_weaker : (R T : Life → Option Process → Bool → Bool → Bool → Type 0) → ((l : Life) (p : Option Process) (a b c : Bool) → R l p a b c → T l p a b c) → (v : Parts) → On R v → On T v
on_weaker R T k v h = on_weaker_by R T k v.life v.main v.stop v.removal v.restart h

none_by : (R T : Life → Option Process → Bool → Bool → Bool → Type 0) (o : Option Life) (p : Option Process) (a b c : Bool) → o ≡ None → OnBy R o p a b c → OnBy T o p a b c
none_by R T None p a b c e h = h
none_by R T (Some l) p a b c e h = absurd (cc)

pub on_none : (R T : Life → Option Process → Bool → Bool → Bool → Type 0) (v : Parts) → v.life ≡ None → On R v → On T v
on_none R T v e h = none_by R T v.life v.main v.stop v.removal v.restart e h

pub here_of : (R : Life → Option Process → Bool → Bool → Bool → Type 0) (l : Life) (v : Parts) → v.life ≡ Some l → On R v → Here R v
here_of R l v e h = (l, e, subst (λ o. OnBy R o v.main v.stop v.removal v.restart) e h)

pub on_here : (R : Life → Option Process → Bool → Bool → Bool → Type 0) (v : Parts) → Here R v → On R v
on_here R v h = subst (λ o. OnBy R o v.main v.stop v.removal v.restart) (sym h.1) h.2

pub mapped_by : (R T : Life → Option Process → Bool → Bool → Bool → Type 0) (f : Life → Life) → ((l : Life) (p : Option Process) (a b c : Bool) → R l p a b c → T (f l) p a b c) → (o : Option Life) (p : Option Process) (a b c : Bool)
    → OnBy R o p a b c → OnBy T (option_map f o) p a b c
mapped_by R T f k None p a b c h = h
mapped_by R T f k (Some l) p a b c h = k l p a b c h

-- a change that leaves whether the container is paused
abbrev pub LeavesPaused : (Life → Option Process → Bool → Bool → Bool → Type 0) → (Life → Life) → Type 0
LeavesPaused R f = (l : Life) (p : Option Process) (a b c : Bool) → R l p a b c → is_paused (f l).status ≡ is_paused l.status

pub icy_renewed : (R : Life → Option Process → Bool → Bool → Bool → Type 0) (f : Life → Life) → LeavesPaused R f → (o : Option Life) (p : Option Process) (a b c : Bool) (q : Process) → OnBy R o p a b c → IcyAs o q → IcyAs (option_map f o) q
icy_renewed R f still None p a b c q r h = h
icy_renewed R f still (Some l) p a b c q r h = h ∙ sym (still l p a b c r)

here_icy : (R : Life → Option Process → Bool → Bool → Bool → Type 0) (f : Life → Life) → LeavesPaused R f → (v : Parts) (q : Process) → Here R v → IcyAs v.life q → IcyAs (option_map f v.life) q
here_icy R f still v q r h = icy_renewed R f still v.life v.main v.stop v.removal v.restart q (on_here R v r) h

pub on_renew : {n : ℕ} {R T : Life → Option Process → Bool → Bool → Bool → Type 0} (f : Life → Life) → ((l : Life) (p : Option Process) (a b c : Bool) → R l p a b c → T (f l) p a b c) → LeavesPaused R f → ((l : Life) → (f l).log ≡ l.log)
    → Leads Local n (On R) (renew n f) (On T)
on_renew {n} {R} {T} f k still log =
    leads_renew (λ s. f) (λ s pid v h. mapped_by R T f k v.life v.main v.stop v.removal v.restart h)
    (λ s v h q w. (w.0, icy_renewed R f still v.life v.main v.stop v.removal v.restart q h w.1)) (λ s v h roomy. room_renewed f log v.life v.main roomy)

pub here_renew : {n : ℕ} (R T : Life → Option Process → Bool → Bool → Bool → Type 0) (f : State → Life → Life)
    → ((s : State) → 1 ≤ s.next_pid → (l : Life) (p : Option Process) (a b c : Bool) → R l p a b c → T (f s l) p a b c) → ((s : State) → LeavesPaused R (f s)) → ((s : State) (l : Life) → (f s l).log ≡ l.log)
    → Leads Local n (Here R) (λ s. renew n (f s) s) (Here T)
here_renew {n} R T f k still log =
    leads_renew f (λ s pid v h. (f s h.0, ap (option_map (f s)) h.1, k s pid h.0 v.main v.stop v.removal v.restart h.2)) (λ s v h q w. (w.0, here_icy R (f s) (still s) v q h w.1))
    (λ s v h roomy. room_renewed (f s) (log s) v.life v.main roomy)

-- ---- a launch

-- nothing runs, and nothing is to come
abbrev pub Fallen : Life → Option Process → Bool → Bool → Bool → Type 0
Fallen l p a b c = (not (l.pid == 0) ≡ false) × (p ≡ None) × (a ≡ false) × (b ≡ false) × (c ≡ false) × Names l.words × (is_paused l.status ≡ false)

-- its process is to be spawned
abbrev Launching : Life → Option Process → Bool → Bool → Bool → Type 0
Launching l p a b c = (not (l.pid == 0) ≡ true) × (p ≡ None) × (a ≡ false) × (b ≡ false) × (c ≡ false) × Names l.words × (l.status ≡ Status.Running) × (1 ≤ l.starts)

pub pid_lives : (n : ℕ) → 1 ≤ n → not (n == 0) ≡ true
pid_lives n h = grind (arith, nat_tests, h)

pub goal_live : (g : Goal) → GoalStands g true
goal_live Goal.None = tt
goal_live Goal.Stop = refl
goal_live Goal.Restart = refl
goal_live Goal.Remove = refl

pub never : {A : Type 0} (b : Bool) → b ≡ false → b ≡ true → A
never b e f = let no_way : false ≡ true = sym e ∙ f in absurd (cc)

-- a container whose process lives has been started
pub live_started : (l : Life) (live : Bool) → live ≡ true → FitsStatus l.status live → HasStarted l → 1 ≤ l.starts
live_started l live e fits h = h (λ is. never live (subst (λ u. FitsStatus u live) is fits) e)

runs_now : (l : Life) (program : Program) (t : ℕ) (stdin : Bool) (room : ℕ) (a b c : Bool) → Launching l None a b c → Up l (Some (spawned program t stdin room)) a b c
runs_now l program t stdin room a b c h = (
  (
    record {
      status = subst (λ u. FitsStatus u true) (sym h.6) refl;
      frozen = subst (λ u. IsFrozenAs (is_paused u) (Some (spawned program t stdin room))) (sym h.6) refl;
      pid = h.0;
      stop = λ e. refl;
      removal = λ e. never b h.3 e;
      restart = h.4 ∙ sym (ap is_restarting h.6);
      program = λ e. h.5;
      again = λ e. h.5;
      started = λ other. h.7;
    },
    goal_live l.goal,
  ),
  ap is_paused h.6,
)

-- with that log
abbrev FallenAs : List LogRecord → Life → Option Process → Bool → Bool → Bool → Type 0
FallenAs log l p a b c = Fallen l p a b c × (l.log ≡ log)

abbrev LaunchingAs : List LogRecord → Life → Option Process → Bool → Bool → Bool → Type 0
LaunchingAs log l p a b c = Launching l p a b c × (l.log ≡ log)

launch_room : (program : Program) (stdin : Bool) (l : Life) (log : List LogRecord) (o : Option Life) (p : Option Process) → o ≡ Some l → l.log ≡ log → RoomBy o p
    → RoomBy o (Some (spawned program 0 stdin (4194304 - log_size log)))
launch_room program stdin l log None p e is h = absurd (cc)
launch_room program stdin l log (Some k) p e is h =
    let same : log_size k.log ≡ log_size log = ap size_in e ∙ ap log_size is in
    omega (arith, same, h)
  where
    size_in : Option Life → ℕ
    size_in None = 0
    size_in (Some x) = log_size x.log

program_by : (o : Option Program) (c : Container) → is_there o ≡ true → Leads Local c.number (Here (FallenAs c.life.log)) (launch_program o c) (Here Up)
program_by None c there = absurd (cc)
program_by (Some program) c there =
    let n : ℕ = c.number in
    let begin : Leads Local n (Here (FallenAs c.life.log)) (λ s. renew n (launched s) s) (Here (LaunchingAs c.life.log)) =
    here_renew (FallenAs c.life.log) (LaunchingAs c.life.log) launched (λ s pid l p a b c h. ((pid_lives s.next_pid pid, h.0.1, h.0.2, h.0.3, h.0.4, h.0.5, refl, omega arith), h.1)) (λ s l p a b c h. sym h.0.6) (λ s l. refl) in
    let spawns : Leads Local n (Here (LaunchingAs c.life.log)) (change (spawn (OfContainer n) program c.life.open_stdin (container_room c))) (Here Up) =
    leads_spawn program c.life.open_stdin (container_room c) (λ v h. h.2.0.1)
    (λ t v h. (h.0, h.1, runs_now h.0 program t c.life.open_stdin (container_room c) v.stop v.removal v.restart (subst (λ q. Launching h.0 q v.stop v.removal v.restart) h.2.0.1 h.2.0)))
    (λ v h roomy. launch_room program c.life.open_stdin h.0 c.life.log v.life v.main h.1 h.2.1 roomy) in
    leads_then begin (leads_then spawns (leads_then (leads_mounts n Mount) (leads_tell n (plain_event Start))))

pub leads_launch : (n : ℕ) → Leads Local n (On Fallen) (launch n) (On Up)
leads_launch n =
    let f = λ (c : Container). launch_program (program_of c.life.words (c.life.starts + 1)) c in
    leads_with f (λ v e h. on_none Fallen Up v e h)
    (λ c is. subst (λ m. Leads Local m (Stood c (On Fallen)) (f c) (On Up)) is (one c))
  where
    one : (c : Container) → Leads Local c.number (Stood c (On Fallen)) (launch_program (program_of c.life.words (c.life.starts + 1)) c) (On Up)
    one c = record {
      holds = λ s h.
          let fallen : Fallen c.life (parts_of c.number s).main (parts_of c.number s).stop (parts_of c.number s).removal (parts_of c.number s).restart =
          subst (λ (o : Option Life). OnBy Fallen o (parts_of c.number s).main (parts_of c.number s).stop (parts_of c.number s).removal (parts_of c.number s).restart) h.2.0 h.2.1 in
          let here : Here (FallenAs c.life.log) (parts_of c.number s) = (c.life, h.2.0, (fallen, refl)) in
          (leads_to (λ v up. on_here Up v up) (program_by (program_of c.life.words (c.life.starts + 1)) c (fallen.5 (c.life.starts + 1)))).holds s (h.0, h.1, here);
    }

pub leads_launch_by_call : (n : ℕ) → Leads Local n (On Fallen) (launch_by_call n) (On Up)
leads_launch_by_call n = leads_then (on_renew afresh (λ l p a b c h. h) (λ l p a b c h. refl) (λ l. refl)) (leads_launch n)

-- ---- a removal

-- neither a process nor a timer
abbrev pub Bare : Life → Option Process → Bool → Bool → Bool → Type 0
Bare l p a b c = (p ≡ None) × (a ≡ false) × (b ≡ false) × (c ≡ false)

absent_of : (R : Life → Option Process → Bool → Bool → Bool → Type 0) (v : Parts) → Here Bare v → On R (record v { life = None })
absent_of R v h = h.2

pub leads_destroy : {R : Life → Option Process → Bool → Bool → Bool → Type 0} (n : ℕ) → Leads Local n (On Bare) (destroy n) (On R)
leads_destroy {R} n =
    let gone : Leads Local n (On Bare) (with_container n (λ c. change (without c))) (On R) =
    leads_with (λ c. change (without c)) (λ v e h. on_none Bare R v e h)
    (λ c is. subst (λ m. Leads Local m (Stood c (On Bare)) (change (without c)) (On R)) is (leads_without c (λ v h. (here_of Bare c.life v h.0 h.1).2.0) (λ v h. absent_of R v (here_of Bare c.life v h.0 h.1)))) in
    leads_then (leads_tell n (plain_event Destroy)) gone

-- ---- the end of execs

pub leads_end_exec : {n : ℕ} {P : Parts → Type 0} (code number : ℕ) → Leads Local n P (end_exec code number) P
leads_end_exec {n} {P} code number = record { holds = λ s h. end_exec_steady Watch Local n P code number s h }
