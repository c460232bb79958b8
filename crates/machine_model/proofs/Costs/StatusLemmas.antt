-- What the calls cost that go by the state of a container.
use Rattle.std.proofs.Common.{ℕ, ◌+◌, Bool, true, false, List, Option, Some, None, ℤ, refl, arith}
use Rattle.container_table.specs.Timers.{with_timer}
use Rattle.engine_text.specs.Scripts.{Program}
use Rattle.engine_text.specs.Texts.{same_bytes}
use Rattle.proc_kernel.specs.Catalogue.{program_of}
use Rattle.proc_kernel.specs.Processes.{freeze}
use Rattle.machine_model.specs.State.{State, is_live, running_execs, change_container}
use Rattle.machine_model.specs.Chain.{Effect, and_then, each, tell_of}
use Rattle.machine_model.specs.EventTexts.{plain_event, kill_event, rename_event}
use Rattle.machine_model.specs.Outcome.{done}
use Rattle.machine_model.specs.Names.{holder}
use Rattle.machine_model.specs.Effects.Launch.{launch_by_call}
use Rattle.machine_model.specs.Effects.Destroy.{destroy}
use Rattle.machine_model.specs.Effects.Cancel.{cancel_restart}
use Rattle.machine_model.specs.Effects.Halt.{halt}
use Rattle.machine_model.specs.Calls.Start as start
use Rattle.machine_model.specs.Calls.Start.{if_program}
use Rattle.machine_model.specs.Calls.Stop as stop
use Rattle.machine_model.specs.Calls.Restart as restart
use Rattle.machine_model.specs.Calls.Kill as kill
use Rattle.machine_model.specs.Calls.Pause as pause
use Rattle.machine_model.specs.Calls.Unpause as unpause
use Rattle.machine_model.specs.Calls.Rename as rename
use Rattle.machine_model.specs.Calls.Remove as remove
use Rattle.machine_model.specs.Calls.Update as update
use Rattle.machine_model.proofs.Processes.LimitLemmas.{freeze_fits}
use Rattle.machine_model.proofs.Costs.CostLemmas.{Cost, none, tells, IsPriced, IsQuiet, Costs, costs_still, costs_then, costs_most, costs_at, costs_tell, costs_renew, costs_timers, costs_each}
use Rattle.machine_model.proofs.Costs.EffectLemmas.{set_from, launch_cost, costs_launch_by_call, costs_destroy, costs_thaw, costs_send, costs_meet, costs_halt, costs_cancel, meet_cost}
use Rattle.machine_model.proofs.Costs.AnswerLemmas.{full, idle, top, ticket}
use Rattle.engine_text.specs.declared.container.Container.{Container}
use Rattle.engine_text.specs.declared.exec.Exec.{Exec}
use Rattle.engine_text.specs.declared.owner.Owner.{Owner}
use Rattle.engine_text.specs.declared.owner.Owner.TheVariants.{Container as OfContainer, Exec as OfExec}
use Rattle.engine_text.specs.declared.policy.Policy.{Policy}
use Rattle.engine_text.specs.declared.signal.Signal.{Signal}
use Rattle.engine_text.specs.declared.status.Status.{Status}
use Rattle.engine_text.specs.declared.ticket.Asked.{Asked}
use Rattle.engine_text.specs.declared.event.Action.TheVariants as Action
use Rattle.machine_model.specs.State.{container_numbered}
use Rattle.machine_model.specs.Chain.{still}
use Rattle.machine_model.proofs.Costs.CostLemmas.{tells, most_of}
use Rattle.std.proofs.Common.{◌≡◌, Some, None}

-- ---- start, stop, restart

start_ran : {P : Type 0} {E : ℕ → Type 0} (R : Cost → State → Effect → Type 0) → IsPriced P E R → (o : Option Program) (c : Container) (s : State) → R full s (if_program o c.life.words (done (launch_by_call c.number)) s).effect
start_ran R k None c s = idle R k s
start_ran R k (Some program) c s = top R launch_cost k (launch_by_call c.number) s (costs_launch_by_call k c.number) refl

pub start_by : {P : Type 0} {E : ℕ → Type 0} (R : Cost → State → Effect → Type 0) → IsPriced P E R → (u : Status) (c : Container) (s : State) → R full s (start.by_status u c s).effect
start_by R k Status.Created c s = start_ran R k (program_of c.life.words 1) c s
start_by R k Status.Exited c s = start_ran R k (program_of c.life.words 1) c s
start_by R k Status.Running c s = idle R k s
start_by R k Status.Paused c s = idle R k s
start_by R k Status.Restarting c s = idle R k s
start_by R k Status.Removing c s = idle R k s
start_by R k Status.Dead c s = idle R k s

pub stop_by : {P : Type 0} {E : ℕ → Type 0} (R : Cost → State → Effect → Type 0) → IsPriced P E R → (connection : ℕ) (seconds : Option ℤ) (signal : Option Signal) (u : Status) (c : Container) (s : State) → container_numbered c.number s ≡ Some c → R full s (stop.by_status u connection seconds signal c s).effect
stop_by R k connection seconds signal Status.Running c s found =
    ticket R _ k connection c Asked.Stop (halt stop.stopping seconds signal c) s found
    (costs_halt k stop.stopping seconds signal c (λ t. record { mounts = λ l. refl; log = λ l. refl; starts = λ l. refl; restarts = λ l. omega arith; moments = λ l h. h })) refl
stop_by R k connection seconds signal Status.Paused c s found =
    ticket R _ k connection c Asked.Stop (halt stop.stopping seconds signal c) s found
    (costs_halt k stop.stopping seconds signal c (λ t. record { mounts = λ l. refl; log = λ l. refl; starts = λ l. refl; restarts = λ l. omega arith; moments = λ l h. h })) refl
stop_by R k connection seconds signal Status.Restarting c s found =
    top R _ k (and_then (cancel_restart c.number) (tell_of (plain_event Action.Stop) c.number)) s (costs_then k (costs_cancel k c.number) (costs_tell k (plain_event Action.Stop) c.number (λ c t. refl))) refl
stop_by R k connection seconds signal Status.Created c s found = idle R k s
stop_by R k connection seconds signal Status.Removing c s found = idle R k s
stop_by R k connection seconds signal Status.Exited c s found = idle R k s
stop_by R k connection seconds signal Status.Dead c s found = idle R k s

again_cost : {P : Type 0} {E : ℕ → Type 0} {R : Cost → State → Effect → Type 0} → IsPriced P E R → (n : ℕ) → Costs R (record { told = 18; spawns = 1; makes = 0; asks = 0; retries = 0 }) (restart.launch_again n)
again_cost k n = costs_then k (costs_launch_by_call k n) (costs_tell k (plain_event Action.Restart) n (λ c t. refl))

restart_ran : {P : Type 0} {E : ℕ → Type 0} (R : Cost → State → Effect → Type 0) → IsPriced P E R → (o : Option Program) (c : Container) (s : State) → R full s (if_program o c.life.words (done (restart.launch_again c.number)) s).effect
restart_ran R k None c s = idle R k s
restart_ran R k (Some program) c s = top R _ k (restart.launch_again c.number) s (again_cost k c.number) refl

pub restart_by : {P : Type 0} {E : ℕ → Type 0} (R : Cost → State → Effect → Type 0) → IsPriced P E R → (connection : ℕ) (seconds : Option ℤ) (signal : Option Signal) (u : Status) (c : Container) (s : State) → container_numbered c.number s ≡ Some c → R full s (restart.by_status u connection seconds signal c s).effect
restart_by R k connection seconds signal Status.Created c s found = restart_ran R k (program_of c.life.words 1) c s
restart_by R k connection seconds signal Status.Exited c s found = restart_ran R k (program_of c.life.words 1) c s
restart_by R k connection seconds signal Status.Running c s found =
    ticket R _ k connection c Asked.Restart (halt restart.to_restart seconds signal c) s found
    (costs_halt k restart.to_restart seconds signal c (λ t. record { mounts = λ l. refl; log = λ l. refl; starts = λ l. refl; restarts = λ l. omega arith; moments = λ l h. h })) refl
restart_by R k connection seconds signal Status.Paused c s found =
    ticket R _ k connection c Asked.Restart (halt restart.to_restart seconds signal c) s found
    (costs_halt k restart.to_restart seconds signal c (λ t. record { mounts = λ l. refl; log = λ l. refl; starts = λ l. refl; restarts = λ l. omega arith; moments = λ l h. h })) refl
restart_by R k connection seconds signal Status.Restarting c s found =
    top R _ k (and_then (cancel_restart c.number) (restart.launch_again c.number)) s (costs_then k (costs_cancel k c.number) (again_cost k c.number)) refl
restart_by R k connection seconds signal Status.Removing c s found = idle R k s
restart_by R k connection seconds signal Status.Dead c s found = idle R k s

-- ---- kill, pause, unpause, rename

delivers : {P : Type 0} {E : ℕ → Type 0} {R : Cost → State → Effect → Type 0} → IsPriced P E R → (final : Bool) (number n : ℕ) → Costs R meet_cost (kill.deliver final number n)
delivers k true number n =
    costs_then k (costs_renew k n kill.by_hand (λ t. record { mounts = λ l. refl; log = λ l. refl; starts = λ l. refl; restarts = λ l. omega arith; moments = λ l h. h })) (costs_meet k number n)
delivers k false number n = costs_most k (costs_send k false number n) refl

kill_runs : {P : Type 0} {E : ℕ → Type 0} (R : Cost → State → Effect → Type 0) → IsPriced P E R → (signal : Signal) (c : Container) (s : State) → R full s (kill.kill_running signal c s).effect
kill_runs R k signal c s =
    top R _ k (and_then (tell_of (kill_event signal.number) c.number) (kill.deliver (kill.is_final signal c) signal.number c.number)) s
    (costs_then k (costs_tell k (kill_event signal.number) c.number (λ c t. refl)) (delivers k (kill.is_final signal c) signal.number c.number)) refl

kill_rests : {P : Type 0} {E : ℕ → Type 0} (R : Cost → State → Effect → Type 0) → IsPriced P E R → (final : Bool) (signal : Signal) (c : Container) (s : State) → R full s (kill.kill_restarting final signal c s).effect
kill_rests R k true signal c s =
    top R _ k (and_then (tell_of (kill_event signal.number) c.number) (cancel_restart c.number)) s (costs_then k (costs_tell k (kill_event signal.number) c.number (λ c t. refl)) (costs_cancel k c.number)) refl
kill_rests R k false signal c s = idle R k s

pub kill_by : {P : Type 0} {E : ℕ → Type 0} (R : Cost → State → Effect → Type 0) → IsPriced P E R → (u : Status) (signal : Signal) (c : Container) (s : State) → R full s (kill.by_status u signal c s).effect
kill_by R k Status.Running signal c s = kill_runs R k signal c s
kill_by R k Status.Paused signal c s = kill_runs R k signal c s
kill_by R k Status.Restarting signal c s = kill_rests R k (kill.is_final signal c) signal c s
kill_by R k Status.Created signal c s = idle R k s
kill_by R k Status.Removing signal c s = idle R k s
kill_by R k Status.Exited signal c s = idle R k s
kill_by R k Status.Dead signal c s = idle R k s

freezes : {P : Type 0} {E : ℕ → Type 0} {R : Cost → State → Effect → Type 0} → IsPriced P E R → (owner : Owner) → Costs R none (pause.freeze_process owner)
freezes k owner = record { holds = λ s. k.on_move s owner (freeze s.clock) (λ p. freeze_fits s.clock p) }

pauses : {P : Type 0} {E : ℕ → Type 0} {R : Cost → State → Effect → Type 0} → IsPriced P E R → (n : ℕ) → Costs R (tells 1) (pause.pause n)
pauses {R} k n =
    let execs : Costs R none (pause.freeze_execs n) =
    costs_at (λ s. each (λ (x : Exec). pause.freeze_process (OfExec x.number)) (running_execs n s)) (λ s. (costs_each k (λ (x : Exec). freezes k (OfExec x.number)) (running_execs n s)).holds s) in
    costs_then k (freezes k (OfContainer n))
    (costs_then k execs
    (costs_then k (costs_renew k n pause.paused (λ t. record { mounts = λ l. refl; log = λ l. refl; starts = λ l. refl; restarts = λ l. omega arith; moments = λ l h. h })) (costs_tell k (plain_event Action.Pause) n (λ c t. refl))))

pub pause_by : {P : Type 0} {E : ℕ → Type 0} (R : Cost → State → Effect → Type 0) → IsPriced P E R → (u : Status) (c : Container) (s : State) → R full s (pause.by_status u c s).effect
pause_by R k Status.Running c s = top R _ k (pause.pause c.number) s (pauses k c.number) refl
pause_by R k Status.Created c s = idle R k s
pause_by R k Status.Paused c s = idle R k s
pause_by R k Status.Restarting c s = idle R k s
pause_by R k Status.Removing c s = idle R k s
pause_by R k Status.Exited c s = idle R k s
pause_by R k Status.Dead c s = idle R k s

pub unpause_by : {P : Type 0} {E : ℕ → Type 0} (R : Cost → State → Effect → Type 0) → IsPriced P E R → (b : Bool) (c : Container) (s : State) → R full s (unpause.if_paused b c s).effect
unpause_by R k true c s = top R _ k _ s (costs_thaw k c.number) refl
unpause_by R k false c s = idle R k s

rename_holder : {P : Type 0} {E : ℕ → Type 0} (R : Cost → State → Effect → Type 0) → IsPriced P E R → (o : Option Container) (name : List ℕ) (c : Container) (s : State) → container_numbered c.number s ≡ Some c → holder name s.containers ≡ o → R full s (rename.by_holder o name c s).effect
rename_holder R k (Some other) name c s found e = idle R k s
rename_holder R k None name c s found e =
    let t : State = change_container c.number (rename.named name) s in
    k.on_more (tells 1) full s _ (λ p. most_of (tells 1) full refl)
    (k.on_after none (tells 1) s (still t) (tell_of (rename_event c.name) c.number t) (k.on_renamed s c name found e) ((costs_tell k (rename_event c.name) c.number (λ c t. refl)).holds t))

rename_own : {P : Type 0} {E : ℕ → Type 0} (R : Cost → State → Effect → Type 0) → IsPriced P E R → (b : Bool) (name : List ℕ) (c : Container) (s : State) → container_numbered c.number s ≡ Some c → R full s (rename.by_own_name b name c s).effect
rename_own R k true name c s found = idle R k s
rename_own R k false name c s found = rename_holder R k (holder name s.containers) name c s found refl

pub rename_by : {P : Type 0} {E : ℕ → Type 0} (R : Cost → State → Effect → Type 0) → IsPriced P E R → (u : Status) (name : List ℕ) (c : Container) (s : State) → container_numbered c.number s ≡ Some c → R full s (rename.by_status u name c s).effect
rename_by R k Status.Created name c s found = rename_own R k (same_bytes name c.name) name c s found
rename_by R k Status.Running name c s found = rename_own R k (same_bytes name c.name) name c s found
rename_by R k Status.Paused name c s found = rename_own R k (same_bytes name c.name) name c s found
rename_by R k Status.Restarting name c s found = rename_own R k (same_bytes name c.name) name c s found
rename_by R k Status.Removing name c s found = idle R k s
rename_by R k Status.Exited name c s found = rename_own R k (same_bytes name c.name) name c s found
rename_by R k Status.Dead name c s found = idle R k s

-- ---- update

quiet : (policy : Option Policy) (t : ℕ) → IsQuiet t (update.governed policy)
quiet policy t = record { mounts = λ l. refl; log = λ l. refl; starts = λ l. refl; restarts = λ l. omega arith; moments = λ l h. h }

updates : {P : Type 0} {E : ℕ → Type 0} {R : Cost → State → Effect → Type 0} → IsPriced P E R → (policy : Option Policy) (c : Container) → Costs R (tells 1) (update.update policy c)
updates k policy c = costs_then k (costs_renew k c.number (update.governed policy) (quiet policy)) (costs_tell k (plain_event Action.Update) c.number (λ c t. refl))

update_own : {P : Type 0} {E : ℕ → Type 0} (R : Cost → State → Effect → Type 0) → IsPriced P E R → (b : Bool) (policy : Option Policy) (c : Container) (s : State) → R full s (update.by_excluded b policy c s).effect
update_own R k true policy c s = idle R k s
update_own R k false policy c s = top R _ k (update.update policy c) s (updates k policy c) refl

update_stands : {P : Type 0} {E : ℕ → Type 0} (R : Cost → State → Effect → Type 0) → IsPriced P E R → (policy : Option Policy) (c : Container) (s : State) → R full s (update.update_standing policy c s).effect
update_stands R k policy c s = update_own R k (update.is_excluded c.life.auto_remove policy) policy c s

pub update_by : {P : Type 0} {E : ℕ → Type 0} (R : Cost → State → Effect → Type 0) → IsPriced P E R → (u : Status) (policy : Option Policy) (c : Container) (s : State) → R full s (update.by_status u policy c s).effect
update_by R k Status.Created policy c s = update_stands R k policy c s
update_by R k Status.Running policy c s = update_stands R k policy c s
update_by R k Status.Paused policy c s = update_stands R k policy c s
update_by R k Status.Restarting policy c s = update_stands R k policy c s
update_by R k Status.Removing policy c s = idle R k s
update_by R k Status.Exited policy c s = update_stands R k policy c s
update_by R k Status.Dead policy c s = idle R k s

-- ---- remove

lives_cost : {P : Type 0} {E : ℕ → Type 0} {R : Cost → State → Effect → Type 0} → IsPriced P E R → (b : Bool) (n : ℕ) → Costs R none (remove.if_it_lives b n)
lives_cost k false n = costs_still k
lives_cost k true n =
    costs_then k (costs_renew k n remove.removing (λ t. record { mounts = λ l. refl; log = λ l. refl; starts = λ l. refl; restarts = λ l. omega arith; moments = λ l h. h }))
    (costs_timers k (λ s. with_timer (s.clock + 10000) 2 n s.timers) (λ s h. set_from (s.clock + 10000) 2 n s.clock s.timers (omega arith) h))

pub removal_cost : {P : Type 0} {E : ℕ → Type 0} {R : Cost → State → Effect → Type 0} → IsPriced P E R → (n : ℕ) → Costs R (record { told = 38; spawns = 1; makes = 0; asks = 0; retries = 0 }) (remove.kill_to_remove n)
removal_cost {R} k n =
    let lives : Costs R none (λ s. remove.if_it_lives (is_live (OfContainer n) s) n s) = costs_at (λ s. remove.if_it_lives (is_live (OfContainer n) s) n) (λ s. (lives_cost k (is_live (OfContainer n) s) n).holds s) in
    costs_then k (costs_tell k (kill_event 9) n (λ c t. refl))
    (costs_then k (costs_renew k n remove.to_remove (λ t. record { mounts = λ l. refl; log = λ l. refl; starts = λ l. refl; restarts = λ l. omega arith; moments = λ l h. h })) (costs_then k (costs_meet k 9 n) lives))

remove_runs : {P : Type 0} {E : ℕ → Type 0} (R : Cost → State → Effect → Type 0) → IsPriced P E R → (force : Bool) (connection : ℕ) (c : Container) (s : State) → container_numbered c.number s ≡ Some c → R full s (remove.remove_running force connection c s).effect
remove_runs R k true connection c s found = ticket R _ k connection c Asked.Remove (remove.kill_to_remove c.number) s found (removal_cost k c.number) refl
remove_runs R k false connection c s found = idle R k s

remove_rests : {P : Type 0} {E : ℕ → Type 0} (R : Cost → State → Effect → Type 0) → IsPriced P E R → (force : Bool) (c : Container) (s : State) → R full s (remove.remove_restarting force c s).effect
remove_rests R k true c s = top R _ k (and_then (cancel_restart c.number) (destroy c.number)) s (costs_then k (costs_cancel k c.number) (costs_destroy k c.number)) refl
remove_rests R k false c s = idle R k s

remove_dead : {P : Type 0} {E : ℕ → Type 0} (R : Cost → State → Effect → Type 0) → IsPriced P E R → (b : Bool) (c : Container) (s : State) → R full s (remove.remove_dead b c s).effect
remove_dead R k true c s = idle R k s
remove_dead R k false c s = top R _ k (destroy c.number) s (costs_destroy k c.number) refl

pub remove_by : {P : Type 0} {E : ℕ → Type 0} (R : Cost → State → Effect → Type 0) → IsPriced P E R → (u : Status) (force : Bool) (connection : ℕ) (c : Container) (s : State) → container_numbered c.number s ≡ Some c → R full s (remove.by_status u force connection c s).effect
remove_by R k Status.Created force connection c s found = top R _ k (destroy c.number) s (costs_destroy k c.number) refl
remove_by R k Status.Exited force connection c s found = top R _ k (destroy c.number) s (costs_destroy k c.number) refl
remove_by R k Status.Running force connection c s found = remove_runs R k force connection c s found
remove_by R k Status.Paused force connection c s found = remove_runs R k force connection c s found
remove_by R k Status.Restarting force connection c s found = remove_rests R k force c s
remove_by R k Status.Removing force connection c s found = idle R k s
remove_by R k Status.Dead force connection c s found = remove_dead R k (is_live (OfContainer c.number) s) c s
