-- What each call leaves of a wait's ticket.
use Rattle.std.proofs.Common.{◌≡◌, ℕ, ◌<◌, ◌==◌, Bool, true, false, List, [], Option, Some, None, find, refl, sym, subst, ℤ}
use Rattle.std.specs.Prelude.{unwrap_or}
use Rattle.std.specs.Option.{option_map_or}
use Rattle.std.specs.List.{AllByRecursion}
use Rattle.engine_text.specs.Scripts.{Program}
use Rattle.engine_text.specs.Soundness.{IsSound}
use Rattle.engine_text.specs.Texts.{same_bytes, without_slash}
use Rattle.engine_text.specs.declared.call.Call.{Call}
use Rattle.engine_text.specs.declared.call.CreateSpec.{CreateSpec}
use Rattle.engine_text.specs.declared.container.Container.{Container}
use Rattle.engine_text.specs.declared.container.Found.{Found}
use Rattle.engine_text.specs.declared.event.Action.TheVariants as action
use Rattle.engine_text.specs.declared.exec.Exec.{Exec}
use Rattle.engine_text.specs.declared.owner.Owner.{Owner}
use Rattle.engine_text.specs.declared.owner.Owner.TheVariants.{Container as OfContainer}
use Rattle.engine_text.specs.declared.pairs.Pair.{Pair}
use Rattle.engine_text.specs.declared.policy.Policy.{Policy}
use Rattle.engine_text.specs.declared.signal.Signal.{Signal}
use Rattle.engine_text.specs.declared.status.Status.{Status}
use Rattle.engine_text.specs.declared.ticket.Asked.{Asked}
use Rattle.engine_text.specs.declared.volume.Volume.{Volume}
use Rattle.container_table.specs.Reference.{container_by}
use Rattle.proc_kernel.specs.Catalogue.{program_of}
use Rattle.proc_kernel.specs.Processes.{feed}
use Rattle.machine_model.specs.State.{State, container_numbered, is_live}
use Rattle.machine_model.specs.Chain.{Effect, still}
use Rattle.machine_model.specs.Call.{outcome_of}
use Rattle.machine_model.specs.EventTexts.{plain_event, kill_event, exec_event}
use Rattle.machine_model.specs.Filters.{is_image}
use Rattle.machine_model.specs.Names.{holder, chosen_name}
use Rattle.machine_model.specs.Outcome.{Outcome, by_found, at_reference, refused, replies, done}
use Rattle.machine_model.specs.Refusals.{no_such_container, no_such_exec}
use Rattle.machine_model.specs.Streams.{RunState, Coming, Live, Over, run_state}
use Rattle.machine_model.specs.Tickets.{begins}
use Rattle.machine_model.specs.Effects.Launch.{launch_by_call}
use Rattle.machine_model.specs.Calls.Create as create
use Rattle.machine_model.specs.Calls.Create.{volume_named, new_container}
use Rattle.machine_model.specs.Calls.Start as start
use Rattle.machine_model.specs.Calls.Start.{if_program}
use Rattle.machine_model.specs.Calls.Stop as stop
use Rattle.machine_model.specs.Calls.Restart as restart
use Rattle.machine_model.specs.Calls.Kill as kill
use Rattle.machine_model.specs.Calls.Pause as pause
use Rattle.machine_model.specs.Calls.Unpause as unpause
use Rattle.api_json.specs.Status.{is_paused}
use Rattle.machine_model.specs.Calls.Rename as rename
use Rattle.machine_model.specs.Calls.Update as update
use Rattle.machine_model.specs.Calls.Remove as remove
use Rattle.machine_model.specs.Calls.ExecCreate as exec_create
use Rattle.machine_model.specs.Calls.ExecCreate.{if_running}
use Rattle.machine_model.specs.Calls.ExecStart as exec_start
use Rattle.machine_model.specs.Calls.Volumes as volumes
use Rattle.machine_model.specs.Calls.Feed as feeds
use Rattle.machine_model.specs.Calls.Take.{end_ticket}
use Rattle.machine_model.proofs.ChangeLemmas.{all_removed}
use Rattle.machine_model.proofs.ObeyLemmas.{both_true, low_signal, low_used, found_all}
use Rattle.machine_model.proofs.Fold.RowLemmas.{found_number}
use Rattle.machine_model.proofs.Fold.TellLemmas.{LifeInRange}
use Rattle.machine_model.proofs.Processes.CodeLemmas.{all_changed, coded_feed}
use Rattle.machine_model.proofs.Processes.ProgramCodeLemmas.{OfProgram, program_coded}
use Rattle.both_ends.proofs.EffectLemmas.{IsWait, Holds, AreLow, Keeps, keeps_then, keeps_still, keeps_change, keeps_tell, keeps_launch_by_call, keeps_destroy, keeps_cancel, keeps_thaw, keeps_halt, keeps_begun}
use Rattle.both_ends.proofs.CallEffectLemmas.{low_new, keeps_add, keeps_again, keeps_deliver, keeps_pause, keeps_rename, keeps_update, keeps_removal, keeps_spawn_exec, end_of}

-- ---- outcomes

module _ (n : ℕ) (s : State) (h : Holds n s) (lives : AllByRecursion LifeInRange s.containers) where
  abbrev pub Leaves : Outcome → Type 0
  Leaves o = Holds n o.effect.state × AreLow o.effect.died

  idle : Holds n s × AreLow []
  idle = (h, tt)

  does : {e : State → Effect} → Keeps n e → Holds n (e s).state × AreLow (e s).died
  does one = one.holds s h

  one_case : (m : ℕ) (target : List ℕ) (f : Container → State → Outcome) (o : Option Container) → container_numbered m s ≡ o
      → ((c : Container) → container_numbered c.number s ≡ Some c → Leaves (f c s)) → Leaves (option_map_or f o (refused 404 (no_such_container target)) s)
  one_case m target f None e one = idle
  one_case m target f (Some c) e one = one c (subst (λ k. container_numbered k s ≡ Some c) (sym (found_number m c s.containers e)) e)

  found_case : (found : Found) (target : List ℕ) (f : Container → State → Outcome)
      → ((c : Container) → container_numbered c.number s ≡ Some c → Leaves (f c s)) → Leaves (by_found found target f s)
  found_case (Found.One m) target f one = one_case m target f (container_numbered m s) refl one
  found_case Found.None target f one = idle
  found_case Found.Many target f one = idle

  at : (target : List ℕ) (f : Container → State → Outcome)
      → ((c : Container) → container_numbered c.number s ≡ Some c → Leaves (f c s)) → Leaves (at_reference target f s)
  at target f one = found_case (container_by s.containers target) target f one

  in_range : (c : Container) → container_numbered c.number s ≡ Some c → LifeInRange c
  in_range c found = found_all LifeInRange (λ d. d.number == c.number) c s.containers found lives

  ticketed : {e : State → Effect} (connection : ℕ) (c : Container) (asked : Asked) → Keeps n e → Leaves (begins connection c asked e s)
  ticketed connection c asked one = does (keeps_then (keeps_begun connection c asked) one)

  create_held : (o : Option Container) (name : List ℕ) (spec : CreateSpec) → Leaves (create.by_holder o name spec s)
  create_held (Some other) name spec = idle
  create_held None name spec = does (keeps_add (new_container name spec s) (low_new name spec s))

  create_by : (b : Bool) (spec : CreateSpec) → Leaves (create.by_image b spec s)
  create_by true spec = let name : List ℕ = chosen_name spec.name s.next_number s.containers in create_held (holder name s.containers) name spec
  create_by false spec = idle

  start_run : (o : Option Program) (c : Container) → Leaves (if_program o c.life.words (done (launch_by_call c.number)) s)
  start_run None c = idle
  start_run (Some program) c = does (keeps_launch_by_call c.number)

  start_by : (u : Status) (c : Container) → Leaves (start.by_status u c s)
  start_by Status.Created c = start_run (program_of c.life.words 1) c
  start_by Status.Exited c = start_run (program_of c.life.words 1) c
  start_by Status.Running c = idle
  start_by Status.Paused c = idle
  start_by Status.Restarting c = idle
  start_by Status.Removing c = idle
  start_by Status.Dead c = idle

  restart_run : (o : Option Program) (c : Container) → Leaves (if_program o c.life.words (done (restart.launch_again c.number)) s)
  restart_run None c = idle
  restart_run (Some program) c = does (keeps_again c.number)

  restart_by : (connection : ℕ) (seconds : Option ℤ) (given : Option Signal) (u : Status) (c : Container) → (unwrap_or given c.life.stop_signal).number < 128
      → Leaves (restart.by_status u connection seconds given c s)
  restart_by connection seconds given Status.Created c low = restart_run (program_of c.life.words 1) c
  restart_by connection seconds given Status.Exited c low = restart_run (program_of c.life.words 1) c
  restart_by connection seconds given Status.Running c low = ticketed connection c Asked.Restart (keeps_halt restart.to_restart seconds given c (λ l k. k) low)
  restart_by connection seconds given Status.Paused c low = ticketed connection c Asked.Restart (keeps_halt restart.to_restart seconds given c (λ l k. k) low)
  restart_by connection seconds given Status.Restarting c low = does (keeps_then (keeps_cancel c.number) (keeps_again c.number))
  restart_by connection seconds given Status.Removing c low = idle
  restart_by connection seconds given Status.Dead c low = idle

  stop_by : (connection : ℕ) (seconds : Option ℤ) (given : Option Signal) (u : Status) (c : Container) → (unwrap_or given c.life.stop_signal).number < 128
      → Leaves (stop.by_status u connection seconds given c s)
  stop_by connection seconds given Status.Running c low = ticketed connection c Asked.Stop (keeps_halt stop.stopping seconds given c (λ l k. k) low)
  stop_by connection seconds given Status.Paused c low = ticketed connection c Asked.Stop (keeps_halt stop.stopping seconds given c (λ l k. k) low)
  stop_by connection seconds given Status.Restarting c low = does (keeps_then (keeps_cancel c.number) (keeps_tell (plain_event action.Stop) c.number))
  stop_by connection seconds given Status.Created c low = idle
  stop_by connection seconds given Status.Removing c low = idle
  stop_by connection seconds given Status.Exited c low = idle
  stop_by connection seconds given Status.Dead c low = idle

  kills : (given : Signal) (c : Container) → given.number < 128 → Leaves (kill.kill_running given c s)
  kills given c low = does (keeps_then (keeps_tell (kill_event given.number) c.number) (keeps_deliver (kill.is_final given c) given.number c.number low))

  kill_restarting : (final : Bool) (given : Signal) (c : Container) → Leaves (kill.kill_restarting final given c s)
  kill_restarting true given c = does (keeps_then (keeps_tell (kill_event given.number) c.number) (keeps_cancel c.number))
  kill_restarting false given c = idle

  kill_by : (given : Signal) (u : Status) (c : Container) → given.number < 128 → Leaves (kill.by_status u given c s)
  kill_by given Status.Running c low = kills given c low
  kill_by given Status.Paused c low = kills given c low
  kill_by given Status.Restarting c low = kill_restarting (kill.is_final given c) given c
  kill_by given Status.Created c low = idle
  kill_by given Status.Removing c low = idle
  kill_by given Status.Exited c low = idle
  kill_by given Status.Dead c low = idle

  pause_by : (u : Status) (c : Container) → Leaves (pause.by_status u c s)
  pause_by Status.Running c = does (keeps_pause c.number)
  pause_by Status.Created c = idle
  pause_by Status.Paused c = idle
  pause_by Status.Restarting c = idle
  pause_by Status.Removing c = idle
  pause_by Status.Exited c = idle
  pause_by Status.Dead c = idle

  unpause_by : (b : Bool) (c : Container) → Leaves (unpause.if_paused b c s)
  unpause_by true c = does (keeps_thaw c.number)
  unpause_by false c = idle

  rename_held : (o : Option Container) (name : List ℕ) (c : Container) → Leaves (rename.by_holder o name c s)
  rename_held (Some other) name c = idle
  rename_held None name c = does (keeps_rename name c)

  rename_own : (b : Bool) (name : List ℕ) (c : Container) → Leaves (rename.by_own_name b name c s)
  rename_own true name c = idle
  rename_own false name c = rename_held (holder name s.containers) name c

  rename_by : (name : List ℕ) (u : Status) (c : Container) → Leaves (rename.by_status u name c s)
  rename_by name Status.Created c = rename_own (same_bytes name c.name) name c
  rename_by name Status.Running c = rename_own (same_bytes name c.name) name c
  rename_by name Status.Paused c = rename_own (same_bytes name c.name) name c
  rename_by name Status.Restarting c = rename_own (same_bytes name c.name) name c
  rename_by name Status.Exited c = rename_own (same_bytes name c.name) name c
  rename_by name Status.Removing c = idle
  rename_by name Status.Dead c = idle

  update_excluded : (b : Bool) (policy : Option Policy) (c : Container) → Leaves (update.by_excluded b policy c s)
  update_excluded true policy c = idle
  update_excluded false policy c = does (keeps_update policy c)

  update_by : (policy : Option Policy) (u : Status) (c : Container) → Leaves (update.by_status u policy c s)
  update_by policy Status.Created c = update_excluded (update.is_excluded c.life.auto_remove policy) policy c
  update_by policy Status.Running c = update_excluded (update.is_excluded c.life.auto_remove policy) policy c
  update_by policy Status.Paused c = update_excluded (update.is_excluded c.life.auto_remove policy) policy c
  update_by policy Status.Restarting c = update_excluded (update.is_excluded c.life.auto_remove policy) policy c
  update_by policy Status.Exited c = update_excluded (update.is_excluded c.life.auto_remove policy) policy c
  update_by policy Status.Removing c = idle
  update_by policy Status.Dead c = idle

  removes : (force : Bool) (connection : ℕ) (c : Container) → Leaves (remove.remove_running force connection c s)
  removes true connection c = ticketed connection c Asked.Remove (keeps_removal c.number)
  removes false connection c = idle

  remove_restarting : (force : Bool) (c : Container) → Leaves (remove.remove_restarting force c s)
  remove_restarting true c = does (keeps_then (keeps_cancel c.number) (keeps_destroy c.number))
  remove_restarting false c = idle

  remove_dead : (b : Bool) (c : Container) → Leaves (remove.remove_dead b c s)
  remove_dead true c = idle
  remove_dead false c = does (keeps_destroy c.number)

  remove_by : (connection : ℕ) (force : Bool) (u : Status) (c : Container) → Leaves (remove.by_status u force connection c s)
  remove_by connection force Status.Created c = does (keeps_destroy c.number)
  remove_by connection force Status.Exited c = does (keeps_destroy c.number)
  remove_by connection force Status.Running c = removes force connection c
  remove_by connection force Status.Paused c = removes force connection c
  remove_by connection force Status.Restarting c = remove_restarting force c
  remove_by connection force Status.Removing c = idle
  remove_by connection force Status.Dead c = remove_dead (is_live (OfContainer c.number) s) c

  running_by : (u : Status) (c : Container) (f : State → Outcome) → Leaves (f s) → Leaves (if_running u c f s)
  running_by Status.Running c f one = one
  running_by Status.Created c f one = idle
  running_by Status.Exited c f one = idle
  running_by Status.Paused c f one = idle
  running_by Status.Restarting c f one = idle
  running_by Status.Removing c f one = idle
  running_by Status.Dead c f one = idle

  exec_made : (x : Exec) (c : Container) → Leaves (exec_create.created x c s)
  exec_made x c = does (keeps_then (keeps_change (exec_create.with_exec x) (λ s k. k)) (keeps_tell (exec_event action.ExecCreate x.id) c.number))

  exec_run : (o : Option Program) (detach : Bool) (x : Exec) → OfProgram o
      → Leaves (if_program o x.words (replies (exec_start.start_reply detach x) (exec_start.spawn_exec o detach x)) s)
  exec_run None detach x codes = idle
  exec_run (Some program) detach x codes = does (keeps_spawn_exec (Some program) detach x codes)

  unless_started : (b : Bool) (id : List ℕ) (f : State → Outcome) → Leaves (f s) → Leaves (exec_start.unless_started b id f s)
  unless_started true id f one = idle
  unless_started false id f one = one

  exec_owned : (o : Option Container) (id : List ℕ) (f : Container → State → Outcome) → ((c : Container) → Leaves (f c s))
      → Leaves (option_map_or f o (refused 404 (no_such_exec id)) s)
  exec_owned None id f one = idle
  exec_owned (Some c) id f one = one c

  exec_found : (o : Option Exec) (id : List ℕ) (f : Exec → Container → State → Outcome) → ((x : Exec) (c : Container) → Leaves (f x c s))
      → Leaves (exec_start.with_exec o id f s)
  exec_found None id f one = idle
  exec_found (Some x) id f one = exec_owned (container_numbered x.container s) id (f x) (one x)

  volume_made : (o : Option Volume) (name : List ℕ) (labels : List Pair) → Leaves (volumes.by_standing o name labels s)
  volume_made None name labels = idle
  volume_made (Some v) name labels = idle

  volume_found : (o : Option Volume) (name : List ℕ) (f : Volume → State → Outcome) → ((v : Volume) → Leaves (f v s)) → Leaves (volumes.with_volume o name f s)
  volume_found None name f one = idle
  volume_found (Some v) name f one = one v

  unless_used : (b : Bool) (name : List ℕ) → Leaves (volumes.unless_in_use b name s)
  unless_used true name = idle
  unless_used false name = idle

  fed : (r : RunState) (owner : Owner) (bytes : List ℕ) → Leaves (feeds.feed_by r owner bytes s)
  fed Live owner bytes = ((all_changed owner (feed bytes s.clock) (coded_feed bytes s.clock) s.processes h.0, h.1, h.2, h.3), tt)
  fed Over owner bytes = idle
  fed Coming owner bytes = idle

  fed_end : (r : RunState) (owner : Owner) → Leaves (feeds.feed_end_by r owner s)
  fed_end Live owner = does (end_of owner)
  fed_end Over owner = idle
  fed_end Coming owner = idle

  ticket_gone : (ticket : ℕ) → Holds n (end_ticket ticket s)
  ticket_gone ticket = (h.0, h.1, h.2, all_removed (IsWait n) (λ t. t.number == ticket) s.tickets h.3)

  -- whatever the call is
  pub call_leaves : (c : Call) (connection : ℕ) → IsSound c → Leaves (outcome_of c connection s)
  call_leaves (Call.Create spec) connection sound = create_by (is_image spec.image) spec
  call_leaves (Call.Start target) connection sound = at target (λ c. start.by_status c.life.status c) (λ c found. start_by c.life.status c)
  call_leaves (Call.Stop target wait given) connection sound =
      at target (λ c. stop.by_status c.life.status connection wait given c)
      (λ c found. stop_by connection wait given c.life.status c (low_used given c (both_true _ _ sound).1 (in_range c found)))
  call_leaves (Call.Restart target wait given) connection sound =
      at target (λ c. restart.by_status c.life.status connection wait given c)
      (λ c found. restart_by connection wait given c.life.status c (low_used given c (both_true _ _ sound).1 (in_range c found)))
  call_leaves (Call.Kill target given) connection sound =
      at target (λ c. kill.by_status c.life.status given c) (λ c found. kill_by given c.life.status c (low_signal given (both_true _ _ sound).1))
  call_leaves (Call.Pause target) connection sound = at target (λ c. pause.by_status c.life.status c) (λ c found. pause_by c.life.status c)
  call_leaves (Call.Unpause target) connection sound = at target unpause.unpause_outcome (λ c found. unpause_by (is_paused c.life.status) c)
  call_leaves (Call.Rename target name) connection sound =
      at target (λ c. rename.by_status c.life.status (without_slash name) c) (λ c found. rename_by (without_slash name) c.life.status c)
  call_leaves (Call.Update target policy) connection sound =
      at target (λ c. update.by_status c.life.status policy c) (λ c found. update_by policy c.life.status c)
  call_leaves (Call.Remove target force) connection sound =
      at target (λ c. remove.by_status c.life.status force connection c) (λ c found. remove_by connection force c.life.status c)
  call_leaves (Call.Wait target until) connection sound =
      at target (λ c. begins connection c (Asked.Wait until) still) (λ c found. ticketed connection c (Asked.Wait until) keeps_still)
  call_leaves (Call.Inspect target) connection sound = at target _ (λ c found. idle)
  call_leaves (Call.List all limit filter) connection sound = idle
  call_leaves (Call.Logs target ask) connection sound = at target _ (λ c found. idle)
  call_leaves (Call.Attach target ask) connection sound = at target _ (λ c found. does (keeps_tell (plain_event action.Attach) c.number))
  call_leaves (Call.ExecCreate target words stdin out err) connection sound =
      at target (λ c. if_running c.life.status c (λ s. exec_create.created (exec_create.new_exec c words stdin out err s) c s))
      (λ c found. running_by c.life.status c (λ s. exec_create.created (exec_create.new_exec c words stdin out err s) c s) (exec_made (exec_create.new_exec c words stdin out err s) c))
  call_leaves (Call.ExecStart id detach) connection sound =
      exec_found (find (λ (x : Exec). same_bytes x.id id) s.execs) id (λ x c. exec_start.unless_started x.started id (if_running c.life.status c (exec_start.run detach x)))
      (λ x c. unless_started x.started id (if_running c.life.status c (exec_start.run detach x))
      (running_by c.life.status c (exec_start.run detach x) (exec_run (program_of x.words 1) detach x (program_coded x.words 1))))
  call_leaves (Call.ExecInspect id) connection sound = exec_found (find (λ (x : Exec). same_bytes x.id id) s.execs) id _ (λ x c. idle)
  call_leaves (Call.VolumeCreate name labels) connection sound = volume_made (volume_named name s) name labels
  call_leaves (Call.VolumeInspect name) connection sound = volume_found (volume_named name s) name _ (λ v. idle)
  call_leaves (Call.VolumeRemove name) connection sound =
      volume_found (volume_named name s) name (λ v s. volumes.unless_in_use (volumes.is_in_use name s) name s) (λ v. unless_used (volumes.is_in_use name s) name)
  call_leaves (Call.VolumeList filter) connection sound = idle
  call_leaves (Call.Events since until filter) connection sound = idle
  call_leaves Call.JournalRead connection sound = idle
  call_leaves (Call.Feed owner run bytes) connection sound = fed (run_state owner run s) owner bytes
  call_leaves (Call.FeedEnd owner run) connection sound = fed_end (run_state owner run s) owner
  call_leaves (Call.Take ticket) connection sound = (ticket_gone ticket, tt)
  call_leaves (Call.Drop ticket) connection sound = (ticket_gone ticket, tt)
