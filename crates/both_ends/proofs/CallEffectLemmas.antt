-- What a call's own effects leave of a wait's ticket.
use Rattle.std.proofs.Common.{ℕ, ◌+◌, ◌<◌, ◌==◌, ◌&&◌, Bool, true, false, not, List, [], ◌∷◌, Option, Some, None, arith}
use Rattle.engine_text.specs.Scripts.{Program}
use Rattle.engine_text.specs.declared.call.CreateSpec.{CreateSpec}
use Rattle.engine_text.specs.declared.container.Container.{Container}
use Rattle.engine_text.specs.declared.event.Action.TheVariants as action
use Rattle.engine_text.specs.declared.exec.Exec.{Exec}
use Rattle.engine_text.specs.declared.mounts.Mount.{Mount}
use Rattle.engine_text.specs.declared.owner.Owner.{Owner}
use Rattle.engine_text.specs.declared.owner.Owner.TheVariants.{Container as OfContainer, Exec as OfExec}
use Rattle.engine_text.specs.declared.policy.Policy.{Policy}
use Rattle.engine_text.specs.declared.volume.Volume.{Volume}
use Rattle.proc_kernel.specs.Processes.{freeze, feed_end}
use Rattle.machine_model.specs.State.{State, container_numbered, running_execs, is_live, change_container, change_exec, set_timer}
use Rattle.machine_model.specs.Chain.{change, each, tell}
use Rattle.machine_model.specs.EventTexts.{plain_event, kill_event, exec_event, rename_event}
use Rattle.machine_model.specs.Calls.Create.{volume_named, unless_it_stands, make_missing, add, with_new, new_container}
use Rattle.machine_model.specs.Calls.Restart as restart
use Rattle.machine_model.specs.Calls.Kill as kill
use Rattle.machine_model.specs.Calls.Pause as pause
use Rattle.machine_model.specs.Calls.Rename as rename
use Rattle.machine_model.specs.Calls.Update as update
use Rattle.machine_model.specs.Calls.Remove as remove
use Rattle.machine_model.specs.Calls.ExecStart as exec_start
use Rattle.machine_model.specs.Calls.Feed as feeds
use Rattle.machine_model.proofs.ListLemmas.{all_append}
use Rattle.machine_model.proofs.ChangeLemmas.{all_updated}
use Rattle.machine_model.proofs.Processes.CodeLemmas.{all_changed, coded_freeze, coded_feed_end}
use Rattle.machine_model.proofs.Processes.ProgramCodeLemmas.{OfProgram}
use Rattle.both_ends.proofs.EffectLemmas.{IsLow, Keeps, keeps_then, keeps_still, keeps_change, keeps_at, keeps_each, keeps_tell, keeps_renew, keeps_spawns, keeps_launch_by_call, keeps_send, keeps_meet}
use Rattle.container_table.specs.declared.rank.Rank.{Rank}

pub low_new : (name : List ℕ) (spec : CreateSpec) (s : State) → IsLow (new_container name spec s)
low_new name spec s = omega arith

-- ---- effects of calls

module _ {n : ℕ} where
  missing_by : (o : Option Volume) (name : List ℕ) → Keeps n (unless_it_stands o name)
  missing_by None name = record { holds = λ s h. (h, tt) }
  missing_by (Some v) name = keeps_still

  keeps_missing : (m : Mount) → Keeps n (make_missing m)
  keeps_missing m = keeps_at (λ s. unless_it_stands (volume_named m.volume s) m.volume) (λ s. missing_by (volume_named m.volume s) m.volume)

  keeps_new : (c : Container) → IsLow c → Keeps n (change (with_new c))
  keeps_new c low = keeps_change (with_new c) (λ s h. (h.0, all_append IsLow s.containers (c ∷ []) h.1 (low, tt), h.2, h.3))

  pub keeps_add : (c : Container) → IsLow c → Keeps n (add c)
  keeps_add c low =
      keeps_then (keeps_each keeps_missing c.life.mounts)
      (keeps_then {f = λ s. tell (plain_event action.Create c s.clock ∷ []) s} (keeps_new c low) (record { holds = λ s h. (h, tt) }))

  pub keeps_again : (m : ℕ) → Keeps n (restart.launch_again m)
  keeps_again m = keeps_then (keeps_launch_by_call m) (keeps_tell (plain_event action.Restart) m)

  pub keeps_deliver : (final : Bool) (number m : ℕ) → number < 128 → Keeps n (kill.deliver final number m)
  keeps_deliver true number m low = keeps_then (keeps_renew m kill.by_hand (λ l k. k)) (keeps_meet number m low)
  keeps_deliver false number m low = keeps_send false number m low

  keeps_freeze : (owner : Owner) → Keeps n (pause.freeze_process owner)
  keeps_freeze owner = record { holds = λ s h. ((all_changed owner (freeze s.clock) (coded_freeze s.clock) s.processes h.0, h.1, h.2, h.3), tt) }

  keeps_freeze_execs : (m : ℕ) → Keeps n (pause.freeze_execs m)
  keeps_freeze_execs m =
      keeps_at (λ s. each (λ (x : Exec). pause.freeze_process (OfExec x.number)) (running_execs m s))
      (λ s. keeps_each (λ (x : Exec). keeps_freeze (OfExec x.number)) (running_execs m s))

  pub keeps_pause : (m : ℕ) → Keeps n (pause.pause m)
  keeps_pause m =
      keeps_then (keeps_freeze (OfContainer m))
      (keeps_then (keeps_freeze_execs m) (keeps_then (keeps_renew m pause.paused (λ l k. k)) (keeps_tell (plain_event action.Pause) m)))

  pub keeps_rename : (name : List ℕ) (c : Container) → Keeps n (rename.rename name c)
  keeps_rename name c =
      keeps_then
      (keeps_change (change_container c.number (rename.named name))
      (λ s h. (h.0, all_updated IsLow (λ d. d.number == c.number) (rename.named name) (λ d k. k) s.containers h.1, h.2, h.3)))
      (keeps_tell (rename_event c.name) c.number)

  pub keeps_update : (policy : Option Policy) (c : Container) → Keeps n (update.update policy c)
  keeps_update policy c =
      keeps_then (keeps_renew c.number (update.governed policy) (λ l k. k)) (keeps_tell (plain_event action.Update) c.number)

  lives_by : (b : Bool) (m : ℕ) → Keeps n (remove.if_it_lives b m)
  lives_by false m = keeps_still
  lives_by true m = keeps_then (keeps_renew m remove.removing (λ l k. k)) (keeps_change (λ s. set_timer Rank.RemovalDeadline m (s.clock + 10000) s) (λ s h. h))

  pub keeps_removal : (m : ℕ) → Keeps n (remove.kill_to_remove m)
  keeps_removal m =
      keeps_then (keeps_tell (kill_event 9) m)
      (keeps_then (keeps_renew m remove.to_remove (λ l k. k))
      (keeps_then (keeps_meet 9 m (omega arith)) (keeps_at (λ s. remove.if_it_lives (is_live (OfContainer m) s) m) (λ s. lives_by (is_live (OfContainer m) s) m))))

  pub keeps_spawn_exec : (o : Option Program) (detach : Bool) (x : Exec) → OfProgram o → Keeps n (exec_start.spawn_exec o detach x)
  keeps_spawn_exec o detach x codes =
      keeps_then (keeps_change (λ s. change_exec x.number (exec_start.started s) s) (λ s h. h))
      (keeps_then (keeps_spawns (OfExec x.number) o (x.stdin && not detach) exec_start.exec_room codes) (keeps_tell (exec_event action.ExecStart x.id) x.container))

  end_by : (b : Bool) (owner : Owner) → Keeps n (feeds.ends_if b owner)
  end_by true owner = record { holds = λ s h. ((all_changed owner (feed_end s.clock) (coded_feed_end s.clock) s.processes h.0, h.1, h.2, h.3), tt) }
  end_by false owner = keeps_still

  end_with : (o : Option Container) (owner : Owner) → Keeps n (feeds.ends_with o owner)
  end_with None owner = keeps_still
  end_with (Some c) owner = end_by c.life.stdin_once owner

  pub end_of : (owner : Owner) → Keeps n (feeds.end_by_owner owner)
  end_of (OfExec m) = end_by true (OfExec m)
  end_of (OfContainer m) = keeps_at (λ s. feeds.ends_with (container_numbered m s) (OfContainer m)) (λ s. end_with (container_numbered m s) (OfContainer m))
