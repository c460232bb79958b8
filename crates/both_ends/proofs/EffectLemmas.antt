-- What each effect leaves of a wait's ticket: its reply, once it is there, tells a code of one byte.
use Rattle.std.proofs.Common.{◌≡◌, ℕ, ◌+◌, ◌<◌, ◌==◌, Bool, true, false, List, [], ◌∷◌, Option, Some, None, find, refl, subst, arith, if◌then◌else◌, ℤ, pos, negsuc}
use Rattle.std.specs.Prelude.{unwrap_or}
use Rattle.std.specs.List.{AllByRecursion}
use Rattle.engine_text.specs.Scripts.{Program}
use Rattle.engine_text.specs.declared.container.Container.{Container}
use Rattle.engine_text.specs.declared.container.Goal.{Goal}
use Rattle.engine_text.specs.declared.container.Life.{Life}
use Rattle.engine_text.specs.declared.event.Action.{Action}
use Rattle.engine_text.specs.declared.event.Action.TheVariants as action
use Rattle.engine_text.specs.declared.event.Event.{Event}
use Rattle.engine_text.specs.declared.exec.Exec.{Exec}
use Rattle.engine_text.specs.declared.owner.Owner.{Owner}
use Rattle.engine_text.specs.declared.owner.Owner.TheVariants.{Container as OfContainer, Exec as OfExec}
use Rattle.engine_text.specs.declared.reply.Reply.{Reply}
use Rattle.engine_text.specs.declared.script.Effect.{Effect as ProcessEffect}
use Rattle.engine_text.specs.declared.script.Effect.TheVariants.{Lives, Wrote, Ended}
use Rattle.engine_text.specs.declared.signal.Signal.{Signal}
use Rattle.engine_text.specs.declared.status.Status.{Status}
use Rattle.engine_text.specs.declared.step.DueAction.{DueAction}
use Rattle.engine_text.specs.declared.ticket.Asked.{Asked}
use Rattle.engine_text.specs.declared.ticket.Ticket.{Ticket}
use Rattle.restart_policy.specs.declared.decision.Decision.{Decision}
use Rattle.restart_policy.specs.declared.decision.Decision.TheVariants.{Stay, Again}
use Rattle.proc_kernel.specs.Catalogue.{program_of}
use Rattle.proc_kernel.specs.Processes.{Process, ProcessStep, run_due, signal, thaw, spawn as spawned}
use Rattle.proc_kernel.specs.Tables.{Entry, process_of, effect_of}
use Rattle.machine_model.specs.State.{State, container_numbered, exec_numbered, running_execs, owner_number, clear_timer, set_timer, drop_process, change_exec}
use Rattle.machine_model.specs.Chain.{Effect, Died, still, change, and_then, in_order, each, with_found, with_container, renew, tell_of, tell_mounts}
use Rattle.machine_model.specs.Due.{by_rank, due_effect, restarted, died, timed_out, time_out}
use Rattle.machine_model.specs.EventTexts.{plain_event, die_event, exec_die_event, kill_event}
use Rattle.machine_model.specs.Ranges.{AreCoded, HaveCodes}
use Rattle.machine_model.specs.Tickets.{begun}
use Rattle.machine_model.specs.Effects.Launch.{launch_program, launch, launch_by_call, launched, afresh, spawn, container_room}
use Rattle.machine_model.specs.Effects.Destroy.{waited, last_reply, answered, answer, last_answer, destroy, without}
use Rattle.machine_model.specs.Effects.Cancel.{cancel_restart, cancelled}
use Rattle.machine_model.specs.Effects.Halt.{set_deadline, halt}
use Rattle.machine_model.specs.Effects.EndMain.{end_exec, end_execs, exec_ended, ended, die, clear_deadlines, exited, no_goal, restarting, removed_if, follow, decision_at, by_goal, by_status, end_main}
use Rattle.machine_model.specs.Effects.Meet.{by_effect, stepped, step_process, put_output, logged, running, thaw_execs, wake_parts, thaw_container, send, woken, meet_signal}
use Rattle.machine_model.proofs.ListLemmas.{all_append}
use Rattle.machine_model.proofs.ChangeLemmas.{all_updated, all_removed}
use Rattle.machine_model.proofs.ReplyLemmas.{all_through}
use Rattle.machine_model.proofs.ObeyLemmas.{found_all}
use Rattle.machine_model.proofs.Effects.MeetLemmas.{KeepsCodes}
use Rattle.machine_model.proofs.Processes.CodeLemmas.{EndsCoded, all_changed, all_without, all_begun, ends_coded, coded_spawn, coded_due, coded_thaw, coded_signal}
use Rattle.machine_model.proofs.Processes.ProgramCodeLemmas.{OfProgram, program_coded}
use Rattle.container_table.specs.Ranks.{rank_numbered}
use Rattle.container_table.specs.declared.rank.Rank.{Rank}

-- ---- what holds of a state in which ticket n, if it stands, is a wait's

-- a reply that is there tells a code of one byte
abbrev pub TellsCode : Option Reply → Type 0
TellsCode None = Unit {0}
TellsCode (Some reply) = (code : ℕ) × (code < 256) × (reply ≡ waited code)

abbrev pub IsOfWait : Asked → Type 0
IsOfWait (Asked.Wait until) = Unit {0}
IsOfWait other = ⊥

abbrev pub IsWait : ℕ → Ticket → Type 0
IsWait n t = t.number ≡ n → IsOfWait t.asked × TellsCode t.reply

abbrev pub IsLow : Container → Type 0
IsLow c = c.life.code < 256

abbrev pub Holds : ℕ → State → Type 0
Holds n s =
    AreCoded s.processes × AllByRecursion IsLow s.containers × (n < s.next_ticket) × AllByRecursion (IsWait n) s.tickets

abbrev pub AreLow : List Died → Type 0
AreLow ds = AllByRecursion (λ d. d.code < 256) ds

pub record Keeps (n : ℕ) (e : State → Effect) : Type 0 where
  pub holds : (s : State) → Holds n s → Holds n (e s).state × AreLow (e s).died

-- ---- tickets

answered_tells : (o : Option Reply) (r : Reply) → TellsCode o → TellsCode (Some r) → TellsCode (answered o r)
answered_tells None r old new = new
answered_tells (Some x) r old new = old

last_tells : (a : Asked) (code : ℕ) → IsOfWait a → code < 256 → TellsCode (Some (last_reply a code))
last_tells (Asked.Wait until) code of low = (code, low, refl)
last_tells Asked.Stop code of low = absurd of
last_tells Asked.Restart code of low = absurd of
last_tells Asked.Remove code of low = absurd of

last_wait : (n : ℕ) (b : Bool) (c : Container) (t : Ticket) → IsLow c → IsWait n t → IsWait n (if b then answer (last_reply t.asked c.life.code) t else t)
last_wait n true c t low h is = let one = h is in (one.0, answered_tells t.reply (last_reply t.asked c.life.code) one.1 (last_tells t.asked c.life.code one.0 low))
last_wait n false c t low h is = h is

timed_wait : (n : ℕ) (a : Asked) (c : Container) (t : Ticket) → t.asked ≡ a → IsWait n t → IsWait n (timed_out a c t)
timed_wait n Asked.Remove c t same h is = absurd (subst IsOfWait same (h is).0)
timed_wait n Asked.Stop c t same h is = h is
timed_wait n Asked.Restart c t same h is = h is
timed_wait n (Asked.Wait until) c t same h is = h is

timed_either : (n : ℕ) (b : Bool) (c : Container) (t : Ticket) → IsWait n t → IsWait n (if b then timed_out t.asked c t else t)
timed_either n true c t h = timed_wait n t.asked c t refl h
timed_either n false c t h = h

below_other : (m k : ℕ) → k < m → m ≡ k → ⊥
below_other m k low same = omega (arith, low, same)

-- ---- chains of effects

module _ {n : ℕ} where
  pub keeps_then : {e f : State → Effect} → Keeps n e → Keeps n f → Keeps n (and_then e f)
  keeps_then {e} {f} first second = record {
    holds = λ s h.
        let a = first.holds s h in
        let b = second.holds (e s).state a.0 in
        (b.0, all_append (λ (d : Died). d.code < 256) (e s).died (f (e s).state).died a.1 b.1);
  }

  pub keeps_still : Keeps n still
  keeps_still = record { holds = λ s h. (h, tt) }

  pub keeps_change : (f : State → State) → ((s : State) → Holds n s → Holds n (f s)) → Keeps n (change f)
  keeps_change f keeps = record { holds = λ s h. (keeps s h, tt) }

  pub keeps_at : (e : State → State → Effect) → ((s : State) → Keeps n (e s)) → Keeps n (λ s. e s s)
  keeps_at e one = record { holds = λ s h. (one s).holds s h }

  pub keeps_found : {A : Type 0} {f : A → State → Effect} (o : Option A) → ((x : A) → Keeps n (f x)) → Keeps n (with_found o f)
  keeps_found None one = keeps_still
  keeps_found (Some x) one = one x

  pub keeps_with : (m : ℕ) {f : Container → State → Effect} → ((c : Container) → Keeps n (f c)) → Keeps n (with_container m f)
  keeps_with m one = record { holds = λ s h. (keeps_found (container_numbered m s) one).holds s h }

  pub keeps_each : {A : Type 0} {f : A → State → Effect} → ((x : A) → Keeps n (f x)) → (xs : List A) → Keeps n (each f xs)
  keeps_each one [] = keeps_still
  keeps_each one (x ∷ xs) = keeps_then (one x) (keeps_each one xs)

  pub keeps_tell : (event : Container → ℕ → Event) (m : ℕ) → Keeps n (tell_of event m)
  keeps_tell event m = keeps_with m (λ c. record { holds = λ s h. (h, tt) })

  pub keeps_mounts : (a : Action) (m : ℕ) → Keeps n (tell_mounts a m)
  keeps_mounts a m = keeps_with m (λ c. record { holds = λ s h. (h, tt) })

  pub keeps_renew : (m : ℕ) (f : Life → Life) → ((l : Life) → l.code < 256 → (f l).code < 256) → Keeps n (renew m f)
  keeps_renew m f low = record {
    holds = λ s h. ((h.0, all_updated IsLow (λ c. c.number == m) (λ c. record c { life = f c.life }) (λ c k. low c.life k) s.containers h.1, h.2, h.3), tt);
  }

  -- ---- launches, removals, restarts that are given up

  keeps_spawn : (owner : Owner) (program : Program) (stdin : Bool) (room : ℕ) → HaveCodes program.ops → Keeps n (change (spawn owner program stdin room))
  keeps_spawn owner program stdin room codes =
      keeps_change (spawn owner program stdin room)
      (λ s h. (all_begun owner (spawned program s.clock stdin room) s.processes h.0 (coded_spawn program s.clock stdin room codes), h.1, h.2, h.3))

  pub keeps_spawns : (owner : Owner) (o : Option Program) (stdin : Bool) (room : ℕ) → OfProgram o → Keeps n (with_found o (λ p. change (spawn owner p stdin room)))
  keeps_spawns owner None stdin room codes = keeps_still
  keeps_spawns owner (Some program) stdin room codes = keeps_spawn owner program stdin room codes

  keeps_program : (o : Option Program) (c : Container) → OfProgram o → Keeps n (launch_program o c)
  keeps_program None c codes = keeps_still
  keeps_program (Some program) c codes =
      keeps_then (keeps_at (λ s. renew c.number (launched s)) (λ s. keeps_renew c.number (launched s) (λ l k. omega arith)))
      (keeps_then (keeps_spawn (OfContainer c.number) program c.life.open_stdin (container_room c) codes)
      (keeps_then (keeps_mounts action.Mount c.number) (keeps_tell (plain_event action.Start) c.number)))

  keeps_launch : (m : ℕ) → Keeps n (launch m)
  keeps_launch m = keeps_with m (λ c. keeps_program (program_of c.life.words (c.life.starts + 1)) c (program_coded c.life.words (c.life.starts + 1)))

  pub keeps_launch_by_call : (m : ℕ) → Keeps n (launch_by_call m)
  keeps_launch_by_call m = keeps_then (keeps_renew m afresh (λ l k. k)) (keeps_launch m)

  gone : (m : ℕ) (o : Option Container) (s : State) → container_numbered m s ≡ o → Holds n s
      → Holds n (with_found o (λ c. change (without c)) s).state × AreLow (with_found o (λ c. change (without c)) s).died
  gone m None s found h = (h, tt)
  gone m (Some c) s found h =
      let low : IsLow c = found_all IsLow (λ d. d.number == m) c s.containers found h.1 in (
        (
          h.0,
          all_removed IsLow (λ d. d.number == c.number) s.containers h.1,
          h.2,
          all_through (IsWait n) (last_answer c) (λ t k. last_wait n (t.container == c.number) c t low k) s.tickets h.3,
        ),
        tt,
      )

  pub keeps_destroy : (m : ℕ) → Keeps n (destroy m)
  keeps_destroy m =
      keeps_then {f = with_container m (λ c. change (without c))} (keeps_tell (plain_event action.Destroy) m)
      (record { holds = λ s h. gone m (container_numbered m s) s refl h })

  pub keeps_cancel : (m : ℕ) → Keeps n (cancel_restart m)
  keeps_cancel m = keeps_then (keeps_change (clear_timer Rank.RestartTimer m) (λ s h. h)) (keeps_renew m cancelled (λ l k. k))

  -- ---- the end of execs and of main processes

  keeps_end_exec : (code m : ℕ) → Keeps n (end_exec code m)
  keeps_end_exec code m =
      keeps_at (λ s. with_found (exec_numbered m s) _)
      (λ s. keeps_found (exec_numbered m s)
      (λ (x : Exec). keeps_then (keeps_tell (exec_die_event x.id code) x.container)
      (keeps_then (keeps_change (drop_process (OfExec m)) (λ s h. (all_without (OfExec m) s.processes h.0, h.1, h.2, h.3)))
      (keeps_change (change_exec m (exec_ended code)) (λ s h. h)))))

  keeps_end_execs : (m : ℕ) → Keeps n (end_execs m)
  keeps_end_execs m =
      keeps_at (λ s. each (λ (x : Exec). end_exec 137 x.number) (running_execs m s))
      (λ s. keeps_each (λ (x : Exec). keeps_end_exec 137 x.number) (running_execs m s))

  keeps_die : (code m : ℕ) → code < 256 → Keeps n (die code m)
  keeps_die code m low = record {
    holds = λ s h. (
      (
        all_without (OfContainer m) s.processes h.0,
        all_updated IsLow (λ c. c.number == m) (λ c. record c { life = ended code s.clock c.life }) (λ c k. low) s.containers h.1,
        h.2,
        h.3,
      ),
      (low, tt),
    );
  }

  keeps_removed_if : (auto : Bool) (m : ℕ) → Keeps n (removed_if auto m)
  keeps_removed_if true m = keeps_destroy m
  keeps_removed_if false m = keeps_still

  keeps_follow : (d : Decision) (auto : Bool) (m : ℕ) → Keeps n (follow d auto m)
  keeps_follow Stay auto m = keeps_then (keeps_renew m exited (λ l k. k)) (keeps_removed_if auto m)
  keeps_follow (Again delay) auto m =
      keeps_then (keeps_renew m (restarting delay) (λ l k. k)) (keeps_change (λ s. set_timer Rank.RestartTimer m (s.clock + delay) s) (λ s h. h))

  keeps_goal : (g : Goal) (c : Container) → Keeps n (by_goal g c)
  keeps_goal Goal.Remove c = keeps_destroy c.number
  keeps_goal Goal.Stop c =
      keeps_then (keeps_renew c.number exited (λ l k. k))
      (keeps_then (keeps_tell (plain_event action.Stop) c.number) (keeps_removed_if c.life.auto_remove c.number))
  keeps_goal Goal.Restart c =
      keeps_then (keeps_tell (plain_event action.Stop) c.number)
      (keeps_then (keeps_launch_by_call c.number) (keeps_tell (plain_event action.Restart) c.number))
  keeps_goal Goal.None c =
      keeps_at (λ s. follow (decision_at s.clock c.life) c.life.auto_remove c.number)
      (λ s. keeps_follow (decision_at s.clock c.life) c.life.auto_remove c.number)

  keeps_status : (u : Status) (c : Container) → Keeps n (by_status u c)
  keeps_status Status.Dead c = keeps_still
  keeps_status Status.Created c = keeps_goal c.life.goal c
  keeps_status Status.Running c = keeps_goal c.life.goal c
  keeps_status Status.Paused c = keeps_goal c.life.goal c
  keeps_status Status.Restarting c = keeps_goal c.life.goal c
  keeps_status Status.Removing c = keeps_goal c.life.goal c
  keeps_status Status.Exited c = keeps_goal c.life.goal c

  keeps_end_main : (code m : ℕ) → code < 256 → Keeps n (end_main code m)
  keeps_end_main code m low =
      keeps_then (keeps_end_execs m)
      (keeps_then (keeps_tell (die_event code) m)
      (keeps_then (keeps_die code m low)
      (keeps_then (keeps_change (clear_deadlines m) (λ s h. h))
      (keeps_then (keeps_mounts action.Unmount m)
      (keeps_then (keeps_with m (λ c. keeps_status c.life.status c))
      (keeps_then (keeps_renew m no_goal (λ l k. k)) keeps_still))))))

  -- ---- steps of processes, signals and thaws

  ends_as : (owner : Owner) (e : ProcessEffect) → EndsCoded e → Keeps n (by_effect e owner)
  ends_as owner Lives low = keeps_still
  ends_as (OfContainer m) (Wrote stream payload) low =
      keeps_at (λ s. renew m (logged stream payload s.clock)) (λ s. keeps_renew m (logged stream payload s.clock) (λ l k. k))
  ends_as (OfExec m) (Wrote stream payload) low = keeps_change (put_output m stream payload) (λ s h. h)
  ends_as (OfContainer m) (Ended code) low = keeps_end_main code m low
  ends_as (OfExec m) (Ended code) low = keeps_end_exec code m

  keeps_step : (step : ℕ → Process → ProcessStep) (owner : Owner) → KeepsCodes step → Keeps n (step_process step owner)
  keeps_step step owner codes = record {
    holds = λ s h.
        let moved = all_changed owner (λ p. (step s.clock p).process) (λ p k. (codes s.clock p k).process) s.processes h.0 in
        let e : ProcessEffect = effect_of (step s.clock) (process_of owner s.processes) in
        (ends_as owner e (ends_coded owner (step s.clock) (codes s.clock) s.processes h.0)).holds (stepped step owner s) (moved, h.1, h.2, h.3);
  }

  keeps_thaw_execs : (m : ℕ) → Keeps n (thaw_execs m)
  keeps_thaw_execs m =
      keeps_at (λ s. each (λ (x : Exec). step_process thaw (OfExec x.number)) (running_execs m s))
      (λ s. keeps_each (λ (x : Exec). keeps_step thaw (OfExec x.number) coded_thaw) (running_execs m s))

  keeps_wake : (m : ℕ) → Keeps n (in_order (wake_parts m))
  keeps_wake m =
      keeps_then (keeps_tell (plain_event action.Unpause) m) (keeps_then (keeps_renew m running (λ l k. k)) (keeps_then (keeps_thaw_execs m) keeps_still))

  keeps_woken : (u : Status) (m : ℕ) → Keeps n (woken u m)
  keeps_woken Status.Paused m = keeps_wake m
  keeps_woken Status.Created m = keeps_still
  keeps_woken Status.Running m = keeps_still
  keeps_woken Status.Restarting m = keeps_still
  keeps_woken Status.Removing m = keeps_still
  keeps_woken Status.Exited m = keeps_still
  keeps_woken Status.Dead m = keeps_still

  pub keeps_thaw : (m : ℕ) → Keeps n (thaw_container m)
  keeps_thaw m = keeps_then (keeps_wake m) (keeps_step thaw (OfContainer m) coded_thaw)

  pub keeps_send : (thaws : Bool) (number m : ℕ) → number < 128 → Keeps n (send thaws number m)
  keeps_send thaws number m low = keeps_step (signal number thaws) (OfContainer m) (coded_signal number thaws low)

  pub keeps_meet : (number m : ℕ) → number < 128 → Keeps n (meet_signal number m)
  keeps_meet number m low = keeps_with m (λ c. keeps_then (keeps_woken c.life.status m) (keeps_send true number m low))

  keeps_deadline : (z : ℤ) (m : ℕ) → Keeps n (change (set_deadline z m))
  keeps_deadline (pos seconds) m = record { holds = λ s h. (h, tt) }
  keeps_deadline (negsuc k) m = record { holds = λ s h. (h, tt) }

  pub keeps_halt : (mark : Life → Life) (seconds : Option ℤ) (given : Option Signal) (c : Container) → ((l : Life) → l.code < 256 → (mark l).code < 256)
      → (unwrap_or given c.life.stop_signal).number < 128 → Keeps n (halt mark seconds given c)
  keeps_halt mark seconds given c marks low =
      keeps_then (keeps_tell (kill_event ((unwrap_or given c.life.stop_signal).number)) c.number)
      (keeps_then (keeps_renew c.number mark marks)
      (keeps_then (keeps_deadline (unwrap_or seconds c.life.stop_after) c.number) (keeps_meet ((unwrap_or given c.life.stop_signal).number) c.number low)))

  -- ---- due steps

  keeps_rank : (r : Rank) (m : ℕ) → Keeps n (by_rank r m)
  keeps_rank Rank.Op m =
      keeps_at (λ s. with_found (find (λ e. owner_number e.owner == m) s.processes) (λ (e : Entry). step_process run_due e.owner))
      (λ s. keeps_found (find (λ e. owner_number e.owner == m) s.processes) (λ (e : Entry). keeps_step run_due e.owner coded_due))
  keeps_rank Rank.StopDeadline m =
      keeps_then (keeps_change (clear_timer Rank.StopDeadline m) (λ s h. h)) (keeps_then (keeps_tell (kill_event 9) m) (keeps_meet 9 m (omega arith)))
  keeps_rank Rank.RemovalDeadline m =
      keeps_then (keeps_change (clear_timer Rank.RemovalDeadline m) (λ s h. h))
      (keeps_then (keeps_renew m died (λ l k. k))
      (keeps_with m
      (λ c. keeps_change (time_out c)
      (λ s h. (h.0, h.1, h.2, all_through (IsWait n) (λ t. if t.container == c.number then timed_out t.asked c t else t) (λ t k. timed_either n (t.container == c.number) c t k) s.tickets h.3)))))
  keeps_rank Rank.RestartTimer m =
      keeps_then (keeps_change (clear_timer Rank.RestartTimer m) (λ s h. h)) (keeps_then (keeps_renew m restarted (λ l k. k)) (keeps_launch m))

  pub keeps_due : (d : DueAction) → Keeps n (due_effect d)
  keeps_due d = keeps_rank (rank_numbered d.rank) d.number

  -- ---- a ticket more

  pub keeps_begun : (connection : ℕ) (c : Container) (asked : Asked) → Keeps n (change (begun connection c.number asked))
  keeps_begun connection c asked =
      keeps_change (begun connection c.number asked)
      (λ s h. (h.0, h.1, omega (arith, h.2), all_append (IsWait n) s.tickets _ h.3 (λ is. absurd (below_other s.next_ticket n h.2 is), tt)))
