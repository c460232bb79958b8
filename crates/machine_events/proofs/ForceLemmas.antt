-- A signal that ends a container with the goal Remove sets no timer.
use Rattle.std.proofs.Common.{◌≡◌, ℕ, ◌==◌, ◌<◌, ◌≤◌, Bool, true, false, List, [], ◌++◌, Option, Some, None, refl, ap, sym, ◌∙◌, subst, arith, find, length, append-nil}
use Rattle.std.specs.Prelude.{option_map}
use Rattle.container_table.specs.Timers.{is_timer}
use Rattle.container_table.specs.declared.rank.Rank.{Rank}
use Rattle.engine_text.specs.declared.container.Container.{Container}
use Rattle.engine_text.specs.declared.container.Goal.{Goal}
use Rattle.engine_text.specs.declared.container.Life.{Life}
use Rattle.engine_text.specs.declared.event.Event.{Event}
use Rattle.engine_text.specs.declared.event.Action.{Action}
use Rattle.engine_text.specs.declared.exec.Exec.{Exec}
use Rattle.engine_text.specs.declared.owner.Owner.{Owner}
use Rattle.engine_text.specs.declared.script.Effect.{Effect as ProcessEffect}
use Rattle.engine_text.specs.declared.script.Effect.TheVariants.{Lives, Wrote, Ended}
use Rattle.engine_text.specs.declared.status.Status.{Status}
use Rattle.engine_text.specs.declared.step.DueAction.{DueAction}
use Rattle.proc_kernel.specs.Processes.{signal, thaw}
use Rattle.proc_kernel.specs.Tables.{effect_of, process_of}
use Rattle.machine_model.specs.State.{State, container_numbered, exec_numbered, running_execs, change_life, clear_timer, drop_process, is_live}
use Rattle.machine_model.specs.Chain.{Died, and_then, in_order, renew, tell_of, tell_mounts, with_found}
use Rattle.machine_model.specs.EventTexts.{die_event, kill_event, plain_event}
use Rattle.machine_model.specs.Calls.Remove.{to_remove, if_it_lives, kill_to_remove}
use Rattle.machine_model.specs.Effects.Destroy.{destroy}
use Rattle.machine_model.specs.Effects.EndMain.{by_goal, by_status, clear_deadlines, die, end_exec, end_execs, end_main, ended}
use Rattle.machine_model.specs.Effects.Meet.{by_effect, meet_signal, running, send, stepped, thaw_execs, wake_parts, woken}
use Rattle.machine_model.specs.History.{greatest_moment}
use Rattle.machine_model.proofs.ChainLemmas.{Keeps, keeps_each, keeps_found, keeps_in_order, meet-clock}
use Rattle.machine_events.specs.ChangedLives.{renewed}
use Rattle.machine_events.specs.Fit.{CanEndAs, CanEndBy, CanSettle, HasEnded}
use Rattle.machine_events.specs.Memory.{Room}
use Rattle.machine_events.specs.declared.end_memory.EndMemory.{EndMemory}
use Rattle.machine_events.proofs.DiedLemmas.{none_found}
use Rattle.machine_events.proofs.SettleLemmas.{fewer, found_updated, tell_still}

-- there are at most so many timers, and the container, if it stands, has the goal Remove
pub record GoesAway (n k : ℕ) (s : State) : Type 0 where
  pub timers : length s.timers ≤ k
  pub goal : (c : Container) → container_numbered n s ≡ Some c → c.life.goal ≡ Goal.Remove

-- there are at most so many timers
abbrev AreFewTimers : ℕ → State → Type 0
AreFewTimers k s = length s.timers ≤ k

-- the timers and the containers as they were
away_as : (n k : ℕ) (s z : State) → z.timers ≡ s.timers → z.containers ≡ s.containers → GoesAway n k s → GoesAway n k z
away_as n k s z timers containers h = record {
  timers = subst (λ (ts : List DueAction). length ts ≤ k) (sym timers) h.timers;
  goal = λ c e. h.goal c (sym (ap (find (λ (d : Container). d.number == n)) containers) ∙ e);
}

-- ---- what is told

away_tell : (n k m : ℕ) (event : Container → ℕ → Event) → Keeps (GoesAway n k) (tell_of event m)
away_tell n k m event s h = keeps_found (GoesAway n k) (container_numbered m s) _ (λ c z p. p) s h

away_mounts : (n k m : ℕ) (a : Action) → Keeps (GoesAway n k) (tell_mounts a m)
away_mounts n k m a s h = keeps_found (GoesAway n k) (container_numbered m s) _ (λ c z p. p) s h

-- ---- execs

away_end_exec : (n k code j : ℕ) → Keeps (GoesAway n k) (end_exec code j)
away_end_exec n k code j s h =
    keeps_found (GoesAway n k) (exec_numbered j s) _ (λ (x : Exec) z p. away_as n k (tell_of _ x.container z).state _ refl refl (away_tell n k x.container _ z p)) s h

away_end_execs : (n k : ℕ) → Keeps (GoesAway n k) (end_execs n)
away_end_execs n k s h = keeps_each (GoesAway n k) _ (λ (x : Exec). away_end_exec n k 137 x.number) (running_execs n s) s h

away_exec_effect : (n k : ℕ) (e : ProcessEffect) (j : ℕ) → Keeps (GoesAway n k) (by_effect e (Owner.Exec j))
away_exec_effect n k Lives j s h = h
away_exec_effect n k (Wrote stream payload) j s h = away_as n k s _ refl refl h
away_exec_effect n k (Ended code) j s h = away_end_exec n k code j s h

away_thaws : (n k : ℕ) → Keeps (GoesAway n k) (thaw_execs n)
away_thaws n k s h =
    keeps_each (GoesAway n k) _ (λ (x : Exec) z p. away_exec_effect n k (effect_of (thaw z.clock) (process_of (Owner.Exec x.number) z.processes)) x.number (stepped thaw (Owner.Exec x.number) z) (away_as n k z _ refl refl p)) (running_execs n s) s h

-- ---- a change of the life that leaves its goal

goal_by : (f : Life → Life) → ((l : Life) → (f l).goal ≡ l.goal) → (o : Option Container) → ((c : Container) → o ≡ Some c → c.life.goal ≡ Goal.Remove) → (c : Container) → option_map (renewed f) o ≡ Some c → c.life.goal ≡ Goal.Remove
goal_by f same None h c e = absurd (cc)
goal_by f same (Some d) h c e = let is : renewed f d ≡ c = cc in subst (λ (x : Container). x.life.goal ≡ Goal.Remove) is (same d.life ∙ h d refl)

away_renew : (n k : ℕ) (f : Life → Life) → ((l : Life) → (f l).goal ≡ l.goal) → Keeps (GoesAway n k) (renew n f)
away_renew n k f same s h = record {
  timers = h.timers;
  goal = λ c e. goal_by f same (container_numbered n s) h.goal c (sym (found_updated (λ (d : Container). d.number == n) (renewed f) s.containers (λ d. refl)) ∙ e);
}

away_wake : (n k : ℕ) → Keeps (GoesAway n k) (in_order (wake_parts n))
away_wake n k = keeps_in_order (GoesAway n k) (wake_parts n) (away_tell n k n _, (away_renew n k running (λ l. refl), (away_thaws n k, tt)))

away_woken : (n k : ℕ) (u : Status) → Keeps (GoesAway n k) (woken u n)
away_woken n k Status.Paused s h = away_wake n k s h
away_woken n k Status.Created s h = h
away_woken n k Status.Running s h = h
away_woken n k Status.Restarting s h = h
away_woken n k Status.Removing s h = h
away_woken n k Status.Exited s h = h
away_woken n k Status.Dead s h = h

-- ---- the end of the main process

few_destroy : (k n : ℕ) → Keeps (AreFewTimers k) (destroy n)
few_destroy k n s h =
    let z : State = (tell_of (plain_event Action.Destroy) n s).state in
    keeps_found (AreFewTimers k) (container_numbered n z) _ (λ c y p. p) z (keeps_found (AreFewTimers k) (container_numbered n s) _ (λ c y p. p) s h)

few_goal : (k : ℕ) (g : Goal) (c : Container) (s : State) → g ≡ Goal.Remove → AreFewTimers k s → AreFewTimers k (by_goal g c s).state
few_goal k g c s e h = subst (λ x. AreFewTimers k (by_goal x c s).state) (sym e) (few_destroy k c.number s h)

few_status : (k : ℕ) (u : Status) (c : Container) (s : State) → c.life.goal ≡ Goal.Remove → AreFewTimers k s → AreFewTimers k (by_status u c s).state
few_status k Status.Dead c s e h = h
few_status k Status.Created c s e h = few_goal k c.life.goal c s e h
few_status k Status.Running c s e h = few_goal k c.life.goal c s e h
few_status k Status.Paused c s e h = few_goal k c.life.goal c s e h
few_status k Status.Restarting c s e h = few_goal k c.life.goal c s e h
few_status k Status.Removing c s e h = few_goal k c.life.goal c s e h
few_status k Status.Exited c s e h = few_goal k c.life.goal c s e h

few_decided : (k : ℕ) (o : Option Container) (s : State) → ((c : Container) → o ≡ Some c → c.life.goal ≡ Goal.Remove) → AreFewTimers k s → AreFewTimers k (with_found o (λ (c : Container). by_status c.life.status c) s).state
few_decided k None s goal h = h
few_decided k (Some c) s goal h = few_status k c.life.status c s (goal c refl) h

away_clears : (n k : ℕ) (s : State) → GoesAway n k s → GoesAway n k (clear_deadlines n s)
away_clears n k s h = record {
  timers = omega (arith, h.timers, fewer (is_timer 1 n) s.timers, fewer (is_timer 2 n) (clear_timer Rank.StopDeadline n s).timers);
  goal = h.goal;
}

away_die : (n k code : ℕ) → Keeps (GoesAway n k) (die code n)
away_die n k code s h = away_renew n k (ended code s.clock) (λ l. refl) (drop_process (Owner.Container n) s) (away_as n k s (drop_process (Owner.Container n) s) refl refl h)

few_end : (n k code : ℕ) (s : State) → GoesAway n k s → AreFewTimers k (end_main code n s).state
few_end n k code s h =
    let a : State = (end_execs n s).state in
    let b : State = (tell_of (die_event code) n a).state in
    let d : State = (die code n b).state in
    let e : State = (tell_mounts Action.Unmount n (clear_deadlines n d)).state in
    let away : GoesAway n k e = away_mounts n k n Action.Unmount (clear_deadlines n d) (away_clears n k d (away_die n k code b (away_tell n k n (die_event code) a (away_end_execs n k s h)))) in
    few_decided k (container_numbered n e) e away.goal away.timers

few_effect : (n k : ℕ) (e : ProcessEffect) (s : State) → GoesAway n k s → AreFewTimers k (by_effect e (Owner.Container n) s).state
few_effect n k Lives s h = h.timers
few_effect n k (Wrote stream payload) s h = h.timers
few_effect n k (Ended code) s h = few_end n k code s h

few_send : (n k number : ℕ) (s : State) → GoesAway n k s → AreFewTimers k (send true number n s).state
few_send n k number s h =
    few_effect n k (effect_of (signal number true s.clock) (process_of (Owner.Container n) s.processes)) (stepped (signal number true) (Owner.Container n) s) (away_as n k s _ refl refl h)

few_found : (n k number : ℕ) (o : Option Container) (s : State) → GoesAway n k s → AreFewTimers k (with_found o (λ (c : Container). and_then (woken c.life.status n) (send true number n)) s).state
few_found n k number None s h = h.timers
few_found n k number (Some c) s h = few_send n k number (woken c.life.status n s).state (away_woken n k c.life.status s h)

few_met : (n k number : ℕ) (s : State) → GoesAway n k s → AreFewTimers k (meet_signal number n s).state
few_met n k number s h = few_found n k number (container_numbered n s) s h

-- ---- a forced removal

aimed_by : (o : Option Container) (c : Container) → option_map (renewed to_remove) o ≡ Some c → c.life.goal ≡ Goal.Remove
aimed_by None c e = absurd (cc)
aimed_by (Some d) c e = let is : renewed to_remove d ≡ c = cc in ap (λ (x : Container). x.life.goal) (sym is)

goes_away : (n : ℕ) (s : State) → GoesAway n (length s.timers) (change_life n to_remove s)
goes_away n s = record {
  timers = omega arith;
  goal = λ c e. aimed_by (container_numbered n s) c (sym (found_updated (λ (d : Container). d.number == n) (renewed to_remove) s.containers (λ d. refl)) ∙ e);
}

-- there is still room for its deadline
pub timers_after : (n : ℕ) (s a b : State) (room other : Room) → a ≡ change_life n to_remove s → b ≡ (meet_signal 9 n a).state → other ≡ room → length s.timers < room.timers → length b.timers < other.timers
timers_after n s a b room other first second same h =
    let few : length (meet_signal 9 n (change_life n to_remove s)).state.timers ≤ length s.timers = few_met n (length s.timers) 9 (change_life n to_remove s) (goes_away n s) in
    let is : b ≡ (meet_signal 9 n (change_life n to_remove s)).state = second ∙ ap (λ z. (meet_signal 9 n z).state) first in
    let low : length b.timers ≤ length s.timers = subst (λ (z : State). length z.timers ≤ length s.timers) (sym is) few in
    subst (λ (r : Room). length b.timers < r.timers) (sym same) (omega (arith, low, h))

-- at the same moment
pub clock_after : (n : ℕ) (s a b : State) → a ≡ change_life n to_remove s → b ≡ (meet_signal 9 n a).state → s.clock ≤ greatest_moment → b.clock ≤ greatest_moment
clock_after n s a b first second h =
    let is : b ≡ (meet_signal 9 n (change_life n to_remove s)).state = second ∙ ap (λ z. (meet_signal 9 n z).state) first in
    subst (λ t. t ≤ greatest_moment) (sym (ap (λ (z : State). z.clock) is ∙ meet-clock s.clock 9 n (change_life n to_remove s) refl)) h

pub forced_state : (n : ℕ) (s a b d : State) → a ≡ change_life n to_remove s → b ≡ (meet_signal 9 n a).state → d ≡ (if_it_lives (is_live (Owner.Container n) b) n b).state → d ≡ (kill_to_remove n s).state
forced_state n s a b d h1 h2 h3 =
    h3 ∙ ap (λ z. (if_it_lives (is_live (Owner.Container n) z) n z).state)
    (h2 ∙ ap (λ y. (meet_signal 9 n y).state) (h1 ∙ ap (change_life n to_remove) (sym (tell_still (kill_event 9) n s))))

quiet_end : (b : Bool) (n : ℕ) (s : State) → (if_it_lives b n s).died ≡ []
quiet_end false n s = refl
quiet_end true n s = refl

pub forced_died : (n : ℕ) (s a : State) (died : List Died) → a ≡ change_life n to_remove s → died ≡ (meet_signal 9 n a).died → died ≡ (kill_to_remove n s).died
forced_died n s a died h1 h2 =
    let s0 : State = (tell_of (kill_event 9) n s).state in
    let m : List Died = (meet_signal 9 n (change_life n to_remove s0)).died in
    let z : State = (meet_signal 9 n (change_life n to_remove s0)).state in
    let last : List Died = (if_it_lives (is_live (Owner.Container n) z) n z).died in
    let none : (tell_of (kill_event 9) n s).died ≡ [] = none_found (container_numbered n s) _ (λ c y. refl) s in
    h2 ∙ (ap (λ y. (meet_signal 9 n y).died) (h1 ∙ ap (change_life n to_remove) (sym (tell_still (kill_event 9) n s)))
    ∙ (sym (append-nil m) ∙ (ap (λ l. m ++ l) (sym (quiet_end (is_live (Owner.Container n) z) n z)) ∙ ap (λ l. l ++ (m ++ last)) (sym none))))

-- what follows is ready where SIGKILL ends the process
pub end_forced : (n : ℕ) (brought : EndMemory) (room other : Room) (s a : State) → a ≡ change_life n to_remove s → other ≡ room → CanEndAs to_remove (kill_to_remove n) n brought room s → CanEndBy (meet_signal 9 n) n brought other a
end_forced n brought room other s a at same h ended =
    subst (λ (r : Room). CanSettle n brought r a) (sym same)
    (subst (λ (z : State). CanSettle n brought room z) (sym at) (h (subst (λ (d : List Died). HasEnded d) (forced_died n s a (meet_signal 9 n a).died at refl) ended)))
