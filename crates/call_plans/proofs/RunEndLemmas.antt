-- What is made ready for the end of a main process is what that end wants, and tells as much as the script of any launch.
use Rattle.std.proofs.Common.{◌≡◌, ℕ, ◌+◌, ◌≤◌, Bool, true, false, List, ◌∷◌, ◌++◌, Option, Some, None, refl, ap, sym, ◌∙◌, subst, length, vec_capacity}
use Rattle.std.specs.List.{flat_map}
use Rattle.std.specs.Prelude.{Result, Ok, Err, IfOk}
use Rattle.engine_text.specs.Scripts.{Program}
use Rattle.engine_text.specs.declared.container.Container.{Container}
use Rattle.engine_text.specs.declared.container.Goal.{Goal}
use Rattle.engine_text.specs.declared.event.Action.{Action}
use Rattle.engine_text.specs.declared.log.OwnedLog.{OwnedLog}
use Rattle.engine_text.specs.declared.memory.NoMemory.{NoMemory}
use Rattle.engine_text.specs.declared.owner.Owner.{Owner}
use Rattle.engine_text.specs.declared.status.Status.{Status}
use Rattle.proc_kernel.specs.Catalogue.{program_of}
use Rattle.machine_model.specs.State.{State, container_numbered}
use Rattle.machine_model.specs.Calls.Kill.{by_hand}
use Rattle.machine_model.specs.Chain.{Died}
use Rattle.machine_model.specs.Effects.EndMain.{ended}
use Rattle.machine_model.specs.EventTexts.{die_event, kill_event}
use Rattle.machine_events.specs.Fit.{HasEnded, died_of, exec_numbers, next_script, outputs_of}
use Rattle.machine_events.specs.Foretold.{running_numbers, told_code, told_end, told_goal, told_mounts, told_number, told_status}
use Rattle.machine_events.specs.ChangedLives.{renewed}
use Rattle.machine_events.specs.ToldCalls.{told_main}
use Rattle.machine_events.specs.ToldKill.{aimed, told_kill}
use Rattle.machine_events.specs.ToldMeet.{running_after, told_deliver, told_meet, told_wake}
use Rattle.machine_events.specs.declared.end_memory.EndMemory.{EndMemory}
use Rattle.call_plans.specs.RunEnds.{IsEndMemory, IsOwnerMemory, Serves}

-- ---- the memory for an end

same_next : (c d : Container) → Some c ≡ Some d → next_script c.life.goal c ≡ next_script d.life.goal d
same_next c d e = let is : c ≡ d = cc in ap (λ (x : Container). next_script x.life.goal x) is

-- it is what an end wants that comes
pub serves_end : (code : Option ℕ) (n : ℕ) (g : Goal) (c d : Container) (s z : State) (brought : EndMemory) (died : List Died) → died ≡ died_of n code → IsEndMemory code g n c s brought → container_numbered n z ≡ Some d → next_script g c ≡ next_script d.life.goal d
    → exec_numbers n z ≡ exec_numbers n s → outputs_of n z ≡ outputs_of n s → HasEnded died → Serves n brought z
serves_end None n g c d s z brought died is of found same numbers outputs ended = absurd (subst (λ (l : List Died). HasEnded l) is ended)
serves_end (Some code) n g c d s z brought died is of found same numbers outputs ended = record {
  named = λ x at. of.script ∙ (same ∙ same_next d x (sym found ∙ at));
  numbers = of.numbers ∙ sym numbers;
  empty = of.empty;
  logs = subst (λ (l : List OwnedLog). length l + 1 ≤ vec_capacity brought.logs) (sym outputs) of.logs;
}

-- of an owner that is a container
pub owner_memory_of : (r : Result EndMemory NoMemory) (code : Option ℕ) (n : ℕ) (o : Owner) (c : Container) (s : State) → o ≡ Owner.Container n → container_numbered n s ≡ Some c → IfOk r (λ k. IsEndMemory code c.life.goal n c s k) → IfOk r (λ k. IsOwnerMemory code o s k)
owner_memory_of (Err e) code n o c s is found h = tt
owner_memory_of (Ok brought) code n o c s is found h =
    subst (λ (w : Owner). IsOwnerMemory code w s brought) (sym is) (λ d at. same_memory d (sym found ∙ at))
  where
    same_memory : (d : Container) → Some c ≡ Some d → IsEndMemory code d.life.goal n d s brought
    same_memory d e = let same : c ≡ d = cc in subst (λ (x : Container). IsEndMemory code x.life.goal n x s brought) same h

-- ---- what is told of it

-- the script of a launch
abbrev pub own_script : Container → Option Program
own_script c = program_of c.life.words (c.life.starts + 1)

-- the script is the one that the end with that code wants, if there is one
abbrev pub IsScriptFor : Option ℕ → Container → Option Program → Type 0
IsScriptFor None c o = Unit {0}
IsScriptFor (Some code) c o = o ≡ next_script c.life.goal c

pub script_for : (code : Option ℕ) (n : ℕ) (c : Container) (s : State) (brought : EndMemory) → IsEndMemory code c.life.goal n c s brought → IsScriptFor code c brought.script
script_for None n c s brought of = tt
script_for (Some code) n c s brought of = of.script

aimed_next : (g : Goal) (c : Container) → next_script g c ≡ next_script g (aimed g c)
aimed_next Goal.Remove c = refl
aimed_next Goal.Stop c = refl
aimed_next Goal.Restart c = refl
aimed_next Goal.None c = refl

-- with another goal
pub script_aimed : (code : Option ℕ) (g : Goal) (n : ℕ) (c : Container) (s : State) (brought : EndMemory) → IsEndMemory code g n c s brought → IsScriptFor code (aimed g c) brought.script
script_aimed None g n c s brought of = tt
script_aimed (Some code) g n c s brought of = of.script ∙ aimed_next g c

goal_next : (g : Goal) (c : Container) (code t : ℕ) → told_goal g (next_script g c) (renewed (ended code t) c) t ≡ told_goal g (own_script c) (renewed (ended code t) c) t
goal_next Goal.Remove c code t = refl
goal_next Goal.Stop c code t = refl
goal_next Goal.Restart c code t = refl
goal_next Goal.None c code t = refl

status_next : (u : Status) (c : Container) (code t : ℕ) → told_status u (next_script c.life.goal c) (renewed (ended code t) c) t ≡ told_status u (own_script c) (renewed (ended code t) c) t
status_next Status.Dead c code t = refl
status_next Status.Created c code t = goal_next c.life.goal c code t
status_next Status.Running c code t = goal_next c.life.goal c code t
status_next Status.Paused c code t = goal_next c.life.goal c code t
status_next Status.Restarting c code t = goal_next c.life.goal c code t
status_next Status.Removing c code t = goal_next c.life.goal c code t
status_next Status.Exited c code t = goal_next c.life.goal c code t

code_with_next : (execs : List ℕ) (code : Option ℕ) (c : Container) (o : Option Program) (s : State) → IsScriptFor code c o → told_code execs code c o s ≡ told_code execs code c (own_script c) s
code_with_next execs None c o s is = refl
code_with_next execs (Some code) c o s is =
    ap (λ p. told_end execs code c p s) is
    ∙ ap (λ l. flat_map (told_number s) execs ++ (die_event code c s.clock ∷ (told_mounts Action.Unmount c s.clock ++ l))) (status_next c.life.status c code s.clock)

code_next : (code : Option ℕ) (n : ℕ) (c : Container) (o : Option Program) (s : State) → IsScriptFor code c o → told_code (running_numbers n s) code c o s ≡ told_code (running_numbers n s) code c (own_script c) s
code_next code n c o s is = code_with_next (running_numbers n s) code c o s is

-- of a signal with a thaw, and of an unpause
pub meet_next : (u : Status) (code : Option ℕ) (n : ℕ) (c : Container) (o : Option Program) (s : State) → IsScriptFor code c o → told_meet u code n c o s ≡ told_meet u code n c (own_script c) s
meet_next Status.Paused code n c o s is = ap (λ l. told_wake n c s ++ l) (code_with_next (running_after n s) code c o s is)
meet_next Status.Created code n c o s is = code_next code n c o s is
meet_next Status.Running code n c o s is = code_next code n c o s is
meet_next Status.Restarting code n c o s is = code_next code n c o s is
meet_next Status.Removing code n c o s is = code_next code n c o s is
meet_next Status.Exited code n c o s is = code_next code n c o s is
meet_next Status.Dead code n c o s is = code_next code n c o s is

-- stopped by hand
hand_next : (g : Goal) (c : Container) → next_script g c ≡ next_script g (renewed by_hand c)
hand_next Goal.Remove c = refl
hand_next Goal.Stop c = refl
hand_next Goal.Restart c = refl
hand_next Goal.None c = refl

script_by_hand : (code : Option ℕ) (c : Container) (o : Option Program) → IsScriptFor code c o → IsScriptFor code (renewed by_hand c) o
script_by_hand None c o is = tt
script_by_hand (Some code) c o is = is ∙ hand_next c.life.goal c

-- of a kill
pub deliver_next : (last : Bool) (code : Option ℕ) (n : ℕ) (c : Container) (o : Option Program) (s : State) → IsScriptFor code c o → told_deliver last code n c o s ≡ told_deliver last code n c (own_script c) s
deliver_next true code n c o s is = meet_next c.life.status code n (renewed by_hand c) o s (script_by_hand code c o is)
deliver_next false code n c o s is = code_next code n c o s is

-- of a signal with its event kill
pub kill_next : (signal : ℕ) (code : Option ℕ) (c : Container) (o : Option Program) (s : State) → IsScriptFor code c o → told_kill signal code c o s ≡ told_kill signal code c (own_script c) s
kill_next signal code c o s is = ap (λ l. kill_event signal c s.clock ∷ l) (meet_next c.life.status code c.number c o s is)

-- of the next op of a main process
pub main_next : (q : Option Container) (code : Option ℕ) (c : Container) (o : Option Program) (s : State) → q ≡ Some c → IsScriptFor code c o → told_main q code o s ≡ told_main q code (own_script c) s
main_next q code c o s found is =
    ap (λ x. told_main x code o s) found ∙ (code_next code c.number c o s is ∙ sym (ap (λ x. told_main x code (own_script c) s) found))
