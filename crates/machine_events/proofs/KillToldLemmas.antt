-- What is told before a stop, a restart, a forced removal or a stop deadline is what it tells.
use Rattle.std.specs.Option.{unwrap_or}
use Rattle.std.proofs.Common.{◌≡◌, ℕ, ◌+◌, ◌*◌, ℤ, pos, negsuc, Bool, true, false, List, [], ◌∷◌, ◌++◌, Option, Some, None, refl, ap, sym, ◌∙◌, append-nil}
use Rattle.std.specs.List.{flat_map}
use Rattle.container_table.specs.Timers.{with_timer}
use Rattle.container_table.specs.declared.rank.Rank.{Rank}
use Rattle.engine_text.specs.declared.exec.Exec.{Exec}
use Rattle.engine_text.specs.declared.step.DueAction.{DueAction}
use Rattle.engine_text.specs.Scripts.{Program}
use Rattle.engine_text.specs.declared.container.Container.{Container}
use Rattle.engine_text.specs.declared.container.Goal.{Goal}
use Rattle.engine_text.specs.declared.container.Life.{Life}
use Rattle.engine_text.specs.declared.owner.Owner.{Owner}
use Rattle.engine_text.specs.declared.signal.Signal.{Signal}
use Rattle.engine_text.specs.declared.status.Status.{Status}
use Rattle.engine_text.specs.declared.ticket.Asked.{Asked}
use Rattle.engine_text.specs.declared.ticket.Ticket.{Ticket}
use Rattle.proc_kernel.specs.Catalogue.{program_of}
use Rattle.proc_kernel.specs.Foretelling.{code_at}
use Rattle.proc_kernel.specs.Processes.{signal}
use Rattle.proc_kernel.specs.Tables.{process_of}
use Rattle.machine_model.specs.State.{State, container_numbered, exec_numbered, change_life, clear_timer, timer_of, is_live}
use Rattle.machine_model.specs.EventTexts.{plain_event, die_event, kill_event}
use Rattle.machine_model.specs.Chain.{tell_of}
use Rattle.machine_model.specs.Calls.Stop.{stopping}
use Rattle.machine_model.specs.Calls.Restart.{to_restart}
use Rattle.machine_model.specs.Calls.Remove.{to_remove, if_it_lives, kill_to_remove}
use Rattle.machine_model.specs.Due.{stop_deadline}
use Rattle.machine_model.specs.Effects.Halt.{halt, lesser, set_deadline}
use Rattle.machine_model.specs.Effects.Meet.{meet_signal}
use Rattle.machine_model.specs.Tickets.{begun}
use Rattle.std.proofs.lemmas.Bool.{false≢true}
use Rattle.machine_model.specs.Effects.EndMain.{ended}
use Rattle.machine_events.specs.Foretold.{running_numbers, told_code, told_exec, told_mounts, told_number, told_status}
use Rattle.engine_text.specs.declared.event.Action.{Action}
use Rattle.machine_events.specs.ChangedLives.{renewed}
use Rattle.machine_events.specs.ToldKill.{aimed, told_kill}
use Rattle.machine_events.specs.ToldMeet.{told_meet, told_wake, told_thaw, thawed_code, running_after}
use Rattle.machine_events.proofs.SettleLemmas.{has_number, tell_still}
use Rattle.machine_events.proofs.ToldLemmas.{found_renewed, told_at}
use Rattle.machine_events.proofs.MeetToldLemmas.{StandOnce, IsLike, code_kept, meet_told, status_like, thaws_changed}

-- ---- timers and tickets, of which nothing is told

-- timers, tickets and the next ticket's number
record Beside : Type 0 where
  timers : List DueAction
  tickets : List Ticket
  next : ℕ

abbrev beside : Beside → State → State
beside b s = record s { timers = b.timers; tickets = b.tickets; next_ticket = b.next }

abbrev with_timers : List DueAction → State → Beside
with_timers ts s = record { timers = ts; tickets = s.tickets; next = s.next_ticket }

exec_beside : (code : ℕ) (o : Option Exec) (b : Beside) (s : State) → told_exec code o (beside b s) ≡ told_exec code o s
exec_beside code None b s = refl
exec_beside code (Some x) b s = refl

thaw_beside : (code : Option ℕ) (j : ℕ) (b : Beside) (s : State) → told_thaw code j (beside b s) ≡ told_thaw code j s
thaw_beside None j b s = refl
thaw_beside (Some code) j b s = exec_beside code (exec_numbered j s) b s

thaws_beside : (js : List ℕ) (b : Beside) (s : State) → flat_map (λ j. told_thaw (thawed_code j s) j (beside b s)) js ≡ flat_map (λ j. told_thaw (thawed_code j s) j s) js
thaws_beside [] b s = refl
thaws_beside (j ∷ js) b s =
    ap (λ l. l ++ flat_map (λ k. told_thaw (thawed_code k s) k (beside b s)) js) (thaw_beside (thawed_code j s) j b s)
    ∙ ap (λ l. told_thaw (thawed_code j s) j s ++ l) (thaws_beside js b s)

ends_beside : (ks : List ℕ) (b : Beside) (s : State) → flat_map (told_number (beside b s)) ks ≡ flat_map (told_number s) ks
ends_beside [] b s = refl
ends_beside (k ∷ ks) b s =
    ap (λ l. l ++ flat_map (told_number (beside b s)) ks) (exec_beside 137 (exec_numbered k s) b s)
    ∙ ap (λ l. told_number s k ++ l) (ends_beside ks b s)

code_beside : (ks : List ℕ) (code : Option ℕ) (c : Container) (o : Option Program) (b : Beside) (s : State) → told_code ks code c o (beside b s) ≡ told_code ks code c o s
code_beside ks None c o b s = refl
code_beside ks (Some code) c o b s =
    ap (λ l. l ++ (die_event code c s.clock ∷ (told_mounts Action.Unmount c s.clock ++ told_status c.life.status o (renewed (ended code s.clock) c) s.clock))) (ends_beside ks b s)

main_beside : (code : Option ℕ) (n : ℕ) (c : Container) (o : Option Program) (b : Beside) (s : State) → told_code (running_numbers n (beside b s)) code c o (beside b s) ≡ told_code (running_numbers n s) code c o s
main_beside code n c o b s = code_beside (running_numbers n s) code c o b s

meet_beside : (u : Status) (code : Option ℕ) (n : ℕ) (c : Container) (o : Option Program) (b : Beside) (s : State) → told_meet u code n c o (beside b s) ≡ told_meet u code n c o s
meet_beside Status.Paused code n c o b s =
    ap (λ l. (plain_event Action.Unpause c s.clock ∷ l) ++ told_code (running_after n s) code c o (beside b s)) (thaws_beside (running_numbers n s) b s)
    ∙ ap (λ l. told_wake n c s ++ l) (code_beside (running_after n s) code c o b s)
meet_beside Status.Created code n c o b s = main_beside code n c o b s
meet_beside Status.Running code n c o b s = main_beside code n c o b s
meet_beside Status.Restarting code n c o b s = main_beside code n c o b s
meet_beside Status.Removing code n c o b s = main_beside code n c o b s
meet_beside Status.Exited code n c o b s = main_beside code n c o b s
meet_beside Status.Dead code n c o b s = main_beside code n c o b s

-- ---- a renewed life of which the same is told

-- its status is as it was, and what is told of an end
pub record IsToldAs (f : Life → Life) (l : Life) : Type 0 where
  pub status : (f l).status ≡ l.status
  pub like : (t : ℕ) → IsLike t (f l) l

status_same : (o : Option Program) (code t : ℕ) (f : Life → Life) (c : Container) → IsToldAs f c.life → told_status (f c.life).status o (renewed (ended code t) (renewed f c)) t ≡ told_status c.life.status o (renewed (ended code t) c) t
status_same o code t f c k =
    ap (λ u. told_status u o (renewed (ended code t) (renewed f c)) t) k.status ∙ status_like c.life.status o code t c (f c.life) c.life (k.like t)

code_same : (code : Option ℕ) (n : ℕ) (f : Life → Life) (c : Container) (o : Option Program) (s : State) → IsToldAs f c.life → told_code (running_numbers n (change_life n f s)) code (renewed f c) o (change_life n f s) ≡ told_code (running_numbers n s) code c o s
code_same code n f c o s k =
    code_kept (running_numbers n s) code n f c o s (k.like s.clock).mounts (λ code. status_same o code s.clock f c k)

meet_same : (u : Status) (code : Option ℕ) (n : ℕ) (f : Life → Life) (c : Container) (o : Option Program) (s : State) → IsToldAs f c.life → told_meet u code n (renewed f c) o (change_life n f s) ≡ told_meet u code n c o s
meet_same Status.Paused code n f c o s k =
    ap (λ l. (plain_event Action.Unpause c s.clock ∷ l) ++ told_code (running_after n s) code (renewed f c) o (change_life n f s)) (thaws_changed (running_numbers n s) n f s)
    ∙ ap (λ l. told_wake n c s ++ l) (code_kept (running_after n s) code n f c o s (k.like s.clock).mounts (λ code. status_same o code s.clock f c k))
meet_same Status.Created code n f c o s k = code_same code n f c o s k
meet_same Status.Running code n f c o s k = code_same code n f c o s k
meet_same Status.Restarting code n f c o s k = code_same code n f c o s k
meet_same Status.Removing code n f c o s k = code_same code n f c o s k
meet_same Status.Exited code n f c o s k = code_same code n f c o s k
meet_same Status.Dead code n f c o s k = code_same code n f c o s k

-- ---- a signal behind a change that sets the goal

-- the change sets that goal, and leaves what else is told
pub record Aims (life_change : Life → Life) (goal : Goal) (l : Life) : Type 0 where
  pub over : life_change (record l { goal = goal }) ≡ life_change l
  pub told : IsToldAs life_change (record l { goal = goal })
  pub words : (life_change l).words ≡ l.words
  pub starts : (life_change l).starts ≡ l.starts

program_same : (f : Life → Life) (l : Life) (o : Option Program) → (f l).words ≡ l.words → (f l).starts ≡ l.starts → o ≡ program_of l.words (l.starts + 1) → o ≡ program_of (f l).words ((f l).starts + 1)
program_same f l o w k named = named ∙ sym (ap (λ x. program_of x ((f l).starts + 1)) w ∙ ap (λ k. program_of l.words (k + 1)) k)

aimed_told : (life_change : Life → Life) (goal : Goal) (number n : ℕ) (s : State) (c : Container) (o : Option Program) (code : Option ℕ) → Aims life_change goal c.life → container_numbered n s ≡ Some c → o ≡ program_of c.life.words (c.life.starts + 1) → StandOnce s
    → code ≡ code_at (signal number true s.clock) (process_of (Owner.Container n) s.processes) → (meet_signal number n (change_life n life_change s)).events ≡ told_meet c.life.status code n (aimed goal c) o s
aimed_told life_change goal number n s c o code aims found named single is =
    meet_told number n (change_life n life_change s) (renewed life_change c) o code (found_renewed n life_change s c found) (program_same life_change c.life o aims.words aims.starts named) (record { execs = single.execs; processes = single.processes }) is
    ∙ (ap (λ (l : Life). told_meet l.status code n (record c { life = l }) o (change_life n life_change s)) (sym aims.over)
    ∙ (ap (λ u. told_meet u code n (renewed life_change (aimed goal c)) o (change_life n life_change s)) aims.told.status
    ∙ meet_same c.life.status code n life_change (aimed goal c) o s aims.told))

-- event kill, and then what the signal tells
by_number : (number n : ℕ) (s : State) (c d : Container) (o : Option Program) (code : Option ℕ) → container_numbered n s ≡ Some c → (tell_of (kill_event number) n s).events ++ told_meet c.life.status code n d o s ≡ kill_event number c s.clock ∷ told_meet c.life.status code c.number d o s
by_number number n s c d o code found =
    ap (λ l. l ++ told_meet c.life.status code n d o s) (told_at (kill_event number) n s c found)
    ∙ ap (λ m. kill_event number c s.clock ∷ told_meet c.life.status code m d o s) (sym (has_number n s c found))

-- a change that sets a goal decides nothing
abbrev list_goal : Goal → Bool
list_goal Goal.None = true
list_goal g = false

-- ---- a stop deadline

pub stop_deadline_told : (n : ℕ) (s : State) (c : Container) (o : Option Program) (code : Option ℕ) → container_numbered n s ≡ Some c → o ≡ program_of c.life.words (c.life.starts + 1) → StandOnce s
    → code ≡ code_at (signal 9 true s.clock) (process_of (Owner.Container n) s.processes) → (stop_deadline n s).events ≡ told_kill 9 code c o s
stop_deadline_told n s c o code found named single is =
    let y : State = clear_timer Rank.StopDeadline n s in
    let same : told_meet c.life.status code c.number c o y ≡ told_meet c.life.status code c.number c o s = meet_beside c.life.status code c.number c o (with_timers y.timers s) s in
    ap (λ z. (tell_of (kill_event 9) n y).events ++ (meet_signal 9 n z).events) (tell_still (kill_event 9) n y)
    ∙ (ap (λ l. (tell_of (kill_event 9) n y).events ++ l) (meet_told 9 n y c o code found named (record { execs = single.execs; processes = single.processes }) is)
    ∙ (by_number 9 n y c c o code found ∙ ap (λ l. kill_event 9 c s.clock ∷ l) same))

-- ---- a stop or a restart

-- a deadline leaves what is told
behind_deadline : (z : ℤ) (life_change : Life → Life) (goal : Goal) (number n : ℕ) (s : State) (c : Container) (o : Option Program) (code : Option ℕ) → Aims life_change goal c.life → container_numbered n s ≡ Some c → o ≡ program_of c.life.words (c.life.starts + 1) → StandOnce s
    → code ≡ code_at (signal number true s.clock) (process_of (Owner.Container n) s.processes) → (meet_signal number n (set_deadline z n (change_life n life_change s))).events ≡ told_meet c.life.status code n (aimed goal c) o s
behind_deadline (pos seconds) life_change goal number n s c o code aims found named single is =
    let ts : List DueAction = with_timer (lesser (timer_of Rank.StopDeadline n s) (s.clock + 1000 * seconds)) 1 n s.timers in
    aimed_told life_change goal number n (beside (with_timers ts s) s) c o code aims found named (record { execs = single.execs; processes = single.processes }) is
    ∙ meet_beside c.life.status code n (aimed goal c) o (with_timers ts s) s
behind_deadline (negsuc k) life_change goal number n s c o code aims found named single is = aimed_told life_change goal number n s c o code aims found named single is

pub halt_told : (life_change : Life → Life) (goal : Goal) (seconds : Option ℤ) (sent : Option Signal) (s : State) (c : Container) (o : Option Program) (code : Option ℕ) → Aims life_change goal c.life → container_numbered c.number s ≡ Some c → o ≡ program_of c.life.words (c.life.starts + 1) → StandOnce s
    → code ≡ code_at (signal ((unwrap_or sent c.life.stop_signal).number) true s.clock) (process_of (Owner.Container c.number) s.processes) → (halt life_change seconds sent c s).events ≡ told_kill ((unwrap_or sent c.life.stop_signal).number) code (aimed goal c) o s
halt_told life_change goal seconds sent s c o code aims found named single is =
    let n : ℕ = c.number in
    let number : ℕ = (unwrap_or sent c.life.stop_signal).number in
    let z : ℤ = (unwrap_or seconds c.life.stop_after) in
    ap (λ y. (tell_of (kill_event number) n s).events ++ (meet_signal number n (set_deadline z n (change_life n life_change y))).events) (tell_still (kill_event number) n s)
    ∙ (ap (λ l. (tell_of (kill_event number) n s).events ++ l) (behind_deadline z life_change goal number n s c o code aims found named single is)
    ∙ ap (λ l. l ++ told_meet c.life.status code n (aimed goal c) o s) (told_at (kill_event number) n s c found))

pub stopping_aims : (l : Life) → Aims stopping Goal.Stop l
stopping_aims l = record { over = refl; told = record { status = refl; like = λ t. record { mounts = refl; auto = refl; goal = refl; decided = λ none code. absurd (false≢true (ap list_goal none)) } }; words = refl; starts = refl }

pub restart_aims : (l : Life) → Aims to_restart Goal.Restart l
restart_aims l = record { over = refl; told = record { status = refl; like = λ t. record { mounts = refl; auto = refl; goal = refl; decided = λ none code. absurd (false≢true (ap list_goal none)) } }; words = refl; starts = refl }

pub remove_aims : (l : Life) → Aims to_remove Goal.Remove l
remove_aims l = record { over = refl; told = record { status = refl; like = λ t. record { mounts = refl; auto = refl; goal = refl; decided = λ none code. absurd (false≢true (ap list_goal none)) } }; words = refl; starts = refl }

-- a stop of a container that lives
pub stop_told : (seconds : Option ℤ) (sent : Option Signal) (s : State) (c : Container) (o : Option Program) (code : Option ℕ) → container_numbered c.number s ≡ Some c → o ≡ program_of c.life.words (c.life.starts + 1) → StandOnce s
    → code ≡ code_at (signal ((unwrap_or sent c.life.stop_signal).number) true s.clock) (process_of (Owner.Container c.number) s.processes) → (halt stopping seconds sent c s).events ≡ told_kill ((unwrap_or sent c.life.stop_signal).number) code (aimed Goal.Stop c) o s
stop_told seconds sent s c o code found named single is = halt_told stopping Goal.Stop seconds sent s c o code (stopping_aims c.life) found named single is

-- a restart of a container that lives
pub restart_told : (seconds : Option ℤ) (sent : Option Signal) (s : State) (c : Container) (o : Option Program) (code : Option ℕ) → container_numbered c.number s ≡ Some c → o ≡ program_of c.life.words (c.life.starts + 1) → StandOnce s
    → code ≡ code_at (signal ((unwrap_or sent c.life.stop_signal).number) true s.clock) (process_of (Owner.Container c.number) s.processes) → (halt to_restart seconds sent c s).events ≡ told_kill ((unwrap_or sent c.life.stop_signal).number) code (aimed Goal.Restart c) o s
restart_told seconds sent s c o code found named single is = halt_told to_restart Goal.Restart seconds sent s c o code (restart_aims c.life) found named single is

-- ---- a forced removal

if_quiet : (b : Bool) (n : ℕ) (s : State) → (if_it_lives b n s).events ≡ []
if_quiet false n s = refl
if_quiet true n s = refl

pub kill_to_remove_told : (n : ℕ) (s : State) (c : Container) (o : Option Program) (code : Option ℕ) → container_numbered n s ≡ Some c → o ≡ program_of c.life.words (c.life.starts + 1) → StandOnce s
    → code ≡ code_at (signal 9 true s.clock) (process_of (Owner.Container n) s.processes) → (kill_to_remove n s).events ≡ told_kill 9 code (aimed Goal.Remove c) o s
kill_to_remove_told n s c o code found named single is =
    let s1 : State = change_life n to_remove s in
    let z : State = (meet_signal 9 n s1).state in
    ap (λ y. (tell_of (kill_event 9) n s).events ++ ((meet_signal 9 n (change_life n to_remove y)).events ++ (if_it_lives (is_live (Owner.Container n) (meet_signal 9 n (change_life n to_remove y)).state) n (meet_signal 9 n (change_life n to_remove y)).state).events)) (tell_still (kill_event 9) n s)
    ∙ (ap (λ l. (tell_of (kill_event 9) n s).events ++ ((meet_signal 9 n s1).events ++ l)) (if_quiet (is_live (Owner.Container n) z) n z)
    ∙ (ap (λ l. (tell_of (kill_event 9) n s).events ++ l) (append-nil (meet_signal 9 n s1).events ∙ aimed_told to_remove Goal.Remove 9 n s c o code (remove_aims c.life) found named single is)
    ∙ by_number 9 n s c (aimed Goal.Remove c) o code found))

-- ---- behind the begin of a ticket

-- what a signal and its event kill tell is as before it
pub kill_begun : (connection container : ℕ) (asked : Asked) (signal : ℕ) (code : Option ℕ) (c : Container) (o : Option Program) (s : State) → told_kill signal code c o (begun connection container asked s) ≡ told_kill signal code c o s
kill_begun connection container asked signal code c o s =
    let z : State = begun connection container asked s in
    ap (λ l. kill_event signal c s.clock ∷ l) (meet_beside c.life.status code c.number c o (record { timers = s.timers; tickets = z.tickets; next = z.next_ticket }) s)

-- the execs and the processes stand as before it
pub once_begun : (connection container : ℕ) (asked : Asked) (s : State) → StandOnce s → StandOnce (begun connection container asked s)
once_begun connection container asked s once = record { execs = once.execs; processes = once.processes }
