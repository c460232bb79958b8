-- What stands behind what is noted and the deadline of a stop or a restart, and behind the begin of a ticket.
use Rattle.std.proofs.Common.{◌≡◌, ℕ, ◌+◌, ◌*◌, ◌<◌, ◌≤◌, ℤ, pos, negsuc, Bool, true, false, List, [], ◌∷◌, refl, ap, sym, ◌∙◌, subst, arith, length, suc, if◌then◌else◌}
use Rattle.std.proofs.lemmas.Int.{to_z-of_z}
use mir.Syntax.{w32}
use mir.Val.{SFits, of_z, to_z}
use Rattle.container_table.specs.Lists.{placed}
use Rattle.container_table.specs.Timers.{cleared, is_listed_before, is_timer, with_timer}
use Rattle.container_table.specs.declared.rank.Rank.{Rank}
use Rattle.engine_text.specs.declared.exec.Exec.{Exec}
use Rattle.engine_text.specs.declared.step.DueAction.{DueAction}
use Rattle.engine_text.specs.declared.ticket.Asked.{Asked}
use Rattle.machine_model.specs.State.{State, change_life, timer_of}
use Rattle.machine_model.specs.Chain.{Died}
use Rattle.machine_model.specs.EventTexts.{kill_event}
use Rattle.machine_model.specs.Effects.Halt.{lesser, set_deadline}
use Rattle.machine_model.specs.Effects.Meet.{meet_signal}
use Rattle.machine_model.specs.Tickets.{begun}
use Rattle.machine_events.specs.Fit.{AreTimely, CanEndAs, CanEndBy, CanSettle, HasEnded}
use Rattle.machine_events.specs.Halts.{CanHalt, halted, life_change_of}
use Rattle.machine_events.specs.Memory.{Memory, Room}
use Rattle.machine_events.specs.declared.halting.Halting.{Halting}
use Rattle.machine_events.specs.declared.end_memory.EndMemory.{EndMemory}
use Rattle.machine_events.proofs.DiedToldLemmas.{behind_event}
use Rattle.machine_events.proofs.SettleLemmas.{fewer, next_alike, remove_alike, tell_still}

-- ---- a timer more

placed_either : (b : Bool) (t d : DueAction) (ds ps : List DueAction) → length ps ≤ suc (length ds) → length (if b then d ∷ ps else t ∷ d ∷ ds) ≤ suc (length (d ∷ ds))
placed_either true t d ds ps e = omega (arith, e)
placed_either false t d ds ps e = omega arith

placed_length : (t : DueAction) (ds : List DueAction) → length (placed is_listed_before t ds) ≤ suc (length ds)
placed_length t [] = omega arith
placed_length t (d ∷ ds) = placed_either (is_listed_before d t) t d ds (placed is_listed_before t ds) (placed_length t ds)

pub timer_more : (moment rank n : ℕ) (ds : List DueAction) → length (with_timer moment rank n ds) ≤ length ds + 1
timer_more moment rank n ds =
    let more = placed_length (record { moment = moment; rank = rank; number = n }) (cleared rank n ds) in
    let less = fewer (is_timer rank n) ds in
    omega (arith, more, less)

-- a change of the timers alone
pub settle_timers : (n : ℕ) (brought : EndMemory) (room : Room) (ts : List DueAction) (s : State) → CanSettle n brought room s → length ts < room.timers → CanSettle n brought room (record s { timers = ts })
settle_timers n brought room ts s h few = record {
  clock = h.clock;
  launch = next_alike n brought.script s (record s { timers = ts }) refl refl h.launch;
  remove = remove_alike n brought room s (record s { timers = ts }) (record { removed = refl; kept = refl; numbers = refl; outputs = refl }) h.remove;
  execs = h.execs;
  timers = few;
}

-- ---- what is noted and the deadline

-- seconds that are passed on are the same
pub set_as : (z : ℤ) (n : ℕ) (s t : State) → SFits w32 z → s ≡ t → set_deadline (to_z w32 (of_z w32 z)) n s ≡ set_deadline z n t
set_as z n s t fits e = ap (λ k. set_deadline k n s) (to_z-of_z w32 z fits) ∙ ap (set_deadline z n) e

settle_deadline : (z : ℤ) (n : ℕ) (brought : EndMemory) (room : Room) (s : State) → CanSettle n brought room s → length s.timers + 1 < room.timers → CanSettle n brought room (set_deadline z n s)
settle_deadline (pos k) n brought room s h few =
    let more = timer_more (lesser (timer_of Rank.StopDeadline n s) (s.clock + 1000 * k)) 1 n s.timers in
    settle_timers n brought room (with_timer (lesser (timer_of Rank.StopDeadline n s) (s.clock + 1000 * k)) 1 n s.timers) s h (omega (arith, few, more))
settle_deadline (negsuc k) n brought room s h few = h

execs_deadline : (z : ℤ) (n : ℕ) (s : State) → (set_deadline z n s).execs ≡ s.execs
execs_deadline (pos k) n s = refl
execs_deadline (negsuc k) n s = refl

pub few_execs : (z : ℤ) (halting : Halting) (n : ℕ) (room : Room) (s : State) → length s.execs ≤ room.scratch → length (set_deadline z n (change_life n (life_change_of halting) s)).execs ≤ room.scratch
few_execs z halting n room s few = subst (λ (l : List Exec). length l ≤ room.scratch) (sym (execs_deadline z n (change_life n (life_change_of halting) s))) few

pub timely_deadline : (z : ℤ) (halting : Halting) (n : ℕ) (s : State) → AreTimely s → AreTimely (set_deadline z n (change_life n (life_change_of halting) s))
timely_deadline (pos k) halting n s h = record { clock = h.clock; processes = h.processes }
timely_deadline (negsuc k) halting n s h = record { clock = h.clock; processes = h.processes }

-- ---- a halt in its parts

pub halted_state : (halting : Halting) (z : ℤ) (signal n : ℕ) (s : State) → (meet_signal signal n (set_deadline z n (change_life n (life_change_of halting) s))).state ≡ (halted halting z signal n s).state
halted_state halting z signal n s =
    sym (ap (λ y. (meet_signal signal n (set_deadline z n (change_life n (life_change_of halting) y))).state) (tell_still (kill_event signal) n s))

pub halted_died : (halting : Halting) (z : ℤ) (signal n : ℕ) (s : State) → (meet_signal signal n (set_deadline z n (change_life n (life_change_of halting) s))).died ≡ (halted halting z signal n s).died
halted_died halting z signal n s =
    sym (behind_event (kill_event signal) n s (λ y. (meet_signal signal n (set_deadline z n (change_life n (life_change_of halting) y))).died))

-- what follows is ready where the signal ends the process
pub end_halted : (z : ℤ) (halting : Halting) (signal n : ℕ) (brought : EndMemory) (room : Room) (s : State) → CanEndAs (life_change_of halting) (halted halting z signal n) n brought room s → length s.timers + 1 < room.timers
    → CanEndBy (meet_signal signal n) n brought room (set_deadline z n (change_life n (life_change_of halting) s))
end_halted z halting signal n brought room s h few ended =
    settle_deadline z n brought room (change_life n (life_change_of halting) s) (h (subst (λ (d : List Died). HasEnded d) (halted_died halting z signal n s) ended)) few

-- ---- behind the begin of a ticket

pub timely_begun : (connection container : ℕ) (asked : Asked) (s : State) → AreTimely s → AreTimely (begun connection container asked s)
timely_begun connection container asked s h = record { clock = h.clock; processes = h.processes }

-- the run may be ended behind it too
pub halt_begun : (halting : Halting) (z : ℤ) (signal n : ℕ) (brought : EndMemory) (connection container : ℕ) (asked : Asked) (m a : Memory) → a.state ≡ begun connection container asked m.state → a.room ≡ m.room → a.spare ≡ m.spare
    → CanHalt halting z signal n brought (record m { state = begun connection container asked m.state }) → CanHalt halting z signal n brought a
halt_begun halting z signal n brought connection container asked m a state room spare h =
    let y : State = begun connection container asked m.state in
    record {
      timely = subst (λ (s : State). AreTimely s) (sym state) h.timely;
      execs = subst (λ (r : Room). length a.state.execs ≤ r.scratch) (sym room) (subst (λ (s : State). length s.execs ≤ m.room.scratch) (sym state) h.execs);
      end = subst (λ (r : Room). CanEndAs (life_change_of halting) (halted halting z signal n) n brought r a.state) (sym room)
          (subst (λ (s : State). CanEndAs (life_change_of halting) (halted halting z signal n) n brought m.room s) (sym state) h.end);
      deadline = subst (λ (r : Room). length a.state.timers + 1 < r.timers) (sym room) (subst (λ (s : State). length s.timers + 1 < m.room.timers) (sym state) h.deadline);
      spare = subst (λ k. 0 < k) (sym spare) h.spare;
    }
