-- A call that is made ready may be committed.
use Rattle.std.proofs.Common.{◌≡◌, ℕ, ◌<◌, ◌≤◌, ◌^◌, List, Option, None, refl, sym, subst, arith, length}
use Rattle.engine_text.specs.Scripts.{Program}
use Rattle.engine_text.specs.declared.call.Call.{Call}
use Rattle.engine_text.specs.declared.container.Container.{Container}
use Rattle.engine_text.specs.declared.container.Removed.{Removed}
use Rattle.engine_text.specs.declared.exec.Exec.{Exec}
use Rattle.engine_text.specs.declared.log.KeptLogs.{KeptLogs}
use Rattle.engine_text.specs.declared.step.DueAction.{DueAction}
use Rattle.engine_text.specs.declared.ticket.Asked.{Asked}
use Rattle.engine_text.specs.declared.step.Step.{Step}
use Rattle.machine_model.proofs.Laws.{IsMomentOf, kept_call, timely_call}
use Rattle.machine_model.specs.State.{State, change_life}
use Rattle.machine_model.specs.Tickets.{begun}
use Rattle.machine_model.specs.Call.{outcome_of}
use Rattle.machine_model.specs.Consistency.{IsConsistent}
use Rattle.machine_model.specs.History.{IsLawful, greatest_moment}
use Rattle.machine_model.specs.Step.{at_moment}
use Rattle.machine_events.specs.Fit.{AreFew, AreTimely, CanRemove, CanSettle, IsScriptOf}
use Rattle.machine_events.specs.EndMemories.{IsEndMemoryOf}
use Rattle.machine_events.specs.ChangedLives.{changed_life}
use Rattle.machine_events.specs.Memory.{Memory, Room, HasRoom, standing}
use Rattle.machine_events.specs.Removing.{HasRemovalRoom}
use Rattle.machine_events.specs.declared.end_memory.EndMemory.{EndMemory}
use Rattle.container_table.specs.declared.life_change.LifeChange.{LifeChange}
use Rattle.machine_events.proofs.SettleLemmas.{few_renew}
use Rattle.machine_model.proofs.ItemLemmas.{All-imp}
use Rattle.call_plans.proofs.CreateLemmas.{has_new_exec_id, has_new_id, is_above, is_exec_above}
use Rattle.call_plans.specs.Making.{Makes}
use Rattle.call_plans.specs.Parts.{MachineParts}
use Rattle.call_plans.specs.Needs.{Need, Nothing, FreeName, Unused, End, TicketEnd, Launch, Removal, Ticket, Listing, Process, NewContainer, NewExec, NewVolume, CanStart, Brings, Fits, HasSpace, space_of}
use Rattle.call_plans.specs.Plans.{need_of}
use Rattle.call_plans.specs.RunEnds.{Serves}
use Rattle.call_plans.specs.Prepared.{asked_by, IsFor}
use Rattle.call_plans.specs.declared.prepared.Prepared.{Prepared}

pub few : (s : State) → IsConsistent s → AreFew s.containers
few s k =
    let most : s.step_count ≤ 2 ^ 57 = omega (arith, k.counts.steps) in
    All-imp (λ (c : Container). c.life.starts ≤ s.step_count) (λ (c : Container). c.life.starts < 2 ^ 63) (λ c h. omega (arith, h, most)) s.containers k.counts.starts

-- at a call's moment the processes' times are near
pub timely : (t : ℕ) (s : State) → IsMomentOf s t → AreTimely (at_moment t s)
timely t s h = record { clock = h.until; processes = h.times }

-- the container's main process may end in a state that has what follows, with this room
settled : (n : ℕ) (brought : EndMemory) (room : Room) (z : State) → Serves n brought z → AreFew z.containers → z.next_pid < 2 ^ 63 → z.clock ≤ greatest_moment → (m : Memory) → HasRoom m → m.room ≡ room → z.execs ≡ m.state.execs → z.timers ≡ m.state.timers → z.removed ≡ m.state.removed → z.kept ≡ m.state.kept
    → CanSettle n brought room z
settled n brought room z serves starts pid until m h same execs timers removed kept =
    subst (λ (r : Room). CanSettle n brought r z) same (record {
      clock = until;
      launch = record { few = starts; pid = pid; named = serves.named };
      remove = record {
        removed = subst (λ (l : List Removed). length l < m.room.removed) (sym removed) h.removed;
        kept = subst (λ (l : List KeptLogs). length l < m.room.kept) (sym kept) h.kept;
        numbers = serves.numbers;
        empty = serves.empty;
        logs = serves.logs;
      };
      execs = subst (λ (l : List Exec). length l ≤ m.room.scratch) (sym execs) h.execs;
      timers = subst (λ (l : List DueAction). length l < m.room.timers) (sym timers) h.timers;
    })

-- at a moment
pub settles : (n : ℕ) (brought : EndMemory) (t : ℕ) (m : Memory) → Serves n brought (at_moment t m.state) → IsConsistent m.state → t ≤ greatest_moment → HasRoom m → CanSettle n brought m.room (at_moment t m.state)
settles n brought t m serves k until room =
    settled n brought m.room (at_moment t m.state) serves (few m.state k) (omega (arith, k.numbers.next_pid, k.counts.steps)) until m room refl refl refl refl refl

-- behind the begin of a ticket, with what its call notes
settles_as : (n : ℕ) (brought : EndMemory) (noted : LifeChange) (connection : ℕ) (asked : Asked) (t : ℕ) (m : Memory) → Serves n brought (change_life n (changed_life noted) (begun connection n asked (at_moment t m.state)))
    → IsConsistent m.state → t ≤ greatest_moment → HasRoom m → CanSettle n brought m.room (change_life n (changed_life noted) (begun connection n asked (at_moment t m.state)))
settles_as n brought noted connection asked t m serves k until room =
    settled n brought m.room (change_life n (changed_life noted) (begun connection n asked (at_moment t m.state))) serves (few_renew n noted (begun connection n asked (at_moment t m.state)) (few m.state k))
    (omega (arith, k.numbers.next_pid, k.counts.steps)) until m room refl refl refl refl refl

-- the container may be removed
removes : (n : ℕ) (brought : EndMemory) (t : ℕ) (m : Memory) → IsEndMemoryOf n None m.state brought → HasRemovalRoom m → CanRemove n brought m.room (at_moment t m.state)
removes n brought t m of room = record { removed = room.removed; kept = room.kept; numbers = of.numbers; empty = of.empty; logs = of.logs }

-- the container may be launched
starts : (n : ℕ) (script : Option Program) (t : ℕ) (m : Memory) → IsScriptOf n script m.state → IsConsistent m.state → HasRoom m → CanStart n script (standing t m)
starts n script t m named k room = record {
  launch = record { few = few m.state k; pid = omega (arith, k.numbers.next_pid, k.counts.steps); named = named };
  spare = room.spare;
}

fits : (need : Need) (t : ℕ) (m : Memory) → Brings need t m.state → IsConsistent m.state → IsMomentOf m.state t → HasSpace (space_of need) m → Fits need (standing t m)
fits Nothing t m brings k at room = tt
fits (FreeName name) t m brings k at room = brings
fits (Unused name) t m brings k at room = record { stands = brings.stands; unused = brings.unused }
fits (End n sent e brought) t m brings k at room = record {
  signal = brings.1;
  timely = timely t m.state at;
  room = room.execs;
  end = λ ended. settles n brought t m (brings.0 ended) k at.until room;
  spare = room.spare;
}
fits (TicketEnd connection n asked noted sent e brought) t m brings k at room = record {
  signal = brings.1;
  begin = record { room = room.ticket; number = omega (arith, k.numbers.next_ticket, k.counts.steps) };
  timely = timely t m.state at;
  room = room.end.execs;
  timers = room.deadline;
  end = λ ended. settles_as n brought noted connection asked t m (brings.0 ended) k at.until room.end;
  spare = room.end.spare;
}
fits (Launch n script) t m brings k at room = starts n script t m brings k room
fits (Removal n brought) t m brings k at room = removes n brought t m brings room
fits Ticket t m brings k at room = record { room = room; number = omega (arith, k.numbers.next_ticket, k.counts.steps) }
fits Listing t m brings k at room = room.execs
fits Process t m brings k at room = record { pid = omega (arith, k.numbers.next_pid, k.counts.steps); spare = room }
fits (NewContainer c made) t m brings k at room = record {
  room = record { place = room.place; volumes = room.volumes; uses = room.uses };
  volumes = brings.volumes;
  number = omega (arith, k.numbers.next_number, k.counts.steps);
  above = is_above c.number m.state k brings.number;
  id = has_new_id c.id m.state k brings.id;
  name = brings.name;
}
fits (NewExec x) t m brings k at room = record {
  room = room;
  above = is_exec_above x.number m.state k brings.number;
  id = has_new_exec_id x.id m.state k brings.id;
  number = omega (arith, k.numbers.next_number, k.counts.steps);
}
fits (NewVolume name) t m brings k at room = record { free = brings; room = room }

pub ready : (p : Prepared) (w : MachineParts) (connection moment : ℕ) (c : Call) → IsConsistent w.memory.state → IsLawful w.memory.state (Step.Call connection moment c)
    → Makes p moment w.memory.state (outcome_of c connection) → HasSpace (space_of (need_of p.plan)) w.memory → IsFor p w (asked_by connection moment c)
ready p w connection moment c k lawful makes room = record {
  makes = makes;
  fits = fits (need_of p.plan) moment w.memory makes.brings k (timely_call w.memory.state connection moment c k lawful) room;
  kept = kept_call w.memory.state connection moment c k lawful;
}
