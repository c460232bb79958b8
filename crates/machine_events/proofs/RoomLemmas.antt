-- Room that was made stands once more room is made.
use Rattle.std.proofs.Common.{◌≡◌, ℕ, ◌≤◌, List, sym, ap, subst, arith, length}
use Rattle.std.specs.Prelude.{Result, Ok, Err, OnOk}
use Rattle.engine_text.specs.declared.container.Container.{Container}
use Rattle.engine_text.specs.declared.log.OwnedLog.{OwnedLog}
use Rattle.engine_text.specs.declared.owner.Owner.{Owner}
use Rattle.proc_kernel.specs.Tables.{length_at, process_of}
use Rattle.machine_model.specs.State.{State}
use Rattle.machine_events.specs.Memory.{Memory, Room}
use Rattle.machine_events.specs.Ops.{HasEndRoom, HasEndRoomOf, HasOpRoom, HasRecordRoom}
use Rattle.machine_events.specs.Rooms.{FitsLog, FitsOutput}

end_kept : (m k : Memory) → k.state ≡ m.state → k.room ≡ m.room → HasEndRoom m → HasEndRoom k
end_kept m k state room h = record {
  execs = let e : length k.state.execs ≡ length m.state.execs = ap (λ (s : State). length s.execs) state in
      let f : k.room.scratch ≡ m.room.scratch = ap (λ (r : Room). r.scratch) room in omega (arith, e, f, h.execs);
  timers = let e : length k.state.timers ≡ length m.state.timers = ap (λ (s : State). length s.timers) state in
      let f : k.room.timers ≡ m.room.timers = ap (λ (r : Room). r.timers) room in omega (arith, e, f, h.timers);
  removed = let e : length k.state.removed ≡ length m.state.removed = ap (λ (s : State). length s.removed) state in
      let f : k.room.removed ≡ m.room.removed = ap (λ (r : Room). r.removed) room in omega (arith, e, f, h.removed);
  kept = let e : length k.state.kept ≡ length m.state.kept = ap (λ (s : State). length s.kept) state in
      let f : k.room.kept ≡ m.room.kept = ap (λ (r : Room). r.kept) room in omega (arith, e, f, h.kept);
}

end_of_kept : (o : Owner) (m k : Memory) → k.state ≡ m.state → k.room ≡ m.room → HasEndRoomOf o m → HasEndRoomOf o k
end_of_kept (Owner.Container n) m k state room h = end_kept m k state room h
end_of_kept (Owner.Exec n) m k state room h = tt

record_kept : (o : Owner) (m k : Memory) → k.state ≡ m.state → k.logs ≡ m.logs → k.outputs ≡ m.outputs → HasRecordRoom o m → HasRecordRoom o k
record_kept (Owner.Container n) m k state logs outputs h =
    subst (λ (l : List ℕ). FitsLog n k.state.containers l) (sym logs)
    (subst (λ (cs : List Container). FitsLog n cs m.logs) (sym (ap (λ (s : State). s.containers) state)) h)
record_kept (Owner.Exec n) m k state logs outputs h =
    subst (λ (l : List ℕ). FitsOutput n k.state.outputs l) (sym outputs)
    (subst (λ (os : List OwnedLog). FitsOutput n os m.outputs) (sym (ap (λ (s : State). s.outputs) state)) h)

-- room for an op, made one after the other
pub op_room : {T E : Type 0} (r : Result T E) (o : Owner) (a b l : Memory) (n : ℕ) → HasEndRoomOf o a → HasRecordRoom o b → b.state ≡ a.state → b.room ≡ a.room
    → l.state ≡ b.state → l.room ≡ b.room → l.logs ≡ b.logs → l.outputs ≡ b.outputs → n ≡ length_at (process_of o b.state.processes)
    → OnOk r (2 ≤ l.spare) → OnOk r (n ≤ l.bytes) → OnOk r (HasOpRoom o l)
op_room (Ok x) o a b l n end kept s1 r1 s2 r2 logs outputs is spare bytes = record {
  end = end_of_kept o b l s2 r2 (end_of_kept o a b s1 r1 end);
  kept = record_kept o b l s2 logs outputs kept;
  length = let e : length_at (process_of o l.state.processes) ≡ length_at (process_of o b.state.processes) = ap (λ (s : State). length_at (process_of o s.processes)) s2 in omega (arith, e, is, bytes);
  spare = omega (arith, spare);
}
op_room (Err e) o a b l n end kept s1 r1 s2 r2 logs outputs is spare bytes = tt
