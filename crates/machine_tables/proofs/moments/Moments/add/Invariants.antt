use Rattle.std.proofs.Common.{◌≡◌, ◌++◌, map, take}
use Rattle.container_table.specs.Lists.{last_of}
use Rattle.engine_text.specs.declared.event.Event.{Event}
use Rattle.machine_tables.proofs.moments.Moments.add.Given as goal

abbrev pub invariant-loop-e : goal.invariant-loop-e
invariant-loop-e l = record {
  moments : l.self.moments ≡ last_of 65536 (l.initial.self.moments ++ map (λ (e : Event). e.moment) (take l.e-index l.events));
  room : l.self.room ≡ l.initial.self.room;
}
