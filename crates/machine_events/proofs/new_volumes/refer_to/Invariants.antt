use Rattle.std.proofs.Common.{◌≡◌, ◌++◌, map, take}
use Rattle.engine_text.specs.declared.mounts.Mount.{Mount}
use Rattle.volume_table.specs.Volumes.{use_of}
use Rattle.machine_events.proofs.new_volumes.refer_to.Given as goal

abbrev pub invariant-loop-m : goal.invariant-loop-m
invariant-loop-m l = record {
  volumes : l.volumes.volumes ≡ l.initial.volumes.volumes;
  uses : l.volumes.uses ≡ l.initial.volumes.uses ++ map (λ (m : Mount). use_of m.volume l.number) (take l.m-index l.mounts);
  use_room : l.volumes.use_room ≡ l.initial.volumes.use_room;
}
