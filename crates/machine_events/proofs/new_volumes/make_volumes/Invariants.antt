use Rattle.std.proofs.Common.{◌≡◌, ◌+◌, ◌≤◌, length, vec_len}
use Rattle.machine_events.specs.NewVolumes.{AreMissing, with_volumes}
use Rattle.machine_events.proofs.new_volumes.make_volumes.Given as goal

abbrev pub invariant-loop-made : goal.invariant-loop-made
invariant-loop-made l = record {
  volumes : with_volumes l.made.items l.volumes.volumes ≡ with_volumes l.initial.made.items l.initial.volumes.volumes;
  missing : AreMissing l.made.items l.volumes.volumes;
  room : length l.volumes.volumes + vec_len l.made ≤ l.volumes.room;
  uses : l.volumes.uses ≡ l.initial.volumes.uses;
  use_room : l.volumes.use_room ≡ l.initial.volumes.use_room;
}

abbrev pub decreases-loop-made : goal.decreases-loop-made
decreases-loop-made l = vec_len l.made
