use Rattle.std.proofs.Common.{◌≡◌, take}
use Rattle.machine_events.specs.NewVolumes.{missing_volumes}
use Rattle.machine_events.proofs.new_volumes.missing_volumes.Given as goal

abbrev pub invariant-loop-m : goal.invariant-loop-m
invariant-loop-m l = l.made.items ≡ missing_volumes l.moment (take l.m-index l.mounts) l.volumes.volumes
