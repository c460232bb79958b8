use Rattle.std.proofs.Common.{◌≡◌, ◌++◌, take}
use Rattle.machine_events.specs.NewVolumes.{told_volumes}
use Rattle.machine_events.proofs.foretell_create.tell_volumes.Given as goal

abbrev pub invariant-loop-v : goal.invariant-loop-v
invariant-loop-v l = l.out.items ≡ l.initial.out.items ++ told_volumes (take l.v-index l.volumes) l.moment
