use Rattle.std.proofs.Common.{◌≡◌, ◌++◌, map, take}
use Rattle.engine_text.specs.declared.mounts.Mount.{Mount}
use Rattle.machine_model.specs.EventTexts.{mount_event}
use Rattle.container_table.specs.Logs.{container_in}
use Rattle.machine_events.proofs.foretell.tell_mounts.Given as goal

abbrev pub invariant-loop-m : goal.invariant-loop-m
invariant-loop-m l = l.out.items ≡ l.initial.out.items ++ map (λ (m : Mount). mount_event l.action m.volume (container_in l.h) l.moment) (take l.m-index l.mounts)
