use Rattle.std.proofs.Common.{◌≡◌, map, take}
use Rattle.serde_json.specs.View.{view}
use Rattle.journal_lines.specs.Fields.{mount_entry}
use Rattle.journal_lines.proofs.writing.values.mounts_value.Given as goal

abbrev pub invariant-mounts : goal.invariant-mounts
invariant-mounts l = map view l.items.items ≡ map mount_entry (take l.mount-index l.mounts)
