use Rattle.std.proofs.Common.{map, ap, ◌∙◌}
use Rattle.serde_json.specs.View.{view}
use Rattle.journal_lines.specs.Fields.{mount_entry}
use Rattle.json_objects.proofs.ValueLemmas.{shown_more, all_shown}
use Rattle.journal_lines.proofs.writing.values.mounts_value.Goals as goal

pub mounts-preserved : goal.mounts-preserved
mounts-preserved c =
    ap (map view) c.in_ok-push.ensures.items
    ∙ shown_more mount_entry c.mounts.items.items c.in_ok-mount_value.field-0 c.args.mounts.now c.mounts.mount-index c.mount-item.result
    c.mounts-test.true c.mount-item.is c.in_ok-mount_value.ensures c.mounts.invariant

pub returns : goal.returns
returns c = all_shown mount_entry c.mounts.items c.args.mounts.now c.mounts.mount-index c.mounts-test.false c.mounts.invariant
