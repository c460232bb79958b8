use Rattle.std.proofs.Common.{◌≡◌, drop}
use Rattle.serde_json.specs.View.{items_view}
use Rattle.api_json.specs.MountForms.{add_mounts}
use Rattle.api_json.proofs.mount_forms.add_mounts.Given as goal

abbrev pub invariant-items : goal.invariant-items
invariant-items l = add_mounts l.mounts (items_view (drop l.value-index l.items)) ≡ add_mounts l.fn.before (items_view l.fn.items)
