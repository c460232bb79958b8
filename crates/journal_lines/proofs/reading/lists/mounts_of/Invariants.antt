use Rattle.std.proofs.Common.{◌≡◌, drop}
use Rattle.serde_json.specs.View.{items_view}
use Rattle.journal_lines.specs.Reading.Lists.{mounts_of}
use Rattle.journal_lines.proofs.ListLemmas.{behind}
use Rattle.journal_lines.proofs.reading.lists.mounts_of.Given as goal

abbrev pub invariant-items : goal.invariant-items
invariant-items l = behind l.mounts (mounts_of (items_view (drop l.item-index l.items))) ≡ mounts_of (items_view l.fn.items)
