use Rattle.std.proofs.Common.{◌≡◌, drop}
use Rattle.serde_json.specs.View.{items_view}
use Rattle.json_laws.specs.Pairs.{words_of}
use Rattle.journal_lines.proofs.ListLemmas.{behind}
use Rattle.journal_lines.proofs.reading.lists.words_of.Given as goal

abbrev pub invariant-items : goal.invariant-items
invariant-items l = behind l.words (words_of (items_view (drop l.item-index l.items))) ≡ words_of (items_view l.fn.items)
