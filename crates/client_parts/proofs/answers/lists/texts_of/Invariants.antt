use Rattle.std.proofs.Common.{◌≡◌, ◌++◌, List, ℕ, option_map, drop}
use Rattle.serde_json.specs.View.{items_view}
use Rattle.json_laws.specs.Pairs.{words_of}
use Rattle.client_parts.proofs.answers.lists.texts_of.Given as goal

abbrev pub invariant-items : goal.invariant-items
invariant-items l =
    option_map (λ (rest : List (List ℕ)). l.words ++ rest) (words_of (items_view (drop l.item-index l.items))) ≡ words_of (items_view l.fn.items)
