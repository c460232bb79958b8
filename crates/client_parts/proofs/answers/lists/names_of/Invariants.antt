use Rattle.std.proofs.Common.{◌≡◌, ◌++◌, List, ℕ, option_map, drop, codes}
use Rattle.serde_json.specs.View.{items_view}
use Rattle.api_json.specs.Event.{text_at}
use Rattle.client_model.specs.Bodies.{read_items}
use Rattle.client_parts.proofs.answers.lists.names_of.Given as goal

abbrev pub invariant-items : goal.invariant-items
invariant-items l =
    option_map (λ (rest : List (List ℕ)). l.names ++ rest) (read_items (text_at (codes "Name")) (items_view (drop l.item-index l.items)))
    ≡ read_items (text_at (codes "Name")) (items_view l.fn.items)
