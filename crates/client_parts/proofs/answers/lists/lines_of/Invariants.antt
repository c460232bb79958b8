use Rattle.std.proofs.Common.{◌≡◌, ◌++◌, List, ℕ, option_map, drop}
use Rattle.serde_json.specs.View.{items_view}
use Rattle.client_model.specs.Bodies.{read_items, container_line}
use Rattle.client_parts.proofs.answers.lists.lines_of.Given as goal

abbrev pub invariant-items : goal.invariant-items
invariant-items l =
    option_map (λ (rest : List (List ℕ)). l.lines ++ rest) (read_items container_line (items_view (drop l.item-index l.items)))
    ≡ read_items container_line (items_view l.fn.items)
