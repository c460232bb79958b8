use Rattle.std.proofs.Common.{refl}
use Rattle.api_json.specs.List.{listed_data}
use Rattle.api_json.specs.Values.{list_of}
use Rattle.api_json.proofs.WrittenLemmas.{lacks_item_less, lacks_items_none, compact}
use Rattle.api_json.proofs.list.list_body.Goals as goal

pub items-preserved : goal.items-preserved
items-preserved c =
    lacks_item_less listed_data c.args.items.now c.items.item-index c.item-item.result c.items-test.true c.item-item.is c.in_ok-write_item.ensures c.items.invariant

pub returns : goal.returns
returns c =
    let all = lacks_items_none listed_data c.args.items.now c.items.item-index c.items-test.false c.in_ok-end_array.ensures c.items.invariant in
    compact (list_of listed_data c.args.items.now) refl all c.written_text.ensures
