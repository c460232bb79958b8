use Rattle.std.proofs.Common.{take, subst, sym, ◌∙◌}
use Rattle.std.proofs.lemmas.List.{take_all}
use Rattle.engine_text.specs.Filter.{AreRowsUtf8}
use Rattle.engine_text.proofs.Utf8Lemmas.{take_next, AreRowsUtf8-push}
use Rattle.engine_text.proofs.filter.Filter.from_vec.Goals as goal

pub items-preserved : goal.items-preserved
items-preserved c =
    let items = c.as_slice-item-items.result.now in
    let i = c.items.item-index in
    let item = c.item-item.result in
    subst AreRowsUtf8 (sym (take_next items i item c.items-test.true c.item-item.is))
    (AreRowsUtf8-push (take i items) item c.items.invariant c.utf8-2.ensures)

pub invariant_of-result : goal.invariant_of-result
invariant_of-result c =
    let items = c.as_slice-item-items.result.now in
    let all = take_all c.items.item-index items c.items-test.false in
    subst AreRowsUtf8 (all ∙ c.as_slice-item-items.ensures.value) c.items.invariant
