use Rattle.std.proofs.Common.{take, subst, sym, ◌∙◌}
use Rattle.std.proofs.lemmas.List.{take_all}
use Rattle.engine_text.specs.Words.{AreUtf8}
use Rattle.engine_text.proofs.Utf8Lemmas.{take_next, AreUtf8-push}
use Rattle.engine_text.proofs.words.Words.from_vec.Goals as goal

pub items-preserved : goal.items-preserved
items-preserved c =
    let items = c.as_slice-item-items.result.now in
    let i = c.items.item-index in
    let item = c.item-item.result in
    subst AreUtf8 (sym (take_next items i item c.items-test.true c.item-item.is))
    (AreUtf8-push (take i items) item c.items.invariant c.utf8-2.ensures)

pub invariant_of-result : goal.invariant_of-result
invariant_of-result c =
    let items = c.as_slice-item-items.result.now in
    let all = take_all c.items.item-index items c.items-test.false in
    subst AreUtf8 (all ∙ c.as_slice-item-items.ensures.value) c.items.invariant
