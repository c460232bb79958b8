use Rattle.std.proofs.Common.{◌∙◌, ◌++◌, ◌∷◌, [], ap, sym, Bool, true, false, append-nil}
use Rattle.client_parts.proofs.OptionLemmas.{value_added}
use Rattle.client_parts.proofs.words.options.values_of.Goals as goal
use Rattle.client_parts.proofs.words.options.values_of.Goals.{then-is+in_ok-copy+in_ok-push, else-is}

pub given-preserved : goal.given-preserved
given-preserved c =
    let name = c.args.name.now in
    let given = c.args.given.now in
    let before = c.given.values in
    let added = λ (b : Bool). value_added name given c.given.pair-index c.pair-item.result b before c.if-is.values c.given-test.true c.pair-item.is in
    elim c.if-is.branch [
      | then-is+in_ok-copy+in_ok-push w ↦
          added true (sym w.if-is.true ∙ c.is.ensures) c.given.invariant
          (w.values-is ∙ w.in_ok-push.ensures.ok ∙ ap (λ t. before ++ t ∷ []) w.in_ok-copy.ensures)
      | else-is w ↦ added false (sym w.if-is.false ∙ c.is.ensures) c.given.invariant (w.values-is ∙ sym (append-nil before))
    ]
