use Rattle.std.proofs.Common.{[], ◌∷◌, ap, sym, ◌∙◌, append_assoc}
use Rattle.engine_text.specs.Texts.{same_bytes}
use Rattle.reading_calls.proofs.FilterLemmas.{joined, unjoined}
use Rattle.reading_calls.proofs.filters.is_joined.Goals as goal

pub returns-in-Some : goal.returns-in-Some
returns-in-Some c =
    c.is_assigned.ensures
    ∙ (joined c.args.text.now c.args.key.now (61 ∷ c.args.value.now) c.in-Some.rest.now c.in-Some.ensures.cases.0 c.in-Some.ensures.cases.1
    ∙ ap (same_bytes c.args.text.now) (sym (append_assoc c.args.key.now (61 ∷ []) c.args.value.now)))

pub returns-in-None : goal.returns-in-None
returns-in-None c =
    unjoined c.args.text.now c.args.key.now (61 ∷ c.args.value.now) c.in-None.ensures.cases
    ∙ ap (same_bytes c.args.text.now) (sym (append_assoc c.args.key.now (61 ∷ []) c.args.value.now))
