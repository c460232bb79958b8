use Rattle.std.proofs.Common.{◌∙◌, sym, ap, None, option_map}
use Rattle.client_model.specs.Words.{split_behind}
use Rattle.client_parts.specs.Options.{options_of}
use Rattle.client_parts.proofs.OptionLemmas.{behind, one_more}
use Rattle.client_parts.proofs.words.split.split_behind.Goals as goal

pub words-preserved : goal.words-preserved
words-preserved c =
    let options = options_of c.args.options.now in
    let rest = split_behind options None c.in-Some.behind.now in
    let next = rw c.in-Some.is at c.in_ok-name.ensures.option in
    c.words.invariant ∙ ap (option_map (behind c.words.given)) next ∙ one_more c.words.given (record { key = c.in-Some.name.now; value = c.in-Some.value.now }) rest
    ∙ ap (λ given. option_map (behind given) rest) (sym c.in_ok-put.ensures.ok)
