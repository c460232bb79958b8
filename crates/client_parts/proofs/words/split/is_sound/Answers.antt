use Rattle.std.proofs.Common.{◌≡◌, ◌∙◌, rules, tests}
use Rattle.std.specs.List.{list_all}
use Rattle.std.proofs.lemmas.Iterator.{YieldsList-from_slice}
use Rattle.std.proofs.lemmas.Iterator.Search.{all_from_yields_List}
use Rattle.client_model.specs.Words.{is_sound_option}
use Rattle.client_parts.proofs.OptionLemmas.{all_by}
use Rattle.client_parts.proofs.words.split.is_sound.Goals as goal

pub returns : goal.returns
returns c =
    let options = c.args.options.now in
    let given = c.args.given.now in
    let all : c.all.result ≡ list_all (λ o. is_sound_option given (o.0.now, o.1)) options
    = all_from_yields_List (λ o. is_sound_option given (o.0.now, o.1)) _ _ c.all.result c.all.ensures.ran (YieldsList-from_slice _ c.iter.ensures.rest) (λ x b q k. search (rules, tests)) in
    all ∙ all_by (is_sound_option given) options
