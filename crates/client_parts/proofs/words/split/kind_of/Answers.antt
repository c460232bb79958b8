use Rattle.std.proofs.Common.{◌≡◌, rules, tests, option_map, find}
use Rattle.std.proofs.lemmas.Iterator.{YieldsList-from_slice}
use Rattle.std.proofs.lemmas.Iterator.Search.{find_from_yields_List}
use Rattle.engine_text.specs.Texts.{same_bytes}
use Rattle.client_parts.proofs.OptionLemmas.{kind_by}
use Rattle.client_parts.proofs.words.split.kind_of.Goals as goal

pub returns-in-Some : goal.returns-in-Some
returns-in-Some c =
    let options = c.args.options.now in
    let word = c.args.word.now in
    let found : option_map (λ b. b.now) c.find.result ≡ find (λ o. same_bytes o.0.now word) options
    = find_from_yields_List (λ o. same_bytes o.0.now word) _ _ c.find.result c.find.ensures.ran (YieldsList-from_slice _ c.iter.ensures.rest) (λ x b q k. search (rules, tests)) in
    rw c.in-Some.is at (kind_by options word c.find.result found)

pub returns-in-None : goal.returns-in-None
returns-in-None c =
    let options = c.args.options.now in
    let word = c.args.word.now in
    let found : option_map (λ b. b.now) c.find.result ≡ find (λ o. same_bytes o.0.now word) options
    = find_from_yields_List (λ o. same_bytes o.0.now word) _ _ c.find.result c.find.ensures.ran (YieldsList-from_slice _ c.iter.ensures.rest) (λ x b q k. search (rules, tests)) in
    rw c.in-None.is at (kind_by options word c.find.result found)
