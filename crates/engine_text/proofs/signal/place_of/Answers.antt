use Rattle.std.proofs.Common.{◌≡◌, refl, ◌∙◌, rules, tests, position}
use Rattle.std.proofs.lemmas.Iterator.{YieldsList-from_slice}
use Rattle.std.proofs.lemmas.Iterator.Search.{position_from_yields_List}
use Rattle.engine_text.specs.Texts.{same_letters}
use Rattle.engine_text.specs.Signal.{signal_names}
use Rattle.engine_text.specs.declared.signal.TheConstants.{SIGNAL_NAMES}
use Rattle.engine_text.proofs.signal.place_of.Goals as goal

pub returns-clause-place : goal.returns-clause-place
returns-clause-place c =
    let name = c.args.name.now in
    let here : position (λ known. same_letters name known.now) SIGNAL_NAMES ≡ position (same_letters name) signal_names = refl in
    let found : c.position.result ≡ position (λ known. same_letters name known.now) SIGNAL_NAMES
    = position_from_yields_List (λ known. same_letters name known.now) _ _ c.position.result c.position.ensures.ran (YieldsList-from_slice _ c.iter.ensures.rest) (λ x b q k. search (rules, tests)) in
    found ∙ here
