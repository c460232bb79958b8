use Rattle.std.proofs.Common.{map, ap, ◌∙◌}
use Rattle.serde_json.specs.Data.{string}
use Rattle.serde_json.specs.View.{view}
use Rattle.json_objects.proofs.ValueLemmas.{shown_more, all_shown, words_same}
use Rattle.json_objects.proofs.words.words_value.Goals as goal

pub words-preserved : goal.words-preserved
words-preserved c =
    let shows = c.in_ok-try_from_str.ensures ∙ ap string c.as_str.ensures in
    ap (map view) c.in_ok-push.ensures.items ∙ shown_more string c.words.items.items c.in_ok-try_from_str.field-0 c.args.words.now c.words.word-index c.word-item.result
    c.words-test.true c.word-item.is shows c.words.invariant

pub returns : goal.returns
returns c =
    all_shown string c.words.items c.args.words.now c.words.word-index c.words-test.false c.words.invariant ∙ words_same c.args.words.now
