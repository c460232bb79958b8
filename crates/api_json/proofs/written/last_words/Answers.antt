use Rattle.api_json.proofs.WrittenLemmas.{lacks_word_less, lacks_words_none}
use Rattle.api_json.proofs.written.last_words.Goals as goal

pub words-preserved : goal.words-preserved
words-preserved c =
    lacks_word_less c.args.words.now c.words.word-index c.word-item.result c.as_str.result.now c.words-test.true c.word-item.is c.as_str.ensures c.in_ok-string.ensures c.words.invariant

pub returns : goal.returns
returns c = lacks_words_none c.args.words.now c.words.word-index c.words-test.false c.end_array.ensures c.words.invariant
