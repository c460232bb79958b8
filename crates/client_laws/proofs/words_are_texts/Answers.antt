use Rattle.std.proofs.Common.{take, subst, sym}
use Rattle.std.proofs.lemmas.List.{take_all}
use Rattle.engine_text.specs.Words.{AreUtf8}
use Rattle.engine_text.proofs.Utf8Lemmas.{take_next, AreUtf8-push}
use Rattle.client_laws.proofs.words_are_texts.Goals as goal

pub words-preserved : goal.words-preserved
words-preserved c =
    let words = c.args.words.now in
    let i = c.words.word-index in
    let word = c.word-item.result in
    subst AreUtf8 (sym (take_next words i word c.words-test.true c.word-item.is))
    (AreUtf8-push (take i words) word c.words.invariant c.utf8-2.ensures)

pub returns : goal.returns
returns c = subst AreUtf8 (take_all c.words.word-index c.args.words.now c.words-test.false) c.words.invariant
