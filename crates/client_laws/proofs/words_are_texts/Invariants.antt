use Rattle.std.proofs.Common.{take}
use Rattle.engine_text.specs.Words.{AreUtf8}
use Rattle.client_laws.proofs.words_are_texts.Given as goal

abbrev pub invariant-words : goal.invariant-words
invariant-words l = AreUtf8 (take l.word-index l.words)
