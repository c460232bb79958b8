use Rattle.std.proofs.Common.{◌≡◌, take}
use Rattle.client_parts.proofs.words.few.copied.Given as goal

abbrev pub invariant-words : goal.invariant-words
invariant-words l = l.again ≡ take l.word-index l.words
