use Rattle.std.proofs.Common.{◌≡◌, ◌++◌, take}
use Rattle.api_json.proofs.lists.join_words.Given as goal

abbrev pub invariant-second : goal.invariant-second
invariant-second l = l.words ≡ l.fn.first ++ take l.word-index l.second
