use Rattle.std.proofs.Common.{drop}
use Rattle.serde_json.specs.Data.{string}
use Rattle.api_json.proofs.WrittenLemmas.{Lacks, items_left}
use Rattle.api_json.proofs.written.last_words.Given as goal

abbrev pub invariant-words : goal.invariant-words
invariant-words l = Lacks l.fn.out l.out (items_left string (drop l.word-index l.words)) (items_left string l.words)
