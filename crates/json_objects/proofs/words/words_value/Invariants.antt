use Rattle.std.proofs.Common.{◌≡◌, map, take}
use Rattle.serde_json.specs.Data.{string}
use Rattle.serde_json.specs.View.{view}
use Rattle.json_objects.proofs.words.words_value.Given as goal

abbrev pub invariant-words : goal.invariant-words
invariant-words l = map view l.items.items ≡ map string (take l.word-index l.words)
