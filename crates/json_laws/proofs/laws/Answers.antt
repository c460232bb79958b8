use Rattle.json_laws.proofs.RoundTrip.{read-compact_text, compact_text-injective}
use Rattle.json_laws.proofs.NoFloat.{no_float}
use Rattle.json_laws.proofs.Utf8.{IsUtf8-compact_text}
use Rattle.json_laws.proofs.Text.{data_of-compact_text}
use Rattle.json_laws.proofs.Pairs.{put_pairs-rising, texts_of-put_pairs, words_of-words_items}
use Rattle.json_laws.proofs.Sound.{integer-sound}
use Rattle.json_laws.proofs.laws.Goals as goal

pub returns-clause-read : goal.returns-clause-read
returns-clause-read c = read-compact_text

pub returns-clause-carried : goal.returns-clause-carried
returns-clause-carried c = data_of-compact_text

pub returns-clause-differ : goal.returns-clause-differ
returns-clause-differ c = compact_text-injective

pub returns-clause-no_float : goal.returns-clause-no_float
returns-clause-no_float c = no_float

pub returns-clause-utf8 : goal.returns-clause-utf8
returns-clause-utf8 c = IsUtf8-compact_text

pub returns-clause-pairs : goal.returns-clause-pairs
returns-clause-pairs c = λ ps rising. (put_pairs-rising ps rising, texts_of-put_pairs ps rising)

pub returns-clause-words : goal.returns-clause-words
returns-clause-words c = words_of-words_items

pub returns-clause-integers : goal.returns-clause-integers
returns-clause-integers c = integer-sound
