use Rattle.std.proofs.Common.{◌≡◌, None, option_map, length}
use Rattle.client_model.specs.Words.{split_behind}
use Rattle.client_parts.specs.Options.{options_of}
use Rattle.client_parts.proofs.OptionLemmas.{behind}
use Rattle.client_parts.proofs.words.split.split_behind.Given as goal

-- what stands behind the words that were read goes on from what is given
abbrev pub invariant-words : goal.invariant-words
invariant-words l =
    split_behind (options_of l.options) None l.words
    ≡ option_map (behind l.given) (split_behind (options_of l.options) None l.rest)

abbrev pub decreases-words : goal.decreases-words
decreases-words l = length l.rest
