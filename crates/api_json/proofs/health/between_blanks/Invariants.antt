use Rattle.std.proofs.Common.{◌≡◌, ◌++◌, IsUtf8, length}
use Rattle.api_json.specs.Health.{between_blanks}
use Rattle.api_json.proofs.health.between_blanks.Given as goal

-- what is left is a text, and with its words all words are there
abbrev pub invariant-parts : goal.invariant-parts
invariant-parts l = IsUtf8 l.left × (l.words ++ between_blanks l.left ≡ between_blanks l.fn.text)

abbrev pub decreases-parts : goal.decreases-parts
decreases-parts l = length l.left
