-- The options of a command as the code has them (own).
use Rattle.std.specs.Prelude.{ℕ, List, map}
use Rattle.client_model.specs.Words.{Options}
use Rattle.client_model.specs.declared.words.Kind.{Kind}
use denote.Ref.{Bor}

-- names, each with its kind
abbrev pub options_of : List (Bor (List ℕ) × Kind) → Options
options_of options = map (λ o. (o.0.now, o.1)) options
