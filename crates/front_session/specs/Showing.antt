-- By what the next piece is shown that a session writes (own: by the request whose bytes it was given, but on a connection that is taken over).
use Rattle.std.specs.Prelude.{ℕ, List, Bool, true, false, if◌then◌else◌, Option, Some, None}
use Rattle.lab_shown.specs.Asked.{asked_by}
use Rattle.lab_shown.specs.Listed.{head_alone}
use Rattle.lab_shown.specs.declared.asking.Asked.{Asked}
use Rattle.lab_shown.specs.declared.asking.Asked.TheVariants.{Listed}
use Rattle.front_session.specs.declared.standing.Stage.{Stage}
use Rattle.front_session.specs.declared.standing.Stage.TheVariants.{Open}

-- all is handed on
abbrev pub is_open : Stage → Bool
is_open Open = true
is_open stage = false

-- where the front stands so behind these bytes, which it handed on
abbrev pub shown_by : Stage → List ℕ → Option Asked
shown_by stage bytes = if is_open stage then None else asked_by bytes

-- the head of a list of which one item is shown is kept back until the list comes
abbrev pub kept_back : Option Asked → List ℕ → Option Bool
kept_back (Some Listed) piece = head_alone piece
kept_back shows piece = None
