-- A front between two reads: what it keeps, and what it still does (own).
use Rattle.std.specs.Prelude.{ℕ, ◌≡◌, ◌<◌, ◌⊎◌, List, [], ◌++◌, length}
use Rattle.front_session.specs.Fronts.{Deed, handing, IsFronted}
use Rattle.front_session.specs.declared.standing.Stage.{Stage}
use Rattle.front_session.specs.declared.standing.Stage.TheVariants.{Within, Open, Closed, Ended, Lost}

-- the bytes that are to be handed on, and those behind them, which are not looked at yet; and where it stands
pub record Front : Type 0 where
  pub owed : List ℕ
  pub ahead : List ℕ
  pub stage : Stage

abbrev pub front_at : List ℕ → List ℕ → Stage → Front
front_at owed ahead stage = record { owed = owed; ahead = ahead; stage = stage }

-- a front that was given nothing
abbrev pub new_front : Front
new_front = front_at [] [] (Within 0)

-- so many of the bytes are handed on as they are, and those behind them are fronted; or all are handed on, where they are fewer
abbrev pub GoesWithin : ℕ → List ℕ → List Deed → Type 0
GoesWithin count bytes deeds =
    ((body : List ℕ) × (behind : List ℕ) × (later : List Deed) × (length body ≡ count) × (bytes ≡ body ++ behind)
    × (deeds ≡ handing body ++ later) × IsFronted behind later)
    ⊎ ((length bytes < count) × (deeds ≡ handing bytes))

-- what is done with the bytes ahead, and with those that are still to come of the connection: behind an answer that closes it nothing; where
-- its source ended none come; and of what is behind an answer that was lost nothing is said
abbrev pub Goes : Stage → List ℕ → List ℕ → List Deed → Type 0
Goes (Within count) ahead more deeds = GoesWithin count (ahead ++ more) deeds
Goes Open ahead more deeds = deeds ≡ handing (ahead ++ more)
Goes Closed ahead more deeds = deeds ≡ []
Goes Ended ahead more deeds = (more ≡ []) × (deeds ≡ handing ahead)
Goes Lost ahead more deeds = ⊥

-- what a front still does, where these bytes are still to come
abbrev pub DoesStill : Front → List ℕ → List Deed → Type 0
DoesStill f more deeds = (later : List Deed) × (deeds ≡ handing f.owed ++ later) × Goes f.stage f.ahead more later

-- having done this, it still does the rest
abbrev pub Does : Front → List Deed → Front → Type 0
Does old deeds new = (more : List ℕ) (later : List Deed) → DoesStill new more later → DoesStill old more (deeds ++ later)
