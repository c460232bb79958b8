-- What each step tells the pass that makes it (own: the steps of the turnstile).
use Rattle.std.specs.Prelude.{◌≡◌, ◌≢◌, ℕ, List, [], ◌∷◌, ◌++◌, Option, Some}
use Rattle.atomic_table.specs.Table.{Me, rest}
use Rattle.turnstile.specs.Steps.{steps_by}
use Rattle.turnstile.specs.Claims.{Each, EachFront, Fresh, Stands}
use Rattle.turnstile.specs.Views.{claims, ClaimsAll, entered, refused, raised, left}
use Rattle.turnstile.specs.declared.view.View.{View}

module _ {S C : Type 0} (author : S → Option ℕ) (legal : C → List S → Type 0) where
  -- what holds of a pass at any time
  pub record Learned (v : View S C) : Type 0 where
    pub charter : C
    pub charter_is : v.charter ≡ Some charter
    pub seen_legal : legal charter v.seen
    -- each list of calls is that of the history seen
    pub own : Each (λ c. c.1 ≡ steps_by author c.0 v.seen) (claims v)
    pub fronts : EachFront v.seen v.ends

  module _ {V : Type 0} (history : V → List S) (charter : V → C) where
    -- what a pass meets when it has the turn: this value
    pub record Meets (v : View S C) (value : V) : Type 0 where
      pub met_legal : legal (charter value) (history value)
      pub more : List S
      pub goes_on : history value ≡ v.seen ++ more
      pub one_charter : v.charter ≡ Some (charter value)
      pub stand : Each (Stands author (history value) more) (claims v)
      -- the root: each call bears its number, or one that it admitted or that one's input
      pub no_fresh : v.number ≡ 4294967295
          → (n : ℕ) → Fresh v.next n → steps_by author n (history value) ≡ []
      -- the root that claims all numbers, since those that it admitted were joined in: nobody else
      -- made a step behind what it has seen
      pub whole : v.number ≡ 4294967295 → ClaimsAll v → more ≡ []

    -- the door was open: the pass has the turn and the value
    pub record Entered (m n : Me (Option V) (View S C)) : Type 0 where
      pub value : V
      pub after : n ≡ (entered m.0 (history value), (0, Some value) ∷ m.1)
      pub meets : Meets m.0 value

    -- the door taken, or found held
    abbrev pub Enters : Me (Option V) (View S C) → ℕ → Me (Option V) (View S C) → Type 0
    Enters m r n = (r ≡ 0 → Entered m n) × (r ≢ 0 → n ≡ (refused m.0, m.1))

module _ {V S C : Type 0} where
  -- the count raised to the steps of a history
  abbrev pub RaisesTo : (S → Option ℕ) → List S
      → Me (Option V) (View S C) → Me (Option V) (View S C) → Type 0
  RaisesTo author h m n = n ≡ (raised author m.0 h, m.1)

  -- the value home again, and the door opened
  abbrev pub Leaves : Me (Option V) (View S C) → Me (Option V) (View S C) → Type 0
  Leaves m n = n ≡ (left m.0, rest m.1)

  -- a look at the door alone
  abbrev pub Learns : (S → Option ℕ) → (C → List S → Type 0)
      → Me (Option V) (View S C) → Me (Option V) (View S C) → Type 0
  Learns author legal m n = (n ≡ m) × Learned author legal m.0
