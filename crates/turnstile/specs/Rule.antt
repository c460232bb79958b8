-- The rule that every step of the turnstile keeps, in five parts (own: one value, one history, passes).
-- Word 0 is the door: 1 while a pass holds the turn. Word 1 is the count of steps. The slot has the value.
use Rattle.std.specs.Prelude.{◌≡◌, ℕ, ◌<◌, ◌≤◌, List, [], ◌∷◌, ◌++◌, length, true, false, Option, Some}
use mathlib.Core.Option.{some, none}
use lib.ListN.{get_elem?}
use Rattle.atomic_table.specs.Table.{State}
use Rattle.turnstile.specs.Steps.{steps_by}
use Rattle.turnstile.specs.Claims.{Each, EachFront, Fresh, Stands}
use Rattle.turnstile.specs.Views.{claims, weight, turns, total}
use Rattle.turnstile.specs.declared.view.View.{View}

module _ {V S C : Type 0} where
  -- One holder: the door is 1 exactly where one pass holds the turn, and no two hold it.
  pub record OneHolder (door count : ℕ) (s : State (Option V) (View S C)) : Type 0 where
    pub words : s.words ≡ door ∷ count ∷ []
    pub at_most_one : door ≤ 1
    pub counted : total turns s.views ≡ door

  -- Numbers differ: none is claimed twice, and a fresh one is neither claimed nor used.
  pub record NumbersDiffer (author : S → Option ℕ) (now : List S) (next : ℕ)
      (s : State (Option V) (View S C)) : Type 0 where
    pub once : (n : ℕ) → total (weight n) s.views ≤ 1
    pub fresh : (n : ℕ) → Fresh next n
        → (total (weight n) s.views ≡ 0) × (steps_by author n now ≡ [])

  -- The value tells the history: at home it has it and the charter; it is out while the turn is held.
  pub record ValueTellsHistory (history : V → List S) (charter : V → C) (now : List S) (all : C)
      (door : ℕ) (s : State (Option V) (View S C)) : Type 0 where
    pub home : door ≡ 0
        → (y : V) × (s.homes ≡ some (Some y) ∷ []) × (history y ≡ now) × (charter y ≡ all)
    pub out : door ≡ 1 → s.homes ≡ none ∷ []

module _ {S C : Type 0} where
  -- The history is the longest that a pass has seen: one that isn't spent has seen all of it.
  pub record LongestSeen (now : List S) (views : List (View S C)) : Type 0 where
    pub id : ℕ
    pub view : View S C
    pub at : get_elem? views id ≡ some view
    pub live : view.spent ≡ false
    pub all : view.seen ≡ now

module _ {S C : Type 0} (author : S → Option ℕ) (legal : C → List S → Type 0) where
  -- One history: what a pass has seen is legal and begins the one history, and all have one charter.
  pub record OneHistory (now : List S) (all : C) (v : View S C) : Type 0 where
    pub seen_legal : legal all v.seen
    pub more : List S
    pub goes_on : now ≡ v.seen ++ more
    pub one_charter : v.charter ≡ Some all

  -- Numbers differ, as one pass has it: each of its claims has all steps of that number.
  pub record NumbersTold (now more : List S) (next : ℕ) (v : View S C) : Type 0 where
    pub stand : Each (Stands author now more) (claims v)
    pub pair_low : v.pair ≡ true → v.number < 2147483646
    pub root_next : v.number ≡ 4294967295 → v.next ≡ next

  -- The holder has seen all.
  abbrev pub HolderHasSeen : List S → View S C → Type 0
  HolderHasSeen now v = v.holds_turn ≡ true → v.seen ≡ now

  -- what the rule says of a pass that isn't spent, where now is the history
  pub record Fits (now : List S) (all : C) (next : ℕ) (v : View S C) : Type 0 where
    pub one_history : OneHistory now all v
    pub numbers : NumbersTold now one_history.more next v
    pub holder_has_seen : HolderHasSeen now v
    -- what was seen at the last join begins what is seen
    pub fronts : EachFront v.seen v.ends

  module _ {V : Type 0} (history : V → List S) (charter : V → C) where
    -- the rule: some history, charter, next number of the root, and state of the door
    pub record IsKept (s : State (Option V) (View S C)) : Type 0 where
      pub now : List S
      pub all : C
      pub next : ℕ
      pub door : ℕ
      pub one_holder : OneHolder door (length now) s
      pub now_legal : legal all now
      pub longest : LongestSeen now s.views
      pub each : (j : ℕ) (v : View S C) → get_elem? s.views j ≡ some v → v.spent ≡ false
          → Fits now all next v
      pub numbers_differ : NumbersDiffer author now next s
      pub value_tells_history : ValueTellsHistory history charter now all door s
