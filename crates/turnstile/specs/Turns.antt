-- What a call of the turnstile says of a pass (own: turns of one value).
use Rattle.std.specs.Prelude.{◌≡◌, ℕ, ◌≤◌, List, [], ◌∷◌, ◌++◌, true, false, Option, Some, None}
use Rattle.atomic_table.specs.Table.{Me}
use Rattle.atomic_table.specs.Seated.{TableId}
use Rattle.atomic_table.specs.declared.shared.Seat.{Seat}
use Rattle.turnstile.specs.Steps.{steps_by, ByOthers, ByOne}
use Rattle.turnstile.specs.Claims.{Each, Stands}
use Rattle.turnstile.specs.Views.{entered, waited, raised, left, claims, admits, admittee}
use Rattle.turnstile.specs.Plays.{Meets, Learned}
use Rattle.turnstile.specs.declared.view.View.{View}
use Rattle.turnstile.specs.declared.chronicle.Tried.{Tried}
use Rattle.turnstile.specs.declared.chronicle.Tried.TheVariants.{Done, Busy}

module _ {V S C : Type 0} where
  -- a pass of this turnstile, which is between turns
  pub record IsPass (table : TableId) (p : Seat (Option V) (View S C)) : Type 0 where
    pub own_table : p.table_id ≡ table
    pub empty : p.me.1 ≡ []
    pub live : p.me.0.spent ≡ false
    pub between : p.me.0.holds_turn ≡ false

  -- the same pass, whatever it knows
  abbrev pub IsSame : Seat (Option V) (View S C) → Seat (Option V) (View S C) → Type 0
  IsSame p q = (q.table_id ≡ p.table_id) × (q.id ≡ p.id)

  -- the same pass after a call, again between turns
  abbrev pub StaysPass : TableId → Seat (Option V) (View S C) → Seat (Option V) (View S C) → Type 0
  StaysPass table p q = IsPass table q × IsSame p q

  -- it holds the turn, and the slot is empty
  abbrev pub InTurn : Seat (Option V) (View S C) → Type 0
  InTurn p = (p.me.1 ≡ (0, None) ∷ []) × (p.me.0.spent ≡ false) × (p.me.0.holds_turn ≡ true)

module _ {S C : Type 0} where
  -- the pass has this charter, under which the history is legal
  abbrev pub IsUnder : (C → List S → Type 0) → View S C → C → List S → Type 0
  IsUnder legal v c h = (v.charter ≡ Some c) × legal c h

module _ {S C : Type 0} (author : S → Option ℕ) (legal : C → List S → Type 0) where
  -- the pass has the turn, and the value is out
  pub record Met {V : Type 0} (history : V → List S) (charter : V → C) (v : View S C)
      (n : Me (Option V) (View S C)) (value : V) : Type 0 where
    pub after : n ≡ (entered v (history value), (0, None) ∷ [])
    pub meets : Meets author legal history charter v value

  -- the property holds of every legal history that the pass may meet in its next turn
  abbrev pub EachMet : View S C → (C → List S → Type 0) → Type 0
  EachMet v P = (c : C) (h : List S) → v.charter ≡ Some c → legal c h
      → ByOthers author v.number v.seen h → P c h

  -- a job took the history that the pass has seen, all of it, to the one that it has seen then
  pub record Acted (answers : C → List S → List S → Type 0) (c : C) (v w : View S C) : Type 0 where
    pub own : ByOne author v.number v.seen w.seen
    pub answer : answers c v.seen w.seen
    pub seen_legal : legal c w.seen
    pub after : w ≡ left (raised author v w.seen)

  -- one turn, in which a job took the history met to the one that the pass has seen then
  pub record Turned (answers : C → List S → List S → Type 0) (v w : View S C) : Type 0 where
    pub charter : C
    pub charter_is : v.charter ≡ Some charter
    pub met : List S
    pub others : ByOthers author v.number v.seen met
    -- no number that the pass claims stands among the others' steps
    pub stand : Each (Stands author met others.more) (claims v)
    pub own : ByOne author v.number met w.seen
    pub answer : answers charter met w.seen
    pub seen_legal : legal charter w.seen
    pub own_calls : w.own_calls ≡ v.own_calls ++ steps_by author v.number own.more
    pub found_busy : v.found_busy ≤ w.found_busy
    pub after : w ≡ left (raised author (waited v w.found_busy) w.seen)

  -- a turn that only looks
  pub record Looked (v w : View S C) : Type 0 where
    pub charter : C
    pub charter_is : v.charter ≡ Some charter
    pub seen_legal : legal charter w.seen
    pub others : ByOthers author v.number v.seen w.seen
    pub found_busy : v.found_busy ≤ w.found_busy
    pub after : w ≡ left (raised author (waited v w.found_busy) w.seen)
    pub own_calls : w.own_calls ≡ v.own_calls

-- the pass looked, and admitted a new one of this number, which has seen as much and has no call
pub record IsAdmitted {V S C : Type 0} (author : S → Option ℕ) (legal : C → List S → Type 0)
    (number : ℕ) (table : TableId) (old new result : Seat (Option V) (View S C)) : Type 0 where
  pub looked_to : View S C
  pub looked : Looked author legal old.me.0 looked_to
  pub left : new.me.0 ≡ admits number looked_to
  pub pass : IsPass table result
  pub is : result.me.0 ≡ admittee number looked_to
  pub learned : Learned author legal result.me.0

module _ {A : Type 0} where
  -- what holds where the job was run
  abbrev pub IfDone : Tried A → (A → Type 0) → Type 0
  IfDone (Done a) P = P a
  IfDone Busy P = Unit {0}

  -- what holds where the door was held
  abbrev pub IfBusy : Tried A → Type 0 → Type 0
  IfBusy (Done a) P = Unit {0}
  IfBusy Busy P = P
