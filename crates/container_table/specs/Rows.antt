-- Items in rows of one length (own: so that a change moves few of them).
use Rattle.std.specs.Prelude.{◌≡◌, ℕ, ◌<◌, ◌≤◌, List, [], ◌∷◌, ◌++◌, length, slice_set}
use Rattle.std.specs.VecDeque.{deque_capacity}
use Rattle.std.specs.declared.collections.VecDeque.{VecDeque}

-- Items in order, and for how many there is memory.
pub record Listed (T : Type 0) : Type 0 where
  pub items : List T
  pub places : ℕ

-- With that item at i, in the place of the one that stands there.
abbrev pub with_item_at : {T : Type 0} → Listed T → ℕ → T → Listed T
with_item_at l i x = record l { items = slice_set l.items i x }

-- How many items a row holds.
abbrev pub row_length : ℕ
row_length = 2048

-- The items of these rows, in order.
abbrev pub joined : {T Z : Type 0} → List (VecDeque T Z) → List T
joined [] = []
joined (row ∷ rows) = row.items ++ joined rows

-- A row has memory for its length and isn't longer; behind one that isn't full stands nothing.
pub record IsRow {T Z : Type 0} (row : VecDeque T Z) (behind : List T) : Type 0 where
  pub room : row_length ≤ deque_capacity row
  pub fits : length row.items ≤ row_length
  pub full : length row.items < row_length → behind ≡ []

-- Each of these is such a row.
abbrev pub AreRows : {T Z : Type 0} → List (VecDeque T Z) → Type 0
AreRows [] = Unit {0}
AreRows (row ∷ rows) = IsRow row (joined rows) × AreRows rows
