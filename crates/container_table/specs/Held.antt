-- The containers of a table, and what its indexes keep of them (own).
use Rattle.std.specs.Prelude.{◌≡◌, ℕ, ◌==◌, nat_lt, List, [], ◌∷◌, Bool, true, false, Option, Some, None, map, Result, MatchResult}
use Rattle.std.specs.List.{AllByRecursion}
use Rattle.std.specs.Ordering.{nat_cmp, is_lt, ordering_then}
use Rattle.std.specs.declared.cmp.Ordering.TheVariants.{Less, Greater}
use Rattle.engine_text.specs.Texts.{same_bytes, begins_with}
use Rattle.container_table.specs.Logs.{container_in, room_in}
use Rattle.container_table.specs.Order.{in_order, IsInOrder, AreApart}
use Rattle.container_table.specs.Search.{HoldsOf, Parts}
use Rattle.container_table.specs.Starts.{front}
use Rattle.std.specs.declared.cmp.Ordering.{Ordering}
use Rattle.std.specs.declared.boxed.Box.{Box}
use Rattle.std.specs.Cmp.Lexicographic.{slice_cmp}
use Rattle.engine_text.specs.declared.container.Container.{Container}
use Rattle.container_table.specs.declared.boxes.Boxes.{Boxes}
use Rattle.container_table.specs.declared.held.Held.{Held}
use Rattle.container_table.specs.declared.entries.Key.{Key}
use Rattle.container_table.specs.declared.entries.Key.TheVariants.{Id, Name}
use Rattle.container_table.specs.declared.entries.Entry.{Entry}
use Rattle.container_table.specs.Tables.{numbered}

-- The containers in these boxes, with their logs.
abbrev pub contents : {Z : Type 0} → List (Box Held Z) → List Container
contents boxes = map (λ b. container_in b.value) boxes

-- How many more records each of their logs has room for.
abbrev pub rooms_of : {Z : Type 0} → List (Box Held Z) → List ℕ
rooms_of boxes = map (λ b. room_in b.value) boxes

-- The numbers of these containers.
abbrev pub numbers_of : List Container → List ℕ
numbers_of cs = map (λ c. c.number) cs

-- The text by which an index is sorted.
abbrev pub key_text : Key → Container → List ℕ
key_text Id c = c.id
key_text Name c = c.name

-- What stands in the index for a container.
abbrev pub entry_of : Key → Container → Entry
entry_of key c = record { start = front 8 (key_text key c); number = c.number }

-- Whether a container's text comes before another's, in byte order.
abbrev pub is_sorted_before : Key → Container → Container → Bool
is_sorted_before key c d = is_lt (slice_cmp nat_cmp (key_text key c) (key_text key d))

-- Whether a container's number is below another's.
abbrev pub is_numbered_before : Container → Container → Bool
is_numbered_before c d = nat_lt c.number d.number

-- The text of what is found.
abbrev pub found_text : Key → Option Container → List ℕ
found_text key None = []
found_text key (Some c) = key_text key c

-- How an entry's text compares to a text: by their first bytes, then whole.
abbrev pub entry_order : Key → List Container → List ℕ → Entry → Ordering
entry_order key cs text e =
    ordering_then (slice_cmp nat_cmp e.start (front 8 text)) (slice_cmp nat_cmp (found_text key (numbered e.number cs)) text)

-- Numbers rise, and stand beside the boxes.
pub record IsBoxed (b : Boxes) : Type 0 where
  pub order : IsInOrder is_numbered_before (contents b.list.items)
  pub numbers : b.numbers.items ≡ numbers_of (contents b.list.items)

-- The containers in the order of an index.
abbrev pub sorted_by : Key → List Container → List Container
sorted_by key cs = in_order (is_sorted_before key) cs

-- The index has all containers in its order, and no two have one text.
pub record IsIndex (key : Key) (cs : List Container) (entries : List Entry) : Type 0 where
  pub apart : AreApart (is_sorted_before key) cs
  pub is : entries ≡ map (entry_of key) (sorted_by key cs)

-- No container has that text.
abbrev pub IsFresh : Key → List ℕ → List Container → Type 0
IsFresh key text cs = AllByRecursion (λ c. same_bytes (key_text key c) text ≡ false) cs

-- Where a text was found in the order of an index, or would stand.
abbrev pub IsLocated : Key → List Container → List ℕ → Result ℕ ℕ → Type 0
IsLocated key cs text r =
    MatchResult r (HoldsOf (λ c. same_bytes (key_text key c) text ≡ true) (sorted_by key cs))
    (Parts (λ c. slice_cmp nat_cmp (key_text key c) text ≡ Less) (λ c. slice_cmp nat_cmp (key_text key c) text ≡ Greater) (sorted_by key cs))

-- Where a number was found, or would stand.
abbrev pub IsPlaced : List Container → ℕ → Result ℕ ℕ → Type 0
IsPlaced cs n r =
    MatchResult r (HoldsOf (λ c. (c.number == n) ≡ true) cs)
    (Parts (λ c. nat_cmp c.number n ≡ Less) (λ c. nat_cmp c.number n ≡ Greater) cs)

-- Whether the id of the first of these, if there is one, begins with the reference.
abbrev pub first_begins : List ℕ → List Container → Bool
first_begins reference [] = false
first_begins reference (c ∷ cs) = begins_with c.id reference
