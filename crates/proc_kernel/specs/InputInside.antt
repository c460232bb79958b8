-- own: pieces of input as their list, and a place for one.
use Rattle.std.specs.Prelude.{◌≡◌, ℕ, ◌-◌, ◌^◌, List, length, min, sum_by}
use Rattle.proc_kernel.specs.declared.input.Input.TheInside as input
use Rattle.proc_kernel.specs.declared.input.Place.TheInside as place

-- How many bytes these pieces have, as 64 bits tell it.
abbrev pub told_size : List (List ℕ) → ℕ
told_size pieces = min (sum_by length pieces) (2 ^ 64 - 1)

-- The pieces.
abbrev pub pieces_inside : input.Inside → List (List ℕ)
pieces_inside i = i.pieces

-- Their bytes are counted.
abbrev pub IsSized : input.Inside → Type 0
IsSized i = i.size ≡ told_size i.pieces

-- How many places there are.
abbrev pub places_inside : place.Inside → ℕ
places_inside p = length p.node

-- It is one.
abbrev pub IsOnePlace : place.Inside → Type 0
IsOnePlace p = length p.node ≡ 1
