-- The rows of containers, found by the containers' ids (own: a fold for each create, in order, and where those of an id stand).
use Rattle.std.specs.Prelude.{ℕ, ◌≡◌, suc, List, [], ◌∷◌, ◌++◌, map, filter, flat_map, ⊤}
use Rattle.std.specs.Option.{option_map_or}
use Rattle.std.specs.HashMap.{HashMap, get_by_text}
use Rattle.std.specs.declared.collections.VecDeque.{VecDeque}
use Rattle.std.specs.declared.string.String.{String}
use Rattle.std.specs.declared.alloc.Global.{Global}
use Rattle.std.specs.declared.hash.FoldHasher.{FoldHasher}
use Rattle.std.specs.declared.hash.BuildHasherDefault.{BuildHasherDefault}
use Rattle.engine_text.specs.Texts.{same_bytes}
use Rattle.engine_text.specs.declared.event.Action.{Action}
use Rattle.engine_text.specs.declared.event.FoldRow.{FoldRow}
use Rattle.engine_client.specs.declared.rows.Rows.TheInside.{Inside}

-- ---- folds

-- the rows of all folds, in order
abbrev pub joined : List (List FoldRow) → List FoldRow
joined folds = flat_map (λ rows. rows) folds

-- a zero for each row of this id
abbrev pub marks : List ℕ → List FoldRow → List ℕ
marks id rows = map (λ r. 0) (filter (λ r. same_bytes r.id id) rows)

-- where the rows of an id stand, in order: a fold's place for each
abbrev pub places_in : List ℕ → List (List FoldRow) → List ℕ
places_in id [] = []
places_in id (rows ∷ folds) = marks id rows ++ map suc (places_in id folds)

-- ---- the index

-- places, by ids
abbrev pub Places : Type 0
Places = HashMap (String Global) (VecDeque ℕ Global) (BuildHasherDefault FoldHasher)

-- the places that are kept for an id
abbrev pub places_at : Places → List ℕ → List ℕ
places_at places id = option_map_or (λ there. there.items) (get_by_text places id) []

-- every row is found by its id
abbrev pub IsIndexed : Places → List (List FoldRow) → Type 0
IsIndexed places folds = (id : List ℕ) → places_at places id ≡ places_in id folds

abbrev pub rows_inside : Inside → List FoldRow
rows_inside r = joined r.folds.items

abbrev pub IsSound : Inside → Type 0
IsSound r = IsIndexed r.places r.folds.items

-- ---- events

-- it neither makes a row nor takes one away
abbrev pub IsChange : Action → Type 0
IsChange Action.Create = ⊥
IsChange Action.Destroy = ⊥
IsChange action = ⊤
