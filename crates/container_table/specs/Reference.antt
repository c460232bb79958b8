-- Which container a reference names (Docker Engine API v1.43: id or name; own: a prefix of an id comes last).
use Rattle.std.specs.Prelude.{ℕ, List, [], ◌∷◌, Option, Some, None, find, filter}
use Rattle.engine_text.specs.Texts.{same_bytes, begins_with, without_slash}
use Rattle.engine_text.specs.declared.container.Container.{Container}
use Rattle.engine_text.specs.declared.container.Found.{Found}

-- The only one of these, None where there is none, Many where there are several.
abbrev pub only : List Container → Found
only [] = Found.None
only (c ∷ []) = Found.One c.number
only (c ∷ d ∷ cs) = Found.Many

-- The only one whose id begins with the reference.
abbrev pub by_prefix : List Container → List ℕ → Found
by_prefix cs r = only (filter (λ c. begins_with c.id r) cs)

-- The one that was found by its name, else by a prefix.
abbrev pub by_name : Option Container → List Container → List ℕ → Found
by_name (Some c) cs r = Found.One c.number
by_name None cs r = by_prefix cs r

-- The one that was found by its id, else the one whose name is the reference without one leading slash.
abbrev pub by_id : Option Container → List Container → List ℕ → Found
by_id (Some c) cs r = Found.One c.number
by_id None cs r = by_name (find (λ c. same_bytes c.name (without_slash r)) cs) cs r

-- The container that a reference names: by full id, else by name, else by prefix.
abbrev pub container_by : List Container → List ℕ → Found
container_by cs r = by_id (find (λ c. same_bytes c.id r) cs) cs r
