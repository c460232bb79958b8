-- Data that a line of text carries (own: a line is compact JSON and a line end).
use Rattle.std.specs.Prelude.{ℕ, ◌≤◌, List, [], ◌∷◌, ◌++◌, ⊤}
use Rattle.serde_json.specs.Data.{Data, depth, Items, no_items, item, Members, no_members, member}
use Rattle.serde_json.specs.Read.{max_depth}
use Rattle.serde_json.specs.Written.{compact_text}
use Rattle.json_laws.specs.Plain.{IsPlain}
use Rattle.json_laws.specs.Utf8.{HasUtf8}

-- plain, UTF-8, and nested no deeper than n
abbrev pub IsSound : ℕ → Data → Type 0
IsSound n d = IsPlain d × HasUtf8 d × (depth d ≤ n)

-- each item is
abbrev pub AreSound : ℕ → Items → Type 0
AreSound n no_items = ⊤
AreSound n (item d ds) = IsSound n d × AreSound n ds

-- each member's value is
abbrev pub HasSound : ℕ → Members → Type 0
HasSound n no_members = ⊤
HasSound n (member k d ms) = IsSound n d × HasSound n ms

-- what a text can carry: no text that is read nests deeper than 127
abbrev pub IsCarried : Data → Type 0
IsCarried d = IsSound max_depth d

-- the compact text and a line end
unfoldable pub line_text : Data → List ℕ
line_text d = compact_text d ++ 10 ∷ []
