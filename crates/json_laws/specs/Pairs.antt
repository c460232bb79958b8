-- Objects of texts and lists of texts (RFC 8259, sections 4 and 5).
use Rattle.std.specs.Prelude.{ℕ, List, [], ◌∷◌, Option, Some, option_map, option_and_then, IsUtf8, ⊤}
use Rattle.serde_json.specs.Data.{Data, string, array, object, Items, no_items, item, Members, no_members, member, put}
use Rattle.serde_json.specs.Find.{as_str}
use Rattle.json_laws.specs.Plain.{AreRising}

-- keys and their values
abbrev pub Texts : Type 0
Texts = List (List ℕ × List ℕ)

-- the members with these pairs put in, one after another
abbrev pub put_pairs : Texts → Members → Members
put_pairs [] ms = ms
put_pairs (p ∷ ps) ms = put_pairs ps (put p.0 (string p.1) ms)

-- the object of these pairs, its keys in byte order, each with its last value
abbrev pub pairs_data : Texts → Data
pairs_data ps = object (put_pairs ps no_members)

-- the members of these pairs as they stand
abbrev pub pairs_members : Texts → Members
pairs_members [] = no_members
pairs_members (p ∷ ps) = member p.0 (string p.1) (pairs_members ps)

-- the keys rise in byte order
abbrev pub DoKeysRise : Texts → Type 0
DoKeysRise ps = AreRising (pairs_members ps)

-- the keys and the values are UTF-8
abbrev pub ArePairsUtf8 : Texts → Type 0
ArePairsUtf8 [] = ⊤
ArePairsUtf8 (p ∷ ps) = IsUtf8 p.0 × IsUtf8 p.1 × ArePairsUtf8 ps

-- the pairs of members that are all texts
abbrev pub texts_of : Members → Option Texts
texts_of no_members = Some []
texts_of (member k d ms) = option_and_then (λ v. option_map (λ rest. (k, v) ∷ rest) (texts_of ms)) (as_str d)

-- the list of these texts
abbrev pub words_items : List (List ℕ) → Items
words_items [] = no_items
words_items (w ∷ ws) = item (string w) (words_items ws)

-- the array of these texts
abbrev pub words_data : List (List ℕ) → Data
words_data ws = array (words_items ws)

-- the texts are UTF-8
abbrev pub AreWordsUtf8 : List (List ℕ) → Type 0
AreWordsUtf8 [] = ⊤
AreWordsUtf8 (w ∷ ws) = IsUtf8 w × AreWordsUtf8 ws

-- the texts of items that are all texts
abbrev pub words_of : Items → Option (List (List ℕ))
words_of no_items = Some []
words_of (item d ds) = option_and_then (λ w. option_map (λ rest. w ∷ rest) (words_of ds)) (as_str d)
