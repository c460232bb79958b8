-- Changes of lists (own: each changes the first item that passes, since no two pass).
use Rattle.std.specs.Prelude.{ℕ, zero, suc, List, [], ◌∷◌, Bool, if◌then◌else◌}
pub use Rattle.engine_text.specs.Lists.{update_first, remove_first, last_of}

-- The list with one more item, behind those that come before it.
abbrev pub placed : {A : Type 0} → (A → A → Bool) → A → List A → List A
placed before x [] = x ∷ []
placed before x (y ∷ ys) = if before y x then y ∷ placed before x ys else x ∷ y ∷ ys

-- The list with the item at a place changed, if one is there.
abbrev pub at_place : {A : Type 0} → (A → A) → ℕ → List A → List A
at_place f i [] = []
at_place f zero (x ∷ xs) = f x ∷ xs
at_place f (suc i) (x ∷ xs) = x ∷ at_place f i xs
