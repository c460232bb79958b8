-- Lists in an order (own: what the table keeps of its indexes).
use Rattle.std.specs.Prelude.{◌≡◌, List, [], ◌∷◌, Bool, true, ◌||◌}
use Rattle.std.specs.List.{AllByRecursion}
use Rattle.container_table.specs.Lists.{placed}

-- The items in that order.
abbrev pub in_order : {A : Type 0} → (A → A → Bool) → List A → List A
in_order before [] = []
in_order before (x ∷ xs) = placed before x (in_order before xs)

-- Each comes before all those behind it.
abbrev pub IsInOrder : {A : Type 0} → (A → A → Bool) → List A → Type 0
IsInOrder before [] = Unit {0}
IsInOrder before (x ∷ xs) = AllByRecursion (λ y. before x y ≡ true) xs × IsInOrder before xs

-- Of the two one comes before the other.
abbrev pub are_apart : {A : Type 0} → (A → A → Bool) → A → A → Bool
are_apart before x y = before x y || before y x

-- So it is of each two.
abbrev pub AreApart : {A : Type 0} → (A → A → Bool) → List A → Type 0
AreApart before [] = Unit {0}
AreApart before (x ∷ xs) = AllByRecursion (λ y. are_apart before x y ≡ true) xs × AreApart before xs
