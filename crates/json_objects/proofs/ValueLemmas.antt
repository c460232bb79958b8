-- Lists of values, and the data that they show.
use Rattle.std.proofs.Common.{◌≡◌, ◌<◌, ◌≤◌, ◌+◌, ℕ, Vec, List, [], ◌∷◌, ◌++◌, length, take, get_or, map, refl, sym, ap, ap₂, ◌∙◌}
use Rattle.std.specs.declared.alloc.Global.{Global}
use Rattle.std.proofs.lemmas.List.{take_more, take_all}
use Rattle.serde_json.specs.Data.{Data, string, array, item}
use Rattle.serde_json.specs.View.{view, items_of}
use Rattle.serde_json.specs.declared.value.Value.{Value, Array}
use Rattle.serde_json.proofs.Views.{view-Array}
use Rattle.json_laws.specs.Pairs.{words_items, words_data}

map-push : {A B : Type 0} (f : A → B) (xs : List A) (x : A) → map f (xs ++ x ∷ []) ≡ map f xs ++ f x ∷ []
map-push f [] x = refl
map-push f (y ∷ ys) x = ap (λ (l : List _). f y ∷ l) (map-push f ys x)

-- one more value, which shows the next thing
pub shown_more : {A : Type 0} (f : A → Data) (values : List Value) (v : Value) (xs : List A) (i : ℕ) (x : A)
    → i < length xs → x ≡ get_or xs i x → view v ≡ f x → map view values ≡ map f (take i xs)
    → map view (values ++ v ∷ []) ≡ map f (take (i + 1) xs)
shown_more f values v xs i x within at shows before =
    map-push view values v
    ∙ ap₂ (λ (l : List Data) (d : Data). l ++ d ∷ []) before (shows ∙ ap f at)
    ∙ sym (map-push f (take i xs) (get_or xs i x))
    ∙ ap (map f) (sym (take_more xs i x within))

-- all of them make the list
pub all_shown : {A : Type 0} (f : A → Data) (v : Vec Value Global) (xs : List A) (i : ℕ)
    → length xs ≤ i → map view (v.items) ≡ map f (take i xs) → view (Array v) ≡ array (items_of (map f xs))
all_shown f v xs i passed shown =
    view-Array v ∙ ap (λ (l : List Data). array (items_of l)) (shown ∙ ap (map f) (take_all i xs passed))

items_same : (words : List (List ℕ)) → items_of (map string words) ≡ words_items words
items_same [] = refl
items_same (word ∷ words) = ap (item (string word)) (items_same words)

-- a list of texts, item by item or as a whole
pub words_same : (words : List (List ℕ)) → array (items_of (map string words)) ≡ words_data words
words_same words = ap array (items_same words)
