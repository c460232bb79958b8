-- Lists and objects read item by item.
use Rattle.std.proofs.Common.{◌≡◌, option_map, option_and_then, true, ℕ, List, [], ◌∷◌, ◌++◌, Option, Some, None, ap, refl, ◌∙◌, append_assoc}
use Rattle.serde_json.specs.Data.{Data, Items, item, Members, member}
use Rattle.serde_json.specs.Find.{as_str, as_bool}
use Rattle.json_laws.specs.Pairs.{Texts, texts_of, words_of}
use Rattle.engine_text.specs.declared.pairs.Pair.{Pair}
use Rattle.engine_text.specs.declared.filter.FilterKey.{FilterKey}
use Rattle.engine_text.specs.declared.filter.FilterRow.{FilterRow}
use Rattle.api_json.specs.Lists.{pairs_from, pairs_of_members}
use Rattle.api_json.specs.Filters.{true_keys, row_of, rows_in}

-- put before what is left, one more makes no difference
both : {A : Type 0} (xs : List A) (x : A) (o : Option (List A))
    → option_map (λ (rest : List A). (xs ++ x ∷ []) ++ rest) o ≡ option_map (λ (rest : List A). xs ++ rest) (option_map (λ (rest : List A). x ∷ rest) o)
both xs x None = refl
both xs x (Some rest) = ap Some (append_assoc xs (x ∷ []) rest)

-- one more item that is a text
pub words_more : (words : List (List ℕ)) (word : List ℕ) (d : Data) (rest : Items) → Some word ≡ as_str d
    → option_map (λ (more : List (List ℕ)). (words ++ word ∷ []) ++ more) (words_of rest)
    ≡ option_map (λ (more : List (List ℕ)). words ++ more) (words_of (item d rest))
words_more words word d rest e = rw (← e) (both words word (words_of rest))

pairs_from_more : (p : List ℕ × List ℕ) (o : Option Texts)
    → option_map (λ (rest : List Pair). record { key = p.0; value = p.1 } ∷ rest) (option_map pairs_from o)
    ≡ option_map pairs_from (option_map (λ (rest : Texts). p ∷ rest) o)
pairs_from_more p None = refl
pairs_from_more p (Some rest) = refl

-- one more member that is a text
pub pairs_more : (pairs : List Pair) (p : Pair) (k : List ℕ) (d : Data) (rest : Members) → p.key ≡ k → Some (p.value) ≡ as_str d
    → option_map (λ (more : List Pair). (pairs ++ p ∷ []) ++ more) (pairs_of_members rest)
    ≡ option_map (λ (more : List Pair). pairs ++ more) (pairs_of_members (member k d rest))
pairs_more pairs p k d rest same e =
    rw (← e, ← same) (both pairs p (pairs_of_members rest) ∙ ap (option_map (λ (more : List Pair). pairs ++ more)) (pairs_from_more (p.key, p.value) (texts_of rest)))

-- one more key whose value is true
pub keys_more : (words : List (List ℕ)) (word k : List ℕ) (d : Data) (rest : Members) → word ≡ k → Some true ≡ as_bool d
    → option_map (λ (more : List (List ℕ)). (words ++ word ∷ []) ++ more) (true_keys rest)
    ≡ option_map (λ (more : List (List ℕ)). words ++ more) (true_keys (member k d rest))
keys_more words word k d rest same e = rw (← e, ← same) (both words word (true_keys rest))

-- one more row
pub rows_more : (keys : List FilterKey) (rows : List FilterRow) (row : FilterRow) (name : List ℕ) (d : Data) (rest : Members)
    → Some row ≡ row_of keys name d
    → option_map (λ (more : List FilterRow). (rows ++ row ∷ []) ++ more) (rows_in keys rest)
    ≡ option_map (λ (more : List FilterRow). rows ++ more) (rows_in keys (member name d rest))
rows_more keys rows row name d rest e =
    both rows row (rows_in keys rest)
    ∙ ap (λ (o : Option FilterRow). option_map (λ (more : List FilterRow). rows ++ more) (option_and_then (λ (r : FilterRow). option_map (λ (rs : List FilterRow). r ∷ rs) (rows_in keys rest)) o)) e
