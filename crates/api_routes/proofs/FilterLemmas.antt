-- A filter that is read has keys of its call, and their names rise.
use Rattle.std.proofs.Common.{◌≡◌, ℕ, List, [], ◌∷◌, map, Bool, true, false, cond, Option, Some, None, IfSome, option_map, option_and_then, refl, sym, ap, ◌∙◌, IfOk}
use Rattle.std.specs.Prelude.{IsTrue}
use Rattle.std.specs.List.{list_all}
use Rattle.std.specs.Cmp.Lexicographic.{same_text}
use Rattle.std.proofs.lemmas.Bool.{and_parts}
use Rattle.serde_json.specs.Data.{Data, null, boolean, number, string, array, object, Members, no_members, member}
use Rattle.serde_json.specs.Find.{as_object}
use Rattle.json_laws.specs.Text.{data_of}
use Rattle.engine_text.specs.Texts.{same_bytes}
use Rattle.engine_text.specs.declared.filter.FilterKey.{FilterKey}
use Rattle.engine_text.specs.declared.filter.FilterRow.{FilterRow}
use Rattle.engine_text.specs.Filter.{filter_word}
use Rattle.api_json.specs.Filters.{key_among, values_in, rows_in, filter_of}
use Rattle.api_json.specs.declared.fault.BodyFault.TheVariants.{InvalidFilter}
use Rattle.engine_text.specs.Soundness.{are_rising, is_filter}
use Rattle.api_routes.proofs.RiseLemmas.{IfOrdered, data_ordered, names, names_rise}
use Rattle.api_routes.proofs.WithinLemmas.{or_else, both_true}

-- ---- a key that is found among keys which pass a test passes it, and has the name

abbrev IsFound : (FilterKey → Bool) → List ℕ → FilterKey → Type 0
IsFound is_key name key = (is_key key ≡ true) × (filter_word key ≡ name)

key_found : (is_key : FilterKey → Bool) (keys : List FilterKey) (name : List ℕ) → list_all is_key keys ≡ true
    → IfSome (key_among keys name) (IsFound is_key name)
key_found is_key [] name h = tt
key_found is_key (x ∷ xs) name h =
    let parts = and_parts (is_key x) (list_all is_key xs) h in
    by (same_bytes (filter_word x) name) refl parts.0 (key_found is_key xs name parts.1)
  where
    by : (b : Bool) → same_bytes (filter_word x) name ≡ b → is_key x ≡ true → IfSome (key_among xs name) (IsFound is_key name)
        → IfSome (cond b (Some x) (key_among xs name)) (IsFound is_key name)
    by true e is later = (is, same_text (filter_word x) name (sym e))
    by false e is later = later

-- ---- the rows

-- their keys pass the test, and have the names
abbrev AreOf : (FilterKey → Bool) → List (List ℕ) → List FilterRow → Type 0
AreOf is_key ns rows = (list_all (λ row. is_key row.key) rows ≡ true) × (map (λ row. filter_word row.key) rows ≡ ns)

first_of : (is_key : FilterKey → Bool) (name : List ℕ) (ns : List (List ℕ)) (row : FilterRow) (rows : List FilterRow)
    → IsFound is_key name row.key → AreOf is_key ns rows → AreOf is_key (name ∷ ns) (row ∷ rows)
first_of is_key name ns row rows is are =
    (both_true (is_key row.key) (list_all (λ row. is_key row.key) rows) is.0 are.0, ap (λ n. n ∷ map (λ row. filter_word row.key) rows) is.1 ∙ ap (λ l. name ∷ l) are.1)

rows_found : (is_key : FilterKey → Bool) (keys : List FilterKey) (ms : Members) → list_all is_key keys ≡ true
    → IfSome (rows_in keys ms) (AreOf is_key (names ms))
rows_found is_key keys no_members h = (refl, refl)
rows_found is_key keys (member name d ms) h =
    by (key_among keys name) (key_found is_key keys name h) (values_in d) (rows_in keys ms) (rows_found is_key keys ms h)
  where
    by : (o : Option FilterKey) → IfSome o (IsFound is_key name) → (values : Option (List (List ℕ))) (rest : Option (List FilterRow))
        → IfSome rest (AreOf is_key (names ms))
        → IfSome (option_and_then (λ row. option_map (λ rows. row ∷ rows) rest)
        (option_and_then (λ key. option_map (λ values. record { key = key; values = values }) values) o)) (AreOf is_key (name ∷ names ms))
    by None is values rest are = tt
    by (Some key) is None rest are = tt
    by (Some key) is (Some values) None are = tt
    by (Some key) is (Some values) (Some rows) are =
        first_of is_key name (names ms) (record { key = key; values = values }) rows is are

-- ---- a filter

abbrev pub IsFilter : (FilterKey → Bool) → List FilterRow → Type 0
IsFilter is_key rows = IsTrue (is_filter is_key rows)

rising : (is_key : FilterKey → Bool) (ns : List (List ℕ)) (o : Option (List FilterRow)) → are_rising ns ≡ true
    → IfSome o (AreOf is_key ns) → IfSome o (IsFilter is_key)
rising is_key ns None h are = tt
rising is_key ns (Some rows) h are =
    both_true (are_rising (map (λ row. filter_word row.key) rows)) (list_all (λ row. is_key row.key) rows) (ap are_rising are.1 ∙ h) are.0

of_data : (is_key : FilterKey → Bool) (keys : List FilterKey) (o : Option Data) → list_all is_key keys ≡ true → IfOrdered o
    → IfSome (option_and_then (rows_in keys) (option_and_then as_object o)) (IsFilter is_key)
of_data is_key keys None h is = tt
of_data is_key keys (Some null) h is = tt
of_data is_key keys (Some (boolean b)) h is = tt
of_data is_key keys (Some (number n)) h is = tt
of_data is_key keys (Some (string s)) h is = tt
of_data is_key keys (Some (array ds)) h is = tt
of_data is_key keys (Some (object ms)) h is = rising is_key (names ms) (rows_in keys ms) (names_rise ms is.0) (rows_found is_key keys ms h)

pub filter_within : (is_key : FilterKey → Bool) (keys : List FilterKey) (text : List ℕ) → list_all is_key keys ≡ true
    → IfOk (filter_of keys text) (IsFilter is_key)
unfolding filter_of
filter_within is_key keys [] h = refl
filter_within is_key keys (c ∷ cs) h =
    or_else (IsFilter is_key) InvalidFilter _ (of_data is_key keys (data_of (c ∷ cs)) h (data_ordered (c ∷ cs)))
