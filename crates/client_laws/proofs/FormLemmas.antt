-- The values of a query's keys, read back (URL Standard, section 5).
use Rattle.std.proofs.Common.{◌≡◌, ℕ, List, [], ◌∷◌, map, All, IsUtf8, cond, Option, Some, None, refl, ap, ◌∙◌}
use Rattle.std.specs.Str.Lossy.{utf8_lossy}
use Rattle.std.proofs.lemmas.Str.{utf8_lossy-IsUtf8}
use Rattle.std.proofs.lemmas.List.Elements.{All-nil, All-cons}
use Rattle.engine_text.specs.Texts.{same_bytes}
use Rattle.form_urlencoded.specs.Form.{decode, raw_pairs, extend_pairs}
use Rattle.form_urlencoded.proofs.FormLemmas.{IsBytePair, round_trip}
use Rattle.api_json.specs.Values.{pairs_of}
use Rattle.api_routes.specs.Query.{first_value, value_of}
use Rattle.client_model.specs.Requests.{Query}
use Rattle.client_laws.proofs.ByteLemmas.{utf8-bytes}

-- the value that a query gives a key first
abbrev pub given : List ℕ → Query → Option (List ℕ)
given key [] = None
given key (pair ∷ query) = cond (same_bytes pair.key key) (Some pair.value) (given key query)

-- keys and values are texts
abbrev pub AreTexts : Query → Type 0
AreTexts [] = Unit {0}
AreTexts (pair ∷ query) = IsUtf8 pair.key × IsUtf8 pair.value × AreTexts query

-- a query as a form has it
abbrev pub form : Query → List ℕ
form query = extend_pairs [] (pairs_of query)

abbrev decoded : List ℕ × List ℕ → List ℕ × List ℕ
decoded p = (decode p.0, decode p.1)

abbrev lossy : List ℕ × List ℕ → List ℕ × List ℕ
lossy p = (utf8_lossy p.0, utf8_lossy p.1)

-- the value of a key among pairs as they are
abbrev among : List ℕ → List (List ℕ × List ℕ) → Option (List ℕ)
among key [] = None
among key (p ∷ ps) = cond (same_bytes p.0 key) (Some p.1) (among key ps)

first-of-raw : (key : List ℕ) (raw : List (List ℕ × List ℕ)) → first_value key raw ≡ among key (map lossy (map decoded raw))
first-of-raw key [] = refl
first-of-raw key (p ∷ raw) = ap (λ x. cond (same_bytes (utf8_lossy (decode p.0)) key) (Some (utf8_lossy (decode p.1))) x) (first-of-raw key raw)

as-they-are : (key : List ℕ) (query : Query) → AreTexts query → among key (map lossy (pairs_of query)) ≡ given key query
as-they-are key [] h = refl
as-they-are key (pair ∷ query) h =
    let k = utf8_lossy-IsUtf8 pair.key h.0 in
    let v = utf8_lossy-IsUtf8 pair.value h.1 in
    let rest = as-they-are key query h.2 in
    λ i. cond (same_bytes (k i) key) (Some (v i)) (rest i)

are-bytes : (query : Query) → AreTexts query → All IsBytePair (pairs_of query)
are-bytes [] h = All-nil IsBytePair
are-bytes (pair ∷ query) h =
    All-cons IsBytePair (pair.key, pair.value) (pairs_of query) (utf8-bytes pair.key h.0, utf8-bytes pair.value h.1) (are-bytes query h.2)

-- a key is read as the value that it was given
pub value-read : (key : List ℕ) (query : Query) → AreTexts query → value_of key (form query) ≡ given key query
value-read key query h =
    first-of-raw key (raw_pairs (form query))
    ∙ ap (λ x. among key (map lossy x)) (round_trip (pairs_of query) (are-bytes query h))
    ∙ as-they-are key query h
