-- What a target is made of: visible letters of ASCII, at most three for each byte.
use Rattle.std.proofs.Common.{◌≡◌, ℕ, ◌+◌, ◌*◌, ◌<◌, ◌≤◌, ◌==◌, List, [], ◌∷◌, ◌++◌, length, IsUtf8, All, codes, true, refl, arith, length-append}
use Rattle.std.specs.Prelude.{flat_map, Bool, nat_lt, ◌&&◌}
use Rattle.std.specs.List.{list_all}
use Rattle.std.proofs.Math.Nat.{mul-suc}
use Rattle.std.proofs.lemmas.Bool.{cond_both}
use Rattle.std.proofs.lemmas.Bool.Decides.{nat_tests}
use Rattle.std.proofs.lemmas.List.Elements.{All-nil, All-cons, All-append, All-weaker}
use Rattle.std.proofs.lemmas.List.Sums.{AllPass-from_list_all}
use Rattle.std.proofs.lemmas.Str.{IsUtf8-from_ascii}
use Rattle.std.proofs.lemmas.Str.Ascii.{IsAscii-from_all}
use Rattle.httparse.specs.Grammar.{AllPass, is_uri_byte}
use Rattle.percent_encoding.specs.Percent.{percent_encode_byte}
use Rattle.percent_encoding.proofs.PercentLemmas.{IsEscapeByte, All-percent_encode_byte}
use Rattle.form_urlencoded.specs.Form.{is_unchanged, serialize_byte, byte_serialize, extend_pairs, append_pair, is_nonempty, separator}
use Rattle.client_model.specs.Requests.{escaped_byte, path_text, Query, query_text, target_of}
use Rattle.api_json.specs.Values.{pairs_of}

-- a letter of ASCII that is neither a blank nor a control
abbrev pub IsVisible : ℕ → Type 0
IsVisible b = (33 ≤ b) × (b < 127)

-- the same as a test
abbrev pub is_visible : ℕ → Bool
is_visible b = nat_lt 32 b && nat_lt b 127

-- ---- lists

pub All-flat_map : {A B : Type 0} (P : B → Type 0) (f : A → List B) (xs : List A) → ((x : A) → All P (f x)) → All P (flat_map f xs)
All-flat_map P f [] each = All-nil P
All-flat_map P f (x ∷ xs) each = All-append P (f x) (flat_map f xs) (each x) (All-flat_map P f xs each)

pub length-flat_map : {A B : Type 0} (n : ℕ) (f : A → List B) (xs : List A) → ((x : A) → length (f x) ≤ n) → length (flat_map f xs) ≤ n * length xs
length-flat_map n f [] each = omega arith
length-flat_map n f (x ∷ xs) each =
    simp (length-append, mul-suc) (omega (arith, each x, length-flat_map n f xs each))

-- ---- bytes

visible_unchanged : (b : ℕ) → is_unchanged b ≡ true → IsVisible b
visible_unchanged b is = grind (arith, nat_tests)

visible_escape : (b : ℕ) → IsEscapeByte b → IsVisible b
visible_escape b is = grind arith

visible_percent : (b : ℕ) → All IsVisible (percent_encode_byte b)
visible_percent b = All-weaker IsEscapeByte IsVisible visible_escape _ (All-percent_encode_byte b)

one : (b : ℕ) → IsVisible b → All IsVisible (b ∷ [])
one b is = All-cons IsVisible b [] is (All-nil IsVisible)

visible_byte : (b : ℕ) → All IsVisible (escaped_byte b)
visible_byte b = cond_both (is_unchanged b) (b ∷ []) (percent_encode_byte b) (All IsVisible) (λ is. one b (visible_unchanged b is)) (λ other. visible_percent b)

length_percent : (b : ℕ) → length (percent_encode_byte b) ≡ 3
unfolding percent_encode_byte
length_percent b = refl

length_byte : (b : ℕ) → length (escaped_byte b) ≤ 3
length_byte b = cond_both (is_unchanged b) (b ∷ []) (percent_encode_byte b) (λ text. length text ≤ 3) (λ is. omega arith) (λ other. omega (arith, length_percent b))

visible_serialized : (b : ℕ) → All IsVisible (serialize_byte b)
visible_serialized b =
    cond_both (is_unchanged b) (b ∷ []) _ (All IsVisible) (λ is. one b (visible_unchanged b is))
    (λ other. cond_both (b == 32) (43 ∷ []) (percent_encode_byte b) (All IsVisible) (λ blank. one 43 (omega arith, omega arith)) (λ letter. visible_percent b))

length_serialized : (b : ℕ) → length (serialize_byte b) ≤ 3
length_serialized b =
    cond_both (is_unchanged b) (b ∷ []) _ (λ text. length text ≤ 3) (λ is. omega arith)
    (λ other. cond_both (b == 32) (43 ∷ []) (percent_encode_byte b) (λ text. length text ≤ 3) (λ blank. omega arith) (λ letter. omega (arith, length_percent b)))

-- ---- paths

pub visible_text : (text : List ℕ) → list_all is_visible text ≡ true → All IsVisible text
visible_text text is = All-weaker (λ b. is_visible b ≡ true) IsVisible (λ b visible. grind (arith, nat_tests)) text (AllPass-from_list_all is_visible text is)

-- a bound of a path's text
abbrev pub path_size : List (List ℕ) → ℕ
path_size [] = 0
path_size (segment ∷ path) = 3 * length segment + 1 + path_size path

visible_path : (path : List (List ℕ)) → All IsVisible (path_text path)
visible_path path =
    All-flat_map IsVisible (λ segment. 47 ∷ flat_map escaped_byte segment) path
    (λ segment. All-cons IsVisible 47 (flat_map escaped_byte segment) (omega arith, omega arith) (All-flat_map IsVisible escaped_byte segment visible_byte))

length_path : (path : List (List ℕ)) → length (path_text path) ≤ path_size path
length_path [] = omega arith
length_path (segment ∷ path) =
    simp length-append (omega (arith, length_path path, length-flat_map 3 escaped_byte segment length_byte))

-- ---- queries

-- a bound of a query's text
abbrev pub texts_size : List (List ℕ × List ℕ) → ℕ
texts_size [] = 0
texts_size (pair ∷ pairs) = 3 * length pair.0 + 3 * length pair.1 + 2 + texts_size pairs

visible_form : (text : List ℕ) → All IsVisible (byte_serialize text)
unfolding byte_serialize
visible_form text = All-flat_map IsVisible serialize_byte text visible_serialized

length_form : (text : List ℕ) → length (byte_serialize text) ≤ 3 * length text
unfolding byte_serialize
length_form text = length-flat_map 3 serialize_byte text length_serialized

visible_separator : (form : List ℕ) → All IsVisible (separator form)
visible_separator form = cond_both (is_nonempty form) (38 ∷ []) [] (All IsVisible) (λ some. one 38 (omega arith, omega arith)) (λ none. All-nil IsVisible)

length_separator : (form : List ℕ) → length (separator form) ≤ 1
length_separator form = cond_both (is_nonempty form) (38 ∷ []) [] (λ text. length text ≤ 1) (λ some. omega arith) (λ none. omega arith)

visible_more : (form : List ℕ) (pair : List ℕ × List ℕ) → All IsVisible form → All IsVisible (append_pair form pair.0 pair.1)
visible_more form pair all =
    let name = byte_serialize pair.0 in
    let value = byte_serialize pair.1 in
    let named = All-append IsVisible name (61 ∷ []) (visible_form pair.0) (one 61 (omega arith, omega arith)) in
    All-append IsVisible (form ++ separator form) (name ++ 61 ∷ [] ++ value) (All-append IsVisible form (separator form) all (visible_separator form))
    (All-append IsVisible (name ++ 61 ∷ []) value named (visible_form pair.1))

length_more : (form : List ℕ) (pair : List ℕ × List ℕ) → length (append_pair form pair.0 pair.1) ≤ length form + 3 * length pair.0 + 3 * length pair.1 + 2
length_more form pair =
    simp length-append (omega (arith, length_separator form, length_form pair.0, length_form pair.1))

visible_pairs : (form : List ℕ) (pairs : List (List ℕ × List ℕ)) → All IsVisible form → All IsVisible (extend_pairs form pairs)
visible_pairs form [] all = all
visible_pairs form (pair ∷ pairs) all = visible_pairs (append_pair form pair.0 pair.1) pairs (visible_more form pair all)

length_pairs : (form : List ℕ) (pairs : List (List ℕ × List ℕ)) → length (extend_pairs form pairs) ≤ length form + texts_size pairs
length_pairs form [] = omega arith
length_pairs form (pair ∷ pairs) = omega (arith, length_more form pair, length_pairs (append_pair form pair.0 pair.1) pairs)

visible_query : (query : Query) → All IsVisible (query_text query)
visible_query [] = All-nil IsVisible
visible_query (pair ∷ query) =
    All-cons IsVisible 63 (extend_pairs [] (pairs_of (pair ∷ query))) (omega arith, omega arith) (visible_pairs [] (pairs_of (pair ∷ query)) (All-nil IsVisible))

length_query : (query : Query) → length (query_text query) ≤ texts_size (pairs_of query) + 1
length_query [] = omega arith
length_query (pair ∷ query) = omega (arith, length_pairs [] (pairs_of (pair ∷ query)))

-- ---- targets

pub visible_target : (path : List (List ℕ)) (query : Query) → All IsVisible (target_of path query)
visible_target path query =
    All-append IsVisible (codes "/v1.43" ++ path_text path) (query_text query)
    (All-append IsVisible (codes "/v1.43") (path_text path) (visible_text (codes "/v1.43") refl) (visible_path path)) (visible_query query)

pub length_target : (path : List (List ℕ)) (query : Query) → length (target_of path query) ≤ path_size path + texts_size (pairs_of query) + 7
length_target path query = simp length-append (omega (arith, length_path path, length_query query))

-- ---- the grammar

uri_visible : (b : ℕ) → IsVisible b → is_uri_byte b ≡ true
uri_visible b is = grind (arith, nat_tests)

ascii_visible : (b : ℕ) → IsVisible b → b < 128
ascii_visible b is = omega arith

pub AllPass-visible : (text : List ℕ) → All IsVisible text → AllPass is_uri_byte text
AllPass-visible text all = All-weaker IsVisible (λ b. is_uri_byte b ≡ true) uri_visible text all

pub IsUtf8-visible : (text : List ℕ) → All IsVisible text → IsUtf8 text
IsUtf8-visible text all = IsUtf8-from_ascii text (IsAscii-from_all text (All-weaker IsVisible (λ b. b < 128) ascii_visible text all))
