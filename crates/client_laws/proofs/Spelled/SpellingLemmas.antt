-- The bytes of a request of the client are one spelling of it, as far as its head and its body are within their limits.
use Rattle.std.proofs.Common.{◌≡◌, ℕ, ◌+◌, ◌%◌, ◌^◌, ◌<◌, ◌≤◌, ◌++◌, List, [], ◌∷◌, length, All, codes, true, refl, sym, ap, ◌∙◌, subst, arith, length-append}
use Rattle.std.specs.Prelude.{decimal, nat_lt, nat_le, ◌&&◌}
use Rattle.std.specs.List.{list_all}
use Rattle.std.specs.Char.{is_ascii_digit}
use Rattle.std.specs.Str.Parse.{digits_value}
use Rattle.std.proofs.lemmas.Bool.{cond-true, and_from, lt-ltb, le-leb}
use Rattle.std.proofs.lemmas.Bool.Decides.{nat_tests}
use Rattle.std.proofs.lemmas.Fmt.{decimal_by_steps, decimal_is_IsNumeral, length-decimal-le, decimal_nonempty}
use Rattle.std.proofs.lemmas.List.Elements.{All-nil, All-cons, All-push, All-append, All-weaker}
use Rattle.std.proofs.lemmas.List.Sums.{AllPass-from_list_all, list_all-from_AllPass}
use Rattle.httparse.specs.Grammar.{IsToken, is_token_byte}
use Rattle.http_edge.specs.Message.{Header}
use Rattle.http_edge.specs.Framing.{is_length, length_framing, framing_of}
use Rattle.http_edge.specs.Spelling.{Spells, SpellsBody}
use Rattle.http_edge.specs.declared.framing.Framing.TheVariants.{Length}
use Rattle.client_model.specs.declared.manner.Manner.{Manner}
use Rattle.client_model.specs.declared.manner.Manner.TheVariants.{Closes, Upgrades}
use Rattle.client_model.specs.Requests.{Query, manner_fields, body_fields, request_of, request_bytes}
use Rattle.api_json.specs.Values.{pairs_of}
use Rattle.client_laws.proofs.Spelled.TargetLemmas.{IsVisible, is_visible, visible_text, visible_target, length_target, path_size, texts_size}
use Rattle.client_laws.proofs.Spelled.HeadLemmas.{IsClean, IsWritable, is_head, head_of, fields_back, whole, length_head, lines_size}

-- ---- the length of a body

IsDigit : ℕ → Type 0
IsDigit b = (48 ≤ b) × (b ≤ 57)

all_digits : (n : ℕ) → n < 2 ^ 64 → All IsDigit (decimal n)
unfolding IsDigit
all_digits =
    let one : (n : ℕ) → n < 10 → All IsDigit ((48 + n) ∷ []) = λ n small. All-cons IsDigit (48 + n) [] (omega arith, omega arith) (All-nil IsDigit) in
    decimal_by_steps (λ n digits. All IsDigit digits) one
    (λ n digits large all. All-push IsDigit digits (48 + n % 10) all (omega arith, omega arith))

visible_digits : (n : ℕ) → n < 2 ^ 64 → All IsVisible (decimal n)
unfolding IsDigit
visible_digits n small = All-weaker IsDigit IsVisible (λ b is. (omega arith, omega arith)) (decimal n) (all_digits n small)

digit_test : (b : ℕ) → IsDigit b → is_ascii_digit b ≡ true
unfolding IsDigit
digit_test b is = grind (arith, nat_tests)

is_length_of : (n : ℕ) → n ≤ 1048576 → is_length (decimal n) ≡ true
is_length_of n small =
    let fits : n < 2 ^ 64 = omega arith in
    let short : length (decimal n) ≤ 7 = length-decimal-le 7 n (omega arith) (omega arith) fits in
    let all = list_all-from_AllPass is_ascii_digit (decimal n) (All-weaker IsDigit (λ b. is_ascii_digit b ≡ true) digit_test (decimal n) (all_digits n fits)) in
    and_from (nat_lt 0 (length (decimal n)) && nat_le (length (decimal n)) 18) (list_all is_ascii_digit (decimal n))
    (and_from (nat_lt 0 (length (decimal n))) (nat_le (length (decimal n)) 18) (lt-ltb 0 _ (decimal_nonempty n fits)) (le-leb _ 18 (omega arith))) all

framing_by_length : (n : ℕ) → n ≤ 1048576 → length_framing (decimal n) ≡ Length n
framing_by_length n small =
    let value : digits_value 10 (decimal n) ≡ n = (decimal_is_IsNumeral n (omega arith)).1 in
    let least : nat_le (digits_value 10 (decimal n)) 1048576 ≡ true = le-leb _ 1048576 (omega (arith, value)) in
    cond-true _ _ _ (is_length_of n small) ∙ cond-true _ _ _ least ∙ ap Length value

-- ---- fields

-- those of a request
abbrev fields_of : Manner → List ℕ → List Header
fields_of manner body = (codes "Host", codes "engine") ∷ manner_fields manner ++ body_fields body

-- they frame the body by its length
framed : (manner : Manner) (body : List ℕ) → length body ≤ 1048576 → framing_of 1 (fields_of manner body) ≡ Length (length body)
framed Closes [] small = refl
framed Closes (b ∷ bytes) small = framing_by_length (length (b ∷ bytes)) small
framed Upgrades [] small = refl
framed Upgrades (b ∷ bytes) small = framing_by_length (length (b ∷ bytes)) small

pub token : (name : List ℕ) → nat_lt 0 (length name) ≡ true → list_all is_token_byte name ≡ true → IsToken name
token name some all = (grind (arith, nat_tests), AllPass-from_list_all is_token_byte name all)

clean : (name value : List ℕ) → nat_lt 0 (length name) ≡ true → list_all is_token_byte name ≡ true → list_all is_visible value ≡ true
    → IsClean (name, value)
clean name value some all visible = (token name some all, visible_text value visible)

clean_manner : (manner : Manner) → All IsClean (manner_fields manner)
unfolding is_token_byte
clean_manner Closes =
    All-cons IsClean (codes "Connection", codes "close") [] (clean (codes "Connection") (codes "close") refl refl refl) (All-nil IsClean)
clean_manner Upgrades =
    All-cons IsClean (codes "Connection", codes "Upgrade") ((codes "Upgrade", codes "tcp") ∷ [])
    (clean (codes "Connection") (codes "Upgrade") refl refl refl)
    (All-cons IsClean (codes "Upgrade", codes "tcp") [] (clean (codes "Upgrade") (codes "tcp") refl refl refl) (All-nil IsClean))

clean_body : (body : List ℕ) → length body ≤ 1048576 → All IsClean (body_fields body)
unfolding is_token_byte
clean_body [] small = All-nil IsClean
clean_body (b ∷ bytes) small =
    let n = length (b ∷ bytes) in
    All-cons IsClean (codes "Content-Length", decimal n) ((codes "Content-Type", codes "application/json") ∷ [])
    (token (codes "Content-Length") refl refl, visible_digits n (omega arith))
    (All-cons IsClean (codes "Content-Type", codes "application/json") [] (clean (codes "Content-Type") (codes "application/json") refl refl refl) (All-nil IsClean))

clean_fields : (manner : Manner) (body : List ℕ) → length body ≤ 1048576 → All IsClean (fields_of manner body)
unfolding is_token_byte
clean_fields manner body small =
    let host : Header = (codes "Host", codes "engine") in
    All-append IsClean (host ∷ manner_fields manner) (body_fields body)
    (All-cons IsClean host (manner_fields manner) (clean (codes "Host") (codes "engine") refl refl refl) (clean_manner manner))
    (clean_body body small)

length_fields : (manner : Manner) (body : List ℕ) → length body ≤ 1048576 → lines_size (fields_of manner body) ≤ 150
length_fields Closes [] small = omega arith
length_fields Closes (b ∷ bytes) small =
    simp length-append (omega (arith, length-decimal-le 7 (length (b ∷ bytes)) (omega arith) (omega arith) (omega arith)))
length_fields Upgrades [] small = omega arith
length_fields Upgrades (b ∷ bytes) small =
    simp length-append (omega (arith, length-decimal-le 7 (length (b ∷ bytes)) (omega arith) (omega arith) (omega arith)))

-- ---- requests

-- a bound of the bytes of a request's method and target
abbrev pub target_size : List (List ℕ) → Query → ℕ
target_size path query = path_size path + texts_size (pairs_of query)

-- a request whose method is a token is spelled by its bytes, where its target and its body are within these bounds
pub spelled : (method : List ℕ) (manner : Manner) (path : List (List ℕ)) (query : Query) (body : List ℕ)
    → IsToken method → length method ≤ 6 → target_size path query ≤ 16200 → length body ≤ 1048576
    → Spells (request_bytes (request_of method manner path query body)) (request_of method manner path query body)
spelled method manner path query body is short target small =
    let r = request_of method manner path query body in
    let some : 0 < length r.target = omega arith in
    let writable : IsWritable r = record {
      method = is;
      target_some = some;
      target = visible_target path query;
      fields = clean_fields manner body small;
    } in
    let fields = fields_back r writable in
    let frame : framing_of 1 r.fields ≡ Length (length body) = framed manner body small in
    record {
      head = head_of r;
      coded = body;
      valid = is_head r writable;
      small = omega (arith, length_head r, length_target path query, length_fields manner body small);
      body = subst (λ fs. SpellsBody (framing_of 1 fs) body body) fields (subst (λ frame. SpellsBody frame body body) (sym frame) (refl, refl));
      method = refl;
      target = refl;
      fields = fields;
      whole = whole r;
    }
