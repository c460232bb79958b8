-- The head that the client's bytes are: its field lines are read back as the fields.
use Rattle.std.proofs.Common.{◌≡◌, ℕ, ◌+◌, ◌<◌, List, [], ◌∷◌, ◌++◌, map, length, reverse, All, codes, true, false, refl, sym, ap, ◌∙◌, subst, arith, append_assoc, length-append}
use Rattle.std.specs.Prelude.{flat_map}
use Rattle.std.proofs.lemmas.Bool.{cond-false}
use Rattle.std.proofs.lemmas.Bool.Decides.{nat_tests}
use Rattle.std.proofs.lemmas.List.{reverse-append}
use Rattle.std.proofs.lemmas.List.Elements.{All-nil, All-cons, All-head, All-tail, All-push, All-weaker}
use Rattle.httparse.specs.Grammar.{IsToken, is_value_byte, is_ows, skip_ows, trim_ows, Field, IsField, crlf, print_field, print_section, RequestHead, IsRequestHead, print_request}
use Rattle.httparse.specs.Spans.{name_and_value}
use Rattle.httparse.proofs.GrammarLemmas.{print_request-append}
use Rattle.httparse.proofs.TrimLemmas.{trim_ows_space}
use Rattle.http_edge.specs.Message.{Header, Request}
use Rattle.client_model.specs.Requests.{field_line, request_bytes}
use Rattle.client_laws.proofs.Spelled.TargetLemmas.{IsVisible, AllPass-visible, IsUtf8-visible}

-- ---- fields

-- a name is a token, and a value has neither blanks nor controls
abbrev pub IsClean : Header → Type 0
IsClean field = IsToken field.0 × All IsVisible field.1

-- the line of a field, its value behind one blank
abbrev pub line_of : Header → Field
line_of field = record { name = field.0; raw = 32 ∷ field.1; end = crlf }

no_ows : (b : ℕ) → IsVisible b → is_ows b ≡ false
no_ows b is = grind (arith, nat_tests)

kept : (text : List ℕ) → All IsVisible text → skip_ows text ≡ text
kept [] all = refl
kept (b ∷ bytes) all = cond-false _ _ _ (no_ows b (All-head IsVisible b bytes all))

all_reverse : (text : List ℕ) → All IsVisible text → All IsVisible (reverse text)
all_reverse [] all = all
all_reverse (b ∷ bytes) all =
    subst (All IsVisible) (sym (reverse-append (b ∷ []) bytes))
    (All-push IsVisible (reverse bytes) b (all_reverse bytes (All-tail IsVisible b bytes all)) (All-head IsVisible b bytes all))

trimmed : (text : List ℕ) → All IsVisible text → trim_ows (32 ∷ text) ≡ text
trimmed text all = trim_ows_space text (kept text all) (kept (reverse text) (all_reverse text all))

read_back : (fields : List Header) → All IsClean fields → map name_and_value (map line_of fields) ≡ fields
read_back [] all = refl
read_back (field ∷ fields) all =
    let clean = All-head IsClean field fields all in
    λ i. (field.0, trimmed field.1 clean.1 i) ∷ read_back fields (All-tail IsClean field fields all) i

value_visible : (b : ℕ) → IsVisible b → is_value_byte b ≡ true
value_visible b is = grind (arith, nat_tests)

is_line : (field : Header) → IsClean field → IsField (line_of field)
is_line field clean = record {
  name = clean.0;
  raw = All-cons (λ b. is_value_byte b ≡ true) 32 field.1 refl (All-weaker IsVisible (λ b. is_value_byte b ≡ true) value_visible field.1 clean.1);
}

are_lines : (fields : List Header) → All IsClean fields → All IsField (map line_of fields)
are_lines [] all = All-nil IsField
are_lines (field ∷ fields) all =
    All-cons IsField (line_of field) (map line_of fields) (is_line field (All-head IsClean field fields all)) (are_lines fields (All-tail IsClean field fields all))

one_line : (field : Header) → print_field (line_of field) ≡ field_line field
one_line field = simp append_assoc

all_lines : (fields : List Header) → flat_map print_field (map line_of fields) ≡ flat_map field_line fields
all_lines [] = refl
all_lines (field ∷ fields) = λ i. one_line field i ++ all_lines fields i

-- ---- heads

-- the head of a request
abbrev pub head_of : Request → RequestHead
head_of r = record {
  blank = [];
  method = r.method;
  target = r.target;
  minor = 1;
  line_end = crlf;
  fields = map line_of r.fields;
  last = crlf;
}

-- a request whose method is a token, whose target is visible and not empty, and whose fields are clean
pub record IsWritable (r : Request) : Type 0 where
  pub method : IsToken r.method
  pub target_some : 0 < length r.target
  pub target : All IsVisible r.target
  pub fields : All IsClean r.fields

pub is_head : (r : Request) → IsWritable r → IsRequestHead (head_of r)
is_head r is = record {
  method = is.method;
  target = (is.target_some, AllPass-visible r.target is.target);
  target_text = IsUtf8-visible r.target is.target;
  minor = omega arith;
  fields = are_lines r.fields is.fields;
}

pub fields_back : (r : Request) → IsWritable r → r.fields ≡ map name_and_value (head_of r).fields
fields_back r is = sym (read_back r.fields is.fields)

regroup : (a b c d e f g : List ℕ) → a ++ b ++ c ++ d ++ e ++ f ++ g ≡ a ++ (b ++ (c ++ (d ++ (e ++ (f ++ g)))))
regroup a b c d e f g = simp append_assoc

-- the bytes of a request are the head's, and the body
pub whole : (r : Request) → request_bytes r ≡ print_request (head_of r) ++ r.body
whole r =
    let lines = flat_map field_line r.fields in
    let end = codes "\r\n" in
    let behind : lines ++ (end ++ r.body) ≡ print_section (map line_of r.fields) crlf ++ r.body =
    sym (append_assoc lines end r.body) ∙ ap (λ text. text ++ end ++ r.body) (sym (all_lines r.fields)) in
    regroup r.method (codes " ") r.target (codes " HTTP/1.1\r\n") lines end r.body
    ∙ ap (λ text. r.method ++ (codes " " ++ (r.target ++ (codes " HTTP/1.1\r\n" ++ text)))) behind
    ∙ sym (print_request-append (head_of r) r.body)

-- how long field lines are
abbrev pub lines_size : List Header → ℕ
lines_size fields = length (flat_map field_line fields)

pub length_head : (r : Request) → length (print_request (head_of r)) ≡ length r.method + length r.target + lines_size r.fields + 14
length_head r =
    omega (arith, simp (length-append) at (ap length (whole r)))
