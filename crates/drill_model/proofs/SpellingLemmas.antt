-- Requests of a drill as spellings of the grammar (RFC 9112, section 2.1): what stands in a head, and what ends it.
use Rattle.std.proofs.Common.{arith, ◌≡◌, ◌<◌, ◌+◌, ℕ, Bool, true, false, List, [], ◌∷◌, ◌++◌, length, map, refl, sym, ap, subst, ◌∙◌, append_assoc, length-append, codes, lit<, lit≤}
use Rattle.std.specs.Prelude.{All, IsUtf8, ◌&&◌, nat_lt, decimal}
use Rattle.std.specs.List.{list_all, range_with_len}
use Rattle.std.specs.Fmt.{digits}
use Rattle.std.proofs.lemmas.List.Sums.{AllPass-from_list_all}
use Rattle.std.proofs.lemmas.List.FromFn.{get_or-range_with_len}
use Rattle.std.proofs.lemmas.List.Elements.{All-weaker}
use Rattle.std.proofs.lemmas.Bool.Decides.{nat_tests}
use Rattle.std.proofs.lemmas.Str.{IsUtf8-from_ascii}
use Rattle.std.proofs.lemmas.Str.Ascii.{IsAscii-from_all}
use Rattle.httparse.specs.Grammar.{is_token_byte, is_uri_byte, is_value_byte, trim_ows, AllPass, is_token, Field, print_section, IsField, crlf, RequestHead, print_request}
use Rattle.httparse.specs.Spans.{name_and_value}
use Rattle.http_edge.specs.Framing.{framing_of}
use Rattle.http_edge.specs.Message.{Request}
use Rattle.http_edge.specs.Spelling.{SpellsBody, Spells}
use Rattle.http_edge.specs.declared.framing.Framing.TheVariants.{Length}
use Rattle.drill_model.specs.Requests.{create_body, bare_end, sized_end}
use Rattle.drill_model.specs.declared.deed.Program.{Program}
use Rattle.drill_model.specs.declared.deed.Program.TheVariants.{Deaf, Exit, Tick, Flaky}

-- ---- the parts of a request

-- a field of a name and a value
abbrev pub field_of : List ℕ → List ℕ → Field
field_of name value = record { name = name; raw = codes " " ++ value; end = crlf }

abbrev pub host : List Field
host = field_of (codes "Host") (codes "x") ∷ []

abbrev pub sized : List ℕ → List Field
sized body = field_of (codes "Host") (codes "x") ∷ field_of (codes "Content-Length") (decimal (length body)) ∷ []

-- a head of HTTP/1.1
abbrev head_of : List ℕ → List ℕ → List Field → RequestHead
head_of method target fields = record {
  blank = [];
  method = method;
  target = target;
  minor = 1;
  line_end = crlf;
  fields = fields;
  last = crlf;
}

-- the request that is read of it
abbrev pub asked_of : List ℕ → List ℕ → List Field → List ℕ → Request
asked_of method target fields body = record { method = method; target = target; fields = map name_and_value fields; body = body }

-- ---- tests

all_pass : (test : ℕ → Bool) (bytes : List ℕ) → list_all test bytes ≡ true → AllPass test bytes
all_pass test bytes is = AllPass-from_list_all test bytes is

both : (a b : Bool) → (a && b) ≡ true → (a ≡ true) × (b ≡ true)
both true b is = (refl, is)
both false b is = let never : ⊥ = cc in absurd never

below : (m n : ℕ) → nat_lt m n ≡ true → m < n
below m n is = grind (arith, nat_tests)

-- what a test says of each of 32 numbers
pub each : (test : ℕ → Bool) → list_all test (range_with_len 0 32) ≡ true → (k : ℕ) → k < 32 → test k ≡ true
each test all k fits =
    let within : k < length (range_with_len 0 32) = fits in
    let at : 0 + k ≡ k = omega arith in
    subst (λ n. test n ≡ true) (get_or-range_with_len 0 32 k 0 fits ∙ at) (AllPass-from_list_all test (range_with_len 0 32) all k 0 within)

-- ---- one request

pub record IsTarget (target : List ℕ) : Type 0 where
  pub some : 0 < length target
  pub short : length target < 64
  pub bytes : AllPass is_uri_byte target
  pub text : IsUtf8 target

abbrev pub is_target : List ℕ → Bool
is_target target =
    nat_lt 0 (length target) && (nat_lt (length target) 64 && (list_all is_uri_byte target && list_all (λ b. nat_lt b 128) target))

ascii : (bytes : List ℕ) → list_all (λ b. nat_lt b 128) bytes ≡ true → IsUtf8 bytes
ascii bytes is =
    IsUtf8-from_ascii bytes (IsAscii-from_all bytes (All-weaker (λ b. nat_lt b 128 ≡ true) (λ b. b < 128) (λ b small. below b 128 small) bytes
    (AllPass-from_list_all (λ b. nat_lt b 128) bytes is)))

pub target_of : (target : List ℕ) → is_target target ≡ true → IsTarget target
target_of target is =
    let first = both _ _ is in
    let second = both _ _ first.1 in
    let third = both _ _ second.1 in
    record {
      some = below _ _ first.0;
      short = below _ _ second.0;
      bytes = all_pass is_uri_byte target third.0;
      text = ascii target third.1;
    }

abbrev is_field : Field → Bool
is_field f = is_token f.name && list_all is_value_byte f.raw

field_by : (f : Field) → is_field f ≡ true → IsField f
field_by f is =
    let parts = both (is_token f.name) (list_all is_value_byte f.raw) is in
    let name = both _ _ parts.0 in
    record { name = (below _ _ name.0, all_pass is_token_byte f.name name.1); raw = all_pass is_value_byte f.raw parts.1 }

fields_by_test : (fields : List Field) → list_all is_field fields ≡ true → All IsField fields
fields_by_test fields is = All-weaker (λ f. is_field f ≡ true) IsField field_by fields (AllPass-from_list_all is_field fields is)

-- what stands behind a target: the rest of the head, and the body
pub record IsEnd (fields : List Field) (body end : List ℕ) : Type 0 where
  pub valid : All IsField fields
  pub framed : framing_of 1 (map name_and_value fields) ≡ Length (length body)
  pub small : length (print_section fields crlf) < 1000
  pub whole : end ≡ ((codes " HTTP/1.1" ++ codes "\r\n") ++ print_section fields crlf) ++ body

pieces : (m t a b c d : List ℕ) → ((m ++ (32 ∷ [])) ++ t) ++ (((a ++ b) ++ c) ++ d) ≡ ((((m ++ (32 ∷ t)) ++ a) ++ b) ++ c) ++ d
pieces m t a b c d =
    let x : List ℕ = m ++ (32 ∷ t) in
    ap (λ y. y ++ (((a ++ b) ++ c) ++ d)) (append_assoc m (32 ∷ []) t)
    ∙ sym (append_assoc x ((a ++ b) ++ c) d)
    ∙ ap (λ y. y ++ d) (sym (append_assoc x (a ++ b) c) ∙ ap (λ y. y ++ c) (sym (append_assoc x a b)))

pub lengths : (m t a b c : List ℕ) → length ((((m ++ (32 ∷ t)) ++ a) ++ b) ++ c) ≡ length m + (1 + length t) + length a + length b + length c
lengths m t a b c = simp length-append (omega arith)

pub spells : (method target : List ℕ) (fields : List Field) (body end : List ℕ) → is_token method ≡ true → length method < 8 → IsTarget target
    → IsEnd fields body end → Spells (method ++ codes " " ++ target ++ end) (asked_of method target fields body)
unfolding print_request
spells method target fields body end token short is behind =
    let name = both _ _ token in
    record {
      head = head_of method target fields;
      coded = body;
      valid = record {
        method = (below _ _ name.0, all_pass is_token_byte method name.1);
        target = (is.some, is.bytes);
        target_text = is.text;
        minor = lit≤ tt;
        fields = behind.valid;
      };
      small = omega (arith, lengths method target (codes " HTTP/1.1") (codes "\r\n") (print_section fields crlf), short, is.short, behind.small);
      body = subst (λ f. SpellsBody f body body) (sym behind.framed) (refl, refl);
      method = refl;
      target = refl;
      fields = refl;
      whole =
          ap (λ e. ((method ++ codes " ") ++ target) ++ e) behind.whole
          ∙ pieces method target (codes " HTTP/1.1") (codes "\r\n") (print_section fields crlf) body;
    }

-- ---- their ends

pub bare : IsEnd host [] bare_end
unfolding trim_ows is_token_byte
bare = record {
  valid = fields_by_test host refl;
  framed = refl;
  small = lit< tt;
  whole = refl;
}

pub sized_by : (program : Program) → IsEnd (sized (create_body program)) (create_body program) (sized_end (create_body program))
unfolding trim_ows is_token_byte digits
sized_by Deaf = record { valid = fields_by_test (sized (create_body Deaf)) refl; framed = refl; small = lit< tt; whole = refl }
sized_by Exit = record { valid = fields_by_test (sized (create_body Exit)) refl; framed = refl; small = lit< tt; whole = refl }
sized_by Tick = record { valid = fields_by_test (sized (create_body Tick)) refl; framed = refl; small = lit< tt; whole = refl }
sized_by Flaky = record { valid = fields_by_test (sized (create_body Flaky)) refl; framed = refl; small = lit< tt; whole = refl }
