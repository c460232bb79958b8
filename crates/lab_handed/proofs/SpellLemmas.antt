-- What is handed on in the place of a request's bytes spells the request, or the request as it is changed.
use Rattle.std.proofs.Common.{arith, ◌==◌, nat_lt, nat_le, ◌≡◌, ◌<◌, ◌≤◌, ◌⊎◌, inl, inr, ◌+◌, ℕ, suc, List, [], ◌∷◌, ◌++◌, length, map, Bool, true, false, ◌&&◌, cond, Some, None, codes, refl, sym, ap, subst, ◌∙◌, append-nil, length-append}
use Rattle.std.specs.Prelude.{IsTrue, IsUtf8}
use Rattle.std.specs.List.{list_all, after_first}
use Rattle.std.specs.Str.{bytes_eq}
use Rattle.std.proofs.lemmas.Bool.Decides.{nat_tests}
use Rattle.std.proofs.lemmas.List.Elements.{All-cons, All-weaker}
use Rattle.std.proofs.lemmas.List.Folds.{list_all-append}
use Rattle.std.proofs.lemmas.List.Sums.{AllPass-from_list_all, list_all-from_AllPass}
use Rattle.std.proofs.lemmas.Str.{IsUtf8-from_ascii}
use Rattle.std.proofs.lemmas.Str.Ascii.{IsAscii-from_all}
use Rattle.httparse.specs.Grammar.{IsField, is_token_byte, is_uri_byte, is_value_byte, trim_ows, RequestHead, IsRequestHead, print_request}
use Rattle.httparse.specs.Spans.{name_and_value}
use Rattle.http_edge.specs.Message.{Header, Request}
use Rattle.http_edge.specs.Framing.{framing_of}
use Rattle.http_edge.specs.Spelling.{head_framing, SpellsBody, Spells}
use Rattle.http_edge.specs.declared.framing.Framing.TheVariants.{Length}
use Rattle.lab_front.specs.Queries.{query_of}
use Rattle.lab_front.specs.Rows.{path_of}
use Rattle.lab_handed.specs.Early.{waits, takes_field, early_field, with_field, early_head}
use Rattle.lab_handed.specs.Exact.{is_path_of_list, asks_exact, is_target_exact, takes_exact}
use Rattle.lab_handed.specs.Keys.{are_ascii, with_key, key_request, key_head}
use Rattle.lab_handed.specs.Since.{is_path_of_events, tells_until_alone, is_target_until, takes_since}
use Rattle.lab_handed.specs.Changes.{change_of, changed, behind, text_of, place_of, put_in, handed}
use Rattle.lab_handed.specs.declared.changing.Change.{Change}
use Rattle.lab_handed.specs.declared.changing.Change.TheVariants.{Early, Since, Exact}
use Rattle.lab_handed.proofs.HeadLemmas.{puts_field, longer, HasQuery, has_query, key_is, puts_key, longer_key}

-- ---- the framing of a head with the field

few : (n : ℕ) → nat_lt n 64 ≡ true → (nat_lt 64 n ≡ false) × (nat_lt 64 (suc n) ≡ false)
few n e = (grind (arith, nat_tests), grind (arith, nat_tests))

same_framing : (minor : ℕ) (fields : List Header) → nat_lt (length fields) 64 ≡ true
    → framing_of minor ((codes "X-Engine-Early", codes "wait") ∷ fields) ≡ framing_of minor fields
same_framing minor fields less =
    let are = few (length fields) less in
    let before = are.0 in
    let behind = are.1 in
    rw (behind, before) refl

both : (a b : Bool) → (a && b) ≡ true → (a ≡ true) × (b ≡ true)
both true b e = (refl, e)
both false b e = absurd (cc)

-- ---- a valid head stays valid

name_is_token : IsField early_field
unfolding is_token_byte
name_is_token = record {
  name = (omega arith, AllPass-from_list_all is_token_byte early_field.name refl);
  raw = AllPass-from_list_all is_value_byte early_field.raw refl;
}

field_is : name_and_value early_field ≡ (codes "X-Engine-Early", codes "wait")
unfolding trim_ows
field_is = refl

stays_valid : (h : RequestHead) → IsRequestHead h → IsRequestHead (early_head h)
stays_valid h v = record {
  method = v.method;
  target = v.target;
  target_text = v.target_text;
  minor = v.minor;
  fields = All-cons IsField early_field h.fields name_is_token v.fields;
}

-- ---- a target with the key

-- what holds of each byte still does
still : (p : ℕ → Bool) (a b key : List ℕ) → list_all p (a ++ 63 ∷ b) ≡ true → list_all p key ≡ true → list_all p (a ++ 63 ∷ (key ++ b)) ≡ true
still p [] b key all is =
    let are = both (p 63) (list_all p b) all in
    let first = are.0 in
    let rest = are.1 in
    rw (first, list_all-append p key b, is, rest) refl
still p (c ∷ a) b key all is =
    let are = both (p c) (list_all p (a ++ 63 ∷ b)) all in
    let first = are.0 in
    let rest = still p a b key are.1 is in
    rw (first, rest) refl

below : (b : ℕ) → IsTrue (nat_lt b 128) → b < 128
below b t = grind (arith, nat_tests)

ascii_text : (bytes : List ℕ) → are_ascii bytes ≡ true → IsUtf8 bytes
ascii_text bytes all =
    IsUtf8-from_ascii bytes (IsAscii-from_all bytes
    (All-weaker (λ b. IsTrue (nat_lt b 128)) (λ b. b < 128) below bytes (AllPass-from_list_all (λ b. nat_lt b 128) bytes all)))

module _ (change : Change) (is_key : (head : List ℕ) → behind change head ≡ after_first (λ b. b == 63) head)
    (is_uri : list_all is_uri_byte (text_of change) ≡ true) (is_ascii : are_ascii (text_of change) ≡ true)
    (h : RequestHead) (v : IsRequestHead h) (q : HasQuery h.target) (ascii : are_ascii h.target ≡ true) where
  with_it : (p : ℕ → Bool) → list_all p h.target ≡ true → list_all p (text_of change) ≡ true → list_all p (with_key (text_of change) h.target) ≡ true
  with_it p all key =
      ap (list_all p) (key_is change is_key h v q) ∙ still p q.front q.back (text_of change) (sym (ap (list_all p) q.whole) ∙ all) key

  some : 0 < length (with_key (text_of change) h.target)
  some = omega (arith, ap length (key_is change is_key h v q), length-append q.front (63 ∷ (text_of change ++ q.back)))

  pub valid_key : IsRequestHead (key_head (text_of change) h)
  valid_key = record {
    method = v.method;
    target = (
      some,
      AllPass-from_list_all is_uri_byte (with_key (text_of change) h.target)
          (with_it is_uri_byte (list_all-from_AllPass is_uri_byte h.target v.target.1) is_uri),
    );
    target_text = ascii_text (with_key (text_of change) h.target) (with_it (λ b. nat_lt b 128) ascii is_ascii);
    minor = v.minor;
    fields = v.fields;
  }

-- ---- what is asked of a request

asked_early : (r : Request) → change_of r ≡ Some Early → takes_field r ≡ true
asked_early r e = by (takes_field r) (takes_since r) (takes_exact r) refl e
  where
    by : (t u w : Bool) → takes_field r ≡ t → cond t (Some Early) (cond u (Some Since) (cond w (Some Exact) None)) ≡ Some Early → takes_field r ≡ true
    by true u w is e = is
    by false true w is e = absurd (cc)
    by false false true is e = absurd (cc)
    by false false false is e = absurd (cc)

asked_since : (r : Request) → change_of r ≡ Some Since → takes_since r ≡ true
asked_since r e = by (takes_field r) (takes_since r) (takes_exact r) refl e
  where
    by : (t u w : Bool) → takes_since r ≡ u → cond t (Some Early) (cond u (Some Since) (cond w (Some Exact) None)) ≡ Some Since → takes_since r ≡ true
    by true u w is e = absurd (cc)
    by false true w is e = is
    by false false true is e = absurd (cc)
    by false false false is e = absurd (cc)

asked_exact : (r : Request) → change_of r ≡ Some Exact → takes_exact r ≡ true
asked_exact r e = by (takes_field r) (takes_since r) (takes_exact r) refl e
  where
    by : (t u w : Bool) → takes_exact r ≡ w → cond t (Some Early) (cond u (Some Since) (cond w (Some Exact) None)) ≡ Some Exact → takes_exact r ≡ true
    by true u w is e = absurd (cc)
    by false true w is e = absurd (cc)
    by false false true is e = is
    by false false false is e = absurd (cc)

-- its target is of ASCII, and its query passes a test
since_asks : (r : Request) → takes_since r ≡ true → (are_ascii r.target ≡ true) × (tells_until_alone (query_of r.target) ≡ true)
since_asks r takes =
    let target = (both (bytes_eq r.method (codes "GET")) (is_target_until r.target) takes).1 in
    let first = both (is_path_of_events (path_of r.target) && are_ascii r.target) (tells_until_alone (query_of r.target)) target in
    ((both (is_path_of_events (path_of r.target)) (are_ascii r.target) first.0).1, first.1)

exact_asks : (r : Request) → takes_exact r ≡ true → (are_ascii r.target ≡ true) × (asks_exact (query_of r.target) ≡ true)
exact_asks r takes =
    let target = (both (bytes_eq r.method (codes "GET")) (is_target_exact r.target) takes).1 in
    let first = both (is_path_of_list (path_of r.target) && are_ascii r.target) (nat_le (length r.target) 512 && asks_exact (query_of r.target)) target in (
      (both (is_path_of_list (path_of r.target)) (are_ascii r.target) first.0).1,
      (both (nat_le (length r.target) 512) (asks_exact (query_of r.target)) first.1).1,
    )

-- ---- what is handed on

module _ (spelling : List ℕ) (r : Request) (s : Spells spelling r) (framing : head_framing s.head ≡ Length 0) where
  sized : SpellsBody (Length 0) s.coded r.body
  sized = subst (λ f. SpellsBody f s.coded r.body) framing s.body

  no_bytes : (l : List ℕ) → length l ≡ 0 → l ≡ []
  no_bytes [] e = refl
  no_bytes (x ∷ xs) e = absurd (omega (arith, e))

  head_alone : spelling ≡ print_request s.head
  head_alone = s.whole ∙ ap (λ l. print_request s.head ++ l) (no_bytes s.coded sized.1) ∙ append-nil (print_request s.head)

  no_body : r.body ≡ []
  no_body = sized.0 ∙ no_bytes s.coded sized.1

  -- another head, in the place of the spelling
  spells_by : (h : RequestHead) (q : Request) (change : Change) → IsRequestHead h → head_framing h ≡ Length 0 → r.body ≡ q.body → q.method ≡ h.method
      → q.target ≡ h.target → q.fields ≡ map name_and_value h.fields
      → put_in (place_of change (print_request s.head)) (text_of change) (print_request s.head) ≡ print_request h
      → length (print_request h) ≡ length (print_request s.head) + length (text_of change) → length spelling + length (text_of change) ≤ 16384
      → Spells (put_in (place_of change spelling) (text_of change) spelling) q
  spells_by h q change valid framed body method target fields puts size le = record {
    head = h;
    coded = [];
    valid = valid;
    small = omega (arith, size, ap length head_alone, le);
    body = subst (λ f. SpellsBody f [] q.body) (sym framed) (sym body ∙ no_body, refl);
    method = method;
    target = target;
    fields = fields;
    whole = ap (λ l. put_in (place_of change l) (text_of change) l) head_alone ∙ puts ∙ sym (append-nil (print_request h));
  }

  few_fields : takes_field r ≡ true → nat_lt (length (map name_and_value s.head.fields)) 64 ≡ true
  few_fields takes = ap (λ l. nat_lt (length l) 64) (sym s.fields) ∙ (both (waits r) (nat_lt (length r.fields) 64) takes).1

  new_framing : takes_field r ≡ true → head_framing (early_head s.head) ≡ Length 0
  new_framing takes =
      ap (λ field. framing_of s.head.minor (field ∷ map name_and_value s.head.fields)) field_is
      ∙ same_framing s.head.minor (map name_and_value s.head.fields) (few_fields takes) ∙ framing

  with_key_room : (change : Change) → ((head : List ℕ) → behind change head ≡ after_first (λ b. b == 63) head)
      → list_all is_uri_byte (text_of change) ≡ true → are_ascii (text_of change) ≡ true
      → (test : List ℕ → Bool) → test [] ≡ false → are_ascii r.target ≡ true → test (query_of r.target) ≡ true
      → length spelling + length (text_of change) ≤ 16384
      → Spells (put_in (place_of change spelling) (text_of change) spelling) (key_request (text_of change) r)
  with_key_room change is_key is_uri is_ascii test lacks all passes le =
      let ascii : are_ascii s.head.target ≡ true = ap are_ascii (sym s.target) ∙ all in
      let q = has_query test s.head.target lacks (ap (λ t. test (query_of t)) (sym s.target) ∙ passes) in
      spells_by (key_head (text_of change) s.head) (key_request (text_of change) r) change
      (valid_key change is_key is_uri is_ascii s.head s.valid q ascii) framing refl s.method (ap (with_key (text_of change)) s.target) s.fields
      (puts_key change is_key s.head s.valid q) (longer_key change is_key s.head s.valid q) le

  with_room : (change : Change) → change_of r ≡ Some change → length spelling + length (text_of change) ≤ 16384
      → Spells (put_in (place_of change spelling) (text_of change) spelling) (changed change r)
  with_room Early is le =
      spells_by (early_head s.head) (with_field r) Early (stays_valid s.head s.valid) (new_framing (asked_early r is)) refl s.method s.target
      (ap (λ l. (codes "X-Engine-Early", codes "wait") ∷ l) s.fields ∙ ap (λ field. field ∷ map name_and_value s.head.fields) (sym field_is))
      (puts_field s.head s.valid) (longer s.head) le
  with_room Since is le =
      let asks = since_asks r (asked_since r is) in
      with_key_room Since (λ head. refl) refl refl tells_until_alone refl asks.0 asks.1 le
  with_room Exact is le =
      let asks = exact_asks r (asked_exact r is) in
      with_key_room Exact (λ head. refl) refl refl asks_exact refl asks.0 asks.1 le

  room_is : (n : ℕ) → nat_le n 16384 ≡ true → n ≤ 16384
  room_is n e = grind (arith, nat_tests)

  pub handed_spells : (change : Change) → change_of r ≡ Some change → Spells (handed change spelling) r ⊎ Spells (handed change spelling) (changed change r)
  handed_spells change is = by (nat_le (length spelling + length (text_of change)) 16384) refl
    where
      put : List ℕ
      put = put_in (place_of change spelling) (text_of change) spelling

      by : (t : Bool) → nat_le (length spelling + length (text_of change)) 16384 ≡ t
          → Spells (cond t put spelling) r ⊎ Spells (cond t put spelling) (changed change r)
      by true e = inr (with_room change is (room_is (length spelling + length (text_of change)) e))
      by false e = inl s

pub changed_is_handed : (change : Change) (spelling : List ℕ) (r : Request) (s : Spells spelling r) → head_framing s.head ≡ Length 0
    → change_of r ≡ Some change → Spells (handed change spelling) r ⊎ Spells (handed change spelling) (changed change r)
changed_is_handed change spelling r s framing is = handed_spells spelling r s framing change is
