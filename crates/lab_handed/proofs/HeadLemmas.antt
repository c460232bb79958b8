-- Where a head's fields and its query stand.
use Rattle.std.proofs.Common.{arith, ◌==◌, ◌≡◌, ◌<◌, ◌≤◌, ◌⊎◌, inl, inr, ◌+◌, ℕ, zero, suc, List, [], ◌∷◌, ◌++◌, length, take, drop, Bool, true, false, cond, not, ◌&&◌, codes, refl, sym, ap, subst, ◌∙◌, append_assoc, length-append}
use Rattle.std.specs.Prelude.{IsTrue}
use Rattle.std.specs.List.{prefix_len, position_or_len, after_first}
use Rattle.std.proofs.lemmas.Bool.{cases_lt}
use Rattle.std.proofs.lemmas.Bool.Decides.{nat_tests}
use Rattle.std.proofs.lemmas.List.{take_at, drop_at, drop_all}
use Rattle.std.proofs.lemmas.List.Elements.{All-head, All-tail}
use Rattle.httparse.specs.Grammar.{is_token_byte, is_uri_byte, AllPass, LineEnd, crlf, lf, print_end, print_blank, print_version, print_section, RequestHead, print_request, IsRequestHead}
use Rattle.http_edge.specs.Message.{Request}
use Rattle.http_edge.specs.Asks.{has_field, asks_early}
use Rattle.http_edge.specs.declared.asks.Want.TheVariants.{Value}
use Rattle.lab_front.specs.Queries.{query_of}
use Rattle.lab_handed.specs.Early.{with_field, early_head, early_line}
use Rattle.lab_handed.specs.Keys.{with_key, key_head}
use Rattle.lab_handed.specs.Changes.{fields_in, behind, place_of, text_of, put_in}
use Rattle.lab_handed.specs.declared.changing.Change.{Change}
use Rattle.lab_handed.specs.declared.changing.Change.TheVariants.{Early}

-- ---- what stands behind the first byte that passes

abbrev NonePass : (ℕ → Bool) → List ℕ → Type 0
NonePass p [] = Unit {0}
NonePass p (b ∷ bytes) = (p b ≡ false) × NonePass p bytes

none_on : (p : ℕ → Bool) (a b : List ℕ) → NonePass p a → NonePass p b → NonePass p (a ++ b)
none_on p [] b x y = y
none_on p (c ∷ a) b x y = (x.0, none_on p a b x.1 y)

place_is : (p : ℕ → Bool) (a : List ℕ) (x : ℕ) (b : List ℕ) → NonePass p a → p x ≡ true → position_or_len p (a ++ x ∷ b) ≡ length a
place_is p [] x b none is = rw is refl
place_is p (c ∷ a) x b none is =
    let later = place_is p a x b none.1 is in
    let here = none.0 in
    rw (here, later) (omega arith)

after_is : (p : ℕ → Bool) (a : List ℕ) (x : ℕ) (b : List ℕ) → NonePass p a → p x ≡ true → after_first p (a ++ x ∷ b) ≡ b
after_is p a x b none is =
    ap (λ n. drop (n + 1) (a ++ x ∷ b)) (place_is p a x b none is)
    ∙ ap (drop (length a + 1)) (sym (append_assoc a (x ∷ []) b))
    ∙ drop_at (a ++ x ∷ []) b (length a + 1) (length-append a (x ∷ []))

-- ---- bytes that aren't this one

is_same : (b n : ℕ) → (b == n) ≡ true → b ≡ n
is_same b n e = grind (arith, nat_tests)

is_other : (n : ℕ) (test : ℕ → Bool) (b : ℕ) → (IsTrue (test n) → ⊥) → IsTrue (test b) → (b == n) ≡ false
is_other n test b lacks pass = by (b == n) refl
  where
    by : (t : Bool) → (b == n) ≡ t → t ≡ false
    by true e = absurd (lacks (subst (λ k. IsTrue (test k)) (is_same b n e) pass))
    by false e = refl

none_is : (n : ℕ) (test : ℕ → Bool) → (IsTrue (test n) → ⊥) → (bytes : List ℕ) → AllPass test bytes → NonePass (λ b. b == n) bytes
none_is n test lacks [] pass = tt
none_is n test lacks (b ∷ bytes) pass = (
  is_other n test b lacks (All-head (λ c. IsTrue (test c)) b bytes pass),
  none_is n test lacks bytes (All-tail (λ c. IsTrue (test c)) b bytes pass),
)

in_token : (bytes : List ℕ) → AllPass is_token_byte bytes → NonePass (λ b. b == 32) bytes
unfolding is_token_byte
in_token bytes pass = none_is 32 is_token_byte (λ (t : false ≡ true). cc) bytes pass

in_token_of : (bytes : List ℕ) → AllPass is_token_byte bytes → NonePass (λ b. b == 63) bytes
unfolding is_token_byte
in_token_of bytes pass = none_is 63 is_token_byte (λ (t : false ≡ true). cc) bytes pass

in_target : (bytes : List ℕ) → AllPass is_uri_byte bytes → NonePass (λ b. b == 32) bytes
in_target bytes pass = none_is 32 is_uri_byte (λ (t : false ≡ true). cc) bytes pass

in_blank : (ends : List LineEnd) → NonePass (λ b. b == 32) (print_blank ends)
in_blank [] = tt
in_blank (crlf ∷ ends) = (refl, (refl, in_blank ends))
in_blank (lf ∷ ends) = (refl, in_blank ends)

in_blank_of : (ends : List LineEnd) → NonePass (λ b. b == 63) (print_blank ends)
in_blank_of [] = tt
in_blank_of (crlf ∷ ends) = (refl, (refl, in_blank_of ends))
in_blank_of (lf ∷ ends) = (refl, in_blank_of ends)

in_version : (minor : ℕ) → minor ≤ 1 → NonePass (λ b. b == 10) (print_version minor)
in_version zero le = (refl, (refl, (refl, (refl, (refl, (refl, (refl, (refl, tt))))))))
in_version (suc zero) le = (refl, (refl, (refl, (refl, (refl, (refl, (refl, (refl, tt))))))))
in_version (suc (suc n)) le = absurd (omega (arith, le))

-- ---- the parts of a head

abbrev pub section_of : RequestHead → List ℕ
section_of h = print_section h.fields h.last

abbrev pub start_of : RequestHead → List ℕ
start_of h = (print_blank h.blank ++ h.method) ++ 32 ∷ (h.target ++ 32 ∷ (print_version h.minor ++ print_end h.line_end))

laid : (blank method target version end section : List ℕ)
    → blank ++ method ++ 32 ∷ target ++ 32 ∷ version ++ end ++ section ≡ ((blank ++ method) ++ 32 ∷ (target ++ 32 ∷ (version ++ end))) ++ section
laid blank method target version end section = simp append_assoc

pub parted : (h : RequestHead) → print_request h ≡ start_of h ++ section_of h
unfolding print_request
parted h = laid (print_blank h.blank) h.method h.target (print_version h.minor) (print_end h.line_end) (section_of h)

laid_first : (front target version end section : List ℕ)
    → (front ++ 32 ∷ (target ++ 32 ∷ (version ++ end))) ++ section ≡ front ++ 32 ∷ (target ++ 32 ∷ (version ++ (end ++ section)))
laid_first front target version end section = simp append_assoc

behind_line : (minor : ℕ) (end : LineEnd) (section : List ℕ) → minor ≤ 1
    → after_first (λ b. b == 10) (print_version minor ++ (print_end end ++ section)) ≡ section
behind_line minor crlf section le =
    ap (after_first (λ b. b == 10)) (sym (append_assoc (print_version minor) (13 ∷ []) (10 ∷ section)))
    ∙ after_is (λ b. b == 10) (print_version minor ++ 13 ∷ []) 10 section
    (none_on (λ b. b == 10) (print_version minor) (13 ∷ []) (in_version minor le) (refl, tt)) refl
behind_line minor lf section le = after_is (λ b. b == 10) (print_version minor) 10 section (in_version minor le) refl

pub fields_are : (h : RequestHead) → IsRequestHead h → fields_in (print_request h) ≡ section_of h
fields_are h v =
    let rest : List ℕ = print_version h.minor ++ (print_end h.line_end ++ section_of h) in
    let blank : ℕ → Bool = λ b. b == 32 in
    let first : after_first blank (start_of h ++ section_of h) ≡ h.target ++ 32 ∷ rest =
    ap (after_first blank) (laid_first (print_blank h.blank ++ h.method) h.target (print_version h.minor) (print_end h.line_end) (section_of h))
    ∙ after_is blank (print_blank h.blank ++ h.method) 32 (h.target ++ 32 ∷ rest)
    (none_on blank (print_blank h.blank) h.method (in_blank h.blank) (in_token h.method v.method.1)) refl in
    let second : after_first blank (h.target ++ 32 ∷ rest) ≡ rest = after_is blank h.target 32 rest (in_target h.target v.target.1) refl in
    ap fields_in (parted h) ∙ ap (λ l. after_first (λ b. b == 10) (after_first blank l)) first ∙ ap (after_first (λ b. b == 10)) second
    ∙ behind_line h.minor h.line_end (section_of h) v.minor

put_at : (change : Change) (head start back : List ℕ) → head ≡ start ++ back → behind change head ≡ back
    → put_in (place_of change head) (text_of change) head ≡ start ++ (text_of change ++ back)
put_at change head start back e f =
    let place : place_of change head ≡ length start = omega (arith, ap length e, ap length f, length-append start back) in
    (λ i. put_in (place i) (text_of change) (e i))
    ∙ (λ i. take_at start back (length start) refl i ++ (text_of change ++ drop_at start back (length start) refl i))

-- what is put in makes it longer by as many bytes
pub longer_by : (change : Change) (head start back : List ℕ) → head ≡ start ++ back
    → length (start ++ (text_of change ++ back)) ≡ length head + length (text_of change)
longer_by change head start back e =
    omega (
      arith,
      ap length e,
      length-append start (text_of change ++ back),
      length-append (text_of change) back,
      length-append start back,
    )

-- ---- a head with the field

with_it : (h : RequestHead) → print_request (early_head h) ≡ start_of h ++ (early_line ++ section_of h)
with_it h = parted (early_head h)

pub puts_field : (h : RequestHead) → IsRequestHead h
    → put_in (place_of Early (print_request h)) early_line (print_request h) ≡ print_request (early_head h)
puts_field h v = put_at Early (print_request h) (start_of h) (section_of h) (parted h) (fields_are h v) ∙ sym (with_it h)

pub longer : (h : RequestHead) → length (print_request (early_head h)) ≡ length (print_request h) + length early_line
longer h = ap length (with_it h) ∙ longer_by Early (print_request h) (start_of h) (section_of h) (parted h)

-- ---- a target with a query

-- what stands before its first question mark, and behind it
pub record HasQuery (target : List ℕ) : Type 0 where
  pub front : List ℕ
  pub back : List ℕ
  pub none : NonePass (λ b. b == 63) front
  pub whole : target ≡ front ++ 63 ∷ back

cut : (target : List ℕ) → position_or_len (λ b. b == 63) target < length target → HasQuery target
cut [] less = absurd (omega (arith, less))
cut (c ∷ cs) less = by (c == 63) refl less (cut cs)
  where
    more : (c == 63) ≡ false → HasQuery cs → HasQuery (c ∷ cs)
    more e q = record { front = c ∷ q.front; back = q.back; none = (e, q.none); whole = ap (λ l. c ∷ l) q.whole }

    by : (t : Bool) → (c == 63) ≡ t → cond (not t) (1 + prefix_len (λ x. not (x == 63)) cs) 0 < suc (length cs)
        → (position_or_len (λ b. b == 63) cs < length cs → HasQuery cs) → HasQuery (c ∷ cs)
    by true e less later = record { front = []; back = cs; none = tt; whole = ap (λ b. b ∷ cs) (is_same c 63 e) }
    by false e less later = more e (later (omega arith))

-- where its query passes a test that no empty one does
pub has_query : (test : List ℕ → Bool) (target : List ℕ) → test [] ≡ false → test (query_of target) ≡ true → HasQuery target
has_query test target lacks tells = by (cases_lt (position_or_len (λ b. b == 63) target) (length target))
  where
    by : (position_or_len (λ b. b == 63) target < length target) ⊎ (length target ≤ position_or_len (λ b. b == 63) target) → HasQuery target
    by (inl less) = cut target less
    by (inr none) =
        let nothing : query_of target ≡ [] = drop_all (position_or_len (λ b. b == 63) target + 1) target (omega (arith, none)) in
        let no : false ≡ true = sym lacks ∙ sym (ap test nothing) ∙ tells in
        absurd (cc)

module _ (change : Change) (is_key : (head : List ℕ) → behind change head ≡ after_first (λ b. b == 63) head) (h : RequestHead) (v : IsRequestHead h)
    (q : HasQuery h.target) where
  abbrev key : List ℕ
  key = text_of change

  abbrev mark : ℕ → Bool
  mark b = b == 63

  abbrev rest : List ℕ
  rest = print_version h.minor ++ (print_end h.line_end ++ section_of h)

  abbrev start : List ℕ
  start = (((print_blank h.blank ++ h.method) ++ 32 ∷ q.front) ++ 63 ∷ [])

  pub key_is : with_key key h.target ≡ q.front ++ 63 ∷ (key ++ q.back)
  key_is =
      ap (with_key key) q.whole
      ∙ (λ i. take (place_is mark q.front 63 q.back q.none refl i) (q.front ++ 63 ∷ q.back)
      ++ 63 ∷ (key ++ after_is mark q.front 63 q.back q.none refl i))
      ∙ ap (λ l. l ++ 63 ∷ (key ++ q.back)) (take_at q.front (63 ∷ q.back) (length q.front) refl)

  -- a head with a target of these parts
  laid_query : (front a b version end section : List ℕ)
      → (front ++ 32 ∷ ((a ++ 63 ∷ b) ++ 32 ∷ (version ++ end))) ++ section ≡ ((front ++ 32 ∷ a) ++ 63 ∷ []) ++ (b ++ 32 ∷ (version ++ (end ++ section)))
  laid_query front a b version end section = simp append_assoc

  with_target : (target a b : List ℕ) → target ≡ a ++ 63 ∷ b
      → print_request (record h { target = target }) ≡ ((((print_blank h.blank ++ h.method) ++ 32 ∷ a) ++ 63 ∷ []) ++ (b ++ 32 ∷ rest))
  with_target target a b e =
      parted (record h { target = target })
      ∙ ap (λ l. ((print_blank h.blank ++ h.method) ++ 32 ∷ (l ++ 32 ∷ (print_version h.minor ++ print_end h.line_end))) ++ section_of h) e
      ∙ laid_query (print_blank h.blank ++ h.method) a b (print_version h.minor) (print_end h.line_end) (section_of h)

  query_at : print_request h ≡ start ++ (q.back ++ 32 ∷ rest)
  query_at = with_target h.target q.front q.back q.whole

  changed_is : print_request (key_head key h) ≡ start ++ (key ++ (q.back ++ 32 ∷ rest))
  changed_is =
      with_target (with_key key h.target) q.front (key ++ q.back) key_is
      ∙ ap (λ l. start ++ l) (append_assoc key q.back (32 ∷ rest))

  no_mark : NonePass mark ((print_blank h.blank ++ h.method) ++ 32 ∷ q.front)
  no_mark =
      none_on mark (print_blank h.blank ++ h.method) (32 ∷ q.front)
      (none_on mark (print_blank h.blank) h.method (in_blank_of h.blank) (in_token_of h.method v.method.1)) (refl, q.none)

  behind_is : behind change (print_request h) ≡ q.back ++ 32 ∷ rest
  behind_is =
      is_key (print_request h)
      ∙ ap (after_first mark) (query_at ∙ append_assoc ((print_blank h.blank ++ h.method) ++ 32 ∷ q.front) (63 ∷ []) (q.back ++ 32 ∷ rest))
      ∙ after_is mark ((print_blank h.blank ++ h.method) ++ 32 ∷ q.front) 63 (q.back ++ 32 ∷ rest) no_mark refl

  pub puts_key : put_in (place_of change (print_request h)) key (print_request h) ≡ print_request (key_head key h)
  puts_key = put_at change (print_request h) start (q.back ++ 32 ∷ rest) query_at behind_is ∙ sym changed_is

  pub longer_key : length (print_request (key_head key h)) ≡ length (print_request h) + length key
  longer_key = ap length changed_is ∙ longer_by change (print_request h) start (q.back ++ 32 ∷ rest) query_at

-- ---- who asks

and_true : (t : Bool) → (t && true) ≡ t
and_true true = refl
and_true false = refl

pub asks_it : (request : Request) → asks_early (with_field request) ≡ not (has_field (codes "x-engine-early") Value (codes "no") request.fields)
asks_it request = and_true (not (has_field (codes "x-engine-early") Value (codes "no") request.fields))
