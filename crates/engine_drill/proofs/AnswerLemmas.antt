-- How the bytes of an answer begin, and what of them tells its length.
use Rattle.std.proofs.Common.{arith, ◌≡◌, ◌<◌, ◌≤◌, ◌-◌, ◌^◌, ◌⊎◌, inl, inr, min, ℕ, Bool, true, false, List, [], ◌∷◌, ◌++◌, length, take, drop, refl, sym, ap, subst, ◌∙◌, append_assoc, append-nil, length-append, length-take-le, take-append-drop, codes, Option, Some, None, unwrap_or}
use Rattle.std.specs.Prelude.{decimal, IsTrue, IfNone}
use Rattle.std.proofs.lemmas.Bool.{cases_lt}
use Rattle.std.proofs.lemmas.List.{drop_at, drop_all}
use Rattle.std.proofs.lemmas.Fmt.{decimal_digit}
use Rattle.http_edge.specs.Response.{head_text, first_lines, form_lines, phrase_of, connection_line}
use Rattle.http_edge.specs.declared.head.Form.TheVariants.{Empty, Json}
use Rattle.response_reader.specs.Heads.{IsFinal, is_bare}
use Rattle.response_reader.specs.Numbers.{BeginsWithNumber}
use Rattle.session_model.specs.Responses.{answer_bytes}
use Rattle.drill_model.specs.Answers.{plain_terms, IsAnswer, HasNoAnswer}
use Rattle.engine_drill.specs.Reading.{form_by, head_by, before_length}

pub told_head : (status : ℕ) (body : List ℕ) → answer_bytes plain_terms status body ≡ head_text (head_by status (length body)) ++ body
told_head status body = refl

-- what is said of none
pub if_none : {A P : Type 0} (r : Option A) → P → IfNone r P
if_none None p = p
if_none (Some x) p = tt

pub never_found : (status : ℕ) → ◌≡◌ {A = Option ℕ} None (Some status) → ⊥
never_found status e = cc

some_same : {a b : ℕ} → Some a ≡ Some b → a ≡ b
some_same {a} {b} e = ap (λ o. unwrap_or o 0) e

-- what is left behind so many bytes, or behind all
pub drop_cut : (k cut : ℕ) (xs : List ℕ) → cut ≡ min (length xs) k → drop cut xs ≡ drop k xs
drop_cut k cut xs is = go (cases_lt (length xs) k)
  where
    go : (length xs < k) ⊎ (k ≤ length xs) → drop cut xs ≡ drop k xs
    go (inl less) =
        let all : cut ≡ length xs = omega (arith, is, less) in
        ap (λ n. drop n xs) all ∙ drop_all (length xs) xs (omega arith) ∙ sym (drop_all k xs (omega (arith, less)))
    go (inr le) = let same : cut ≡ k = omega (arith, is, le) in ap (λ n. drop n xs) same

-- ---- the status

status_first : (d p a g f r : List ℕ) → (((((((d ++ codes " ") ++ p) ++ a) ++ g) ++ f) ++ codes "\r\n") ++ r)
    ≡ d ++ 32 ∷ (p ++ (a ++ (g ++ (f ++ (codes "\r\n" ++ r)))))
status_first d p a g f r = simp append_assoc

-- it stands behind the version, and a blank behind it
pub status_told : (bare : Bool) (status size : ℕ) (rest : List ℕ)
    → BeginsWithNumber (drop 9 (head_text (record { status = status; form = form_by bare size; close = false }) ++ rest)) status
status_told true status size rest =
    (_, status_first (decimal status) (phrase_of status) (codes "\r\nApi-Version: 1.43\r\n") (connection_line false) (form_lines Empty) rest, refl)
status_told false status size rest =
    (_, status_first (decimal status) (phrase_of status) (codes "\r\nApi-Version: 1.43\r\n") (connection_line false) (form_lines (Json size)) rest, refl)

-- ---- the length

-- what stands behind it in a head that tells one
abbrev pub behind_length : List ℕ
behind_length = codes "\r\nContent-Type: application/json\r\nServer: engined\r\n\r\n"

sized : (f a d b c s e r : List ℕ) → ((f ++ ((((a ++ d) ++ b) ++ c) ++ s)) ++ e) ++ r ≡ (f ++ a) ++ (d ++ ((((b ++ c) ++ s) ++ e) ++ r))
sized f a d b c s e r = simp append_assoc

pub length_told : (status n : ℕ) (rest : List ℕ)
    → head_text (record { status = status; form = Json n; close = false }) ++ rest ≡ before_length status ++ (decimal n ++ (behind_length ++ rest))
length_told status n rest =
    sized (first_lines status false) (codes "Content-Length: ") (decimal n) (codes "\r\nContent-Type: ") (codes "application/json") (codes "\r\nServer: engined\r\n") (codes "\r\n") rest

-- its place, by the head that tells 0
pub length_place : (status : ℕ) → length (head_text (record { status = status; form = Json 0; close = false })) - 54 ≡ length (before_length status)
length_place status =
    let all = ap length (sym (append-nil (head_text (record { status = status; form = Json 0; close = false }))) ∙ length_told status 0 []) in
    let long = length-append (before_length status) (decimal 0 ++ (behind_length ++ [])) in
    let digit = ap length (decimal_digit 0 (omega arith)) in
    omega (arith, all, long, digit, length-append (decimal 0) (behind_length ++ []))

pub length_begins : (status n : ℕ) (rest bytes : List ℕ) → bytes ≡ head_text (record { status = status; form = Json n; close = false }) ++ rest
    → BeginsWithNumber (drop (length (before_length status)) bytes) n
length_begins status n rest bytes is =
    (behind_length ++ rest, ap (drop (length (before_length status))) (is ∙ length_told status n rest) ∙ drop_at (before_length status) (decimal n ++ (behind_length ++ rest)) (length (before_length status)) refl, refl)

-- ---- answers

-- they begin with their head
pub answer_front : (bytes one behind : List ℕ) (status : ℕ) (a : IsAnswer one status) → bytes ≡ one ++ behind
    → bytes ≡ head_text (head_by status (length a.body)) ++ (a.body ++ behind)
answer_front bytes one behind status a e =
    e ∙ ap (λ o. o ++ behind) a.bytes_are ∙ append_assoc (head_text (head_by status (length a.body))) a.body behind

pub status_begins : (bytes rest : List ℕ) (status size : ℕ) → bytes ≡ head_text (head_by status size) ++ rest → BeginsWithNumber (drop 9 bytes) status
status_begins bytes rest status size is =
    subst (λ b. BeginsWithNumber (drop 9 b) status) (sym is) (status_told (is_bare status) status size rest)

-- there is none where there is no status
pub none_by_status : (bytes : List ℕ) → ((status : ℕ) → IsFinal status → BeginsWithNumber (drop 9 bytes) status → ⊥) → HasNoAnswer bytes
none_by_status bytes never one behind status a e =
    never status a.final (status_begins bytes (a.body ++ behind) status (length a.body) (answer_front bytes one behind status a e))

-- where the status and the length are found, if there is an answer
module _ (bytes : List ℕ) (status size : ℕ)
    (status_is : (s : ℕ) → IsFinal s → BeginsWithNumber (drop 9 bytes) s → Some status ≡ Some s)
    (size_is : (n : ℕ) (behind : List ℕ) → n < 2 ^ 64 → (IsTrue (is_bare status) → n ≡ 0) → bytes ≡ head_text (head_by status n) ++ behind → size ≡ n) where
  -- what an answer has in front of it
  front : (one behind : List ℕ) (s : ℕ) (a : IsAnswer one s) → bytes ≡ one ++ behind
      → (size ≡ length a.body) × (bytes ≡ head_text (head_by status size) ++ (a.body ++ behind))
  front one behind s a e =
      let first : bytes ≡ head_text (head_by s (length a.body)) ++ (a.body ++ behind) = answer_front bytes one behind s a e in
      let same : status ≡ s = some_same (status_is s a.final (status_begins bytes (a.body ++ behind) s (length a.body) first)) in
      let head : bytes ≡ head_text (head_by status (length a.body)) ++ (a.body ++ behind) =
      subst (λ t. bytes ≡ head_text (head_by t (length a.body)) ++ (a.body ++ behind)) (sym same) first in
      let long : size ≡ length a.body =
      size_is (length a.body) (a.body ++ behind) a.small (λ bare. ap length (a.bodiless (subst (λ t. IsTrue (is_bare t)) same bare))) head in
      (long, subst (λ n. bytes ≡ head_text (head_by status n) ++ (a.body ++ behind)) (sym long) head)

  -- there is none where the head isn't there
  pub none_by_head : ((b : List ℕ) → bytes ≡ head_text (head_by status size) ++ b → ⊥) → HasNoAnswer bytes
  none_by_head never one behind s a e = never (a.body ++ behind) (front one behind s a e).1

  -- or fewer bytes than it tells are behind it
  pub none_by_size : (rest : List ℕ) → bytes ≡ head_text (head_by status size) ++ rest → length rest < size → HasNoAnswer bytes
  none_by_size rest is short one behind s a e =
      let f = front one behind s a e in
      let here = ap length is in
      let there = ap length f.1 in
      let long : size ≡ length a.body = f.0 in
      omega (
        arith,
        short,
        here,
        there,
        long,
        length-append (head_text (head_by status size)) rest,
        length-append (head_text (head_by status size)) (a.body ++ behind),
        length-append a.body behind,
      )

-- the head, and as many bytes as it tells, are one
pub is_answer : (bytes rest : List ℕ) (status size : ℕ) → IsFinal status → size < 2 ^ 64 → (IsTrue (is_bare status) → size ≡ 0)
    → bytes ≡ head_text (head_by status size) ++ rest → size ≤ length rest
    → (one : List ℕ) × IsAnswer one status × (bytes ≡ one ++ drop size rest)
is_answer bytes rest status size final small bare is enough =
    let body : List ℕ = take size rest in
    let long : length body ≡ size = length-take-le size rest enough in (
      head_text (head_by status size) ++ body,
      record {
        body = body;
        final = final;
        bodiless = λ b. ap (λ n. take n rest) (bare b);
        small = omega (arith, small, long);
        bytes_are = ap (λ n. head_text (head_by status n) ++ body) (sym long);
      },
      is ∙ ap (λ r. head_text (head_by status size) ++ r) (sym (take-append-drop size rest)) ∙ sym (append_assoc (head_text (head_by status size)) body (drop size rest)),
    )
