-- Family that tell a number, and which number the bytes tell.
use Rattle.std.proofs.Common.{arith, ◌≡◌, ◌<◌, ◌≤◌, ◌+◌, ◌^◌, ◌⊎◌, inl, inr, ℕ, List, [], ◌∷◌, length, ◌++◌, drop, get_or, Bool, false, sym, ap, subst, refl, ◌∙◌, append-nil, append_assoc, length-append, codes}
use Rattle.std.specs.Prelude.{decimal}
use Rattle.std.specs.Char.{is_ascii_digit}
use Rattle.std.proofs.lemmas.Bool.{cases_lt}
use Rattle.std.proofs.lemmas.List.{drop_at, get_or_append_left, get_or_at}
use Rattle.std.proofs.lemmas.Fmt.{decimal_digit, decimal_nonempty, first_decimal}
use Rattle.http_edge.specs.Response.{head_text, first_lines, chunked_lines, json_type, plain_type}
use Rattle.http_edge.specs.declared.head.Head.{Head}
use Rattle.response_reader.specs.Heads.{HasBody, Fits}
use Rattle.response_reader.specs.Numbers.{FirstDiffer, HasNoDigit, BeginsWithNumber}
use Rattle.response_reader.specs.Matching.{Family, FrontSays, either, IsOne, IsEither, form_with, head_with, IsNumbered}
use Rattle.response_reader.specs.declared.heads.Front.{Front}
use Rattle.response_reader.specs.declared.heads.Numbered.{Numbered}
use Rattle.response_reader.specs.declared.heads.Numbered.TheVariants.{Json, Plain, Events}
use Rattle.response_reader.proofs.ListLemmas.{cut_twice}
use Rattle.response_reader.proofs.NumberLemmas.{number_fronts}
use Rattle.response_reader.proofs.MatchLemmas.{IsShort, Covers, either_front, widened}

-- the text before the number, and behind it
abbrev before : Numbered → ℕ → Bool → List ℕ
before Json status close = first_lines status close ++ codes "Content-Length: "
before Plain status close = first_lines status close ++ codes "Content-Length: "
before Events status close = first_lines status close ++ (chunked_lines json_type ++ codes "X-Engine-From: ")

abbrev after : Numbered → List ℕ
after Json = codes "\r\nContent-Type: " ++ json_type ++ codes "\r\nServer: engined\r\n" ++ codes "\r\n"
after Plain = codes "\r\nContent-Type: " ++ plain_type ++ codes "\r\nServer: engined\r\n" ++ codes "\r\n"
after Events = codes "\r\n" ++ codes "\r\n"

sized : (f a d b c s e : List ℕ) → (f ++ ((((a ++ d) ++ b) ++ c) ++ s)) ++ e ≡ (f ++ a) ++ (d ++ (((b ++ c) ++ s) ++ e))
sized f a d b c s e = simp append_assoc

told : (f a x d t e : List ℕ) → (f ++ (a ++ ((x ++ d) ++ t))) ++ e ≡ (f ++ (a ++ x)) ++ (d ++ (t ++ e))
told f a x d t e = simp append_assoc

number_text : (kind : Numbered) (status n : ℕ) (close : Bool) → head_text (head_with kind status close n) ≡ before kind status close ++ (decimal n ++ after kind)
number_text Json status n close = sized (first_lines status close) (codes "Content-Length: ") (decimal n) (codes "\r\nContent-Type: ") json_type (codes "\r\nServer: engined\r\n") (codes "\r\n")
number_text Plain status n close = sized (first_lines status close) (codes "Content-Length: ") (decimal n) (codes "\r\nContent-Type: ") plain_type (codes "\r\nServer: engined\r\n") (codes "\r\n")
number_text Events status n close = told (first_lines status close) (chunked_lines json_type) (codes "X-Engine-From: ") (decimal n) (codes "\r\n") (codes "\r\n")

-- behind it stands a line end
begins : (kind : Numbered) → after kind ≡ 13 ∷ drop 1 (after kind)
begins Json = refl
begins Plain = refl
begins Events = refl

after_some : (kind : Numbered) → 0 < length (after kind)
after_some kind = omega (arith, ap length (begins kind))

no_digit : (kind : Numbered) (t more behind : List ℕ) → after kind ++ behind ≡ t ++ more → HasNoDigit t
no_digit kind [] more behind e = tt
no_digit kind (b ∷ t) more behind e =
    let first : 13 ≡ b = ap (λ l. get_or (l ++ behind) 0 0) (sym (begins kind)) ∙ ap (λ l. get_or l 0 0) e in
    subst (λ c. is_ascii_digit c ≡ false) first refl

fits_with : (kind : Numbered) (status n : ℕ) (close : Bool) → HasBody status → n < 2 ^ 64 → Fits (form_with kind n) status close
fits_with Json status n close body fits = (body, fits)
fits_with Plain status n close body fits = (body, fits)
fits_with Events status n close body fits = (body, fits)

number_fits : (kind : Numbered) (status n : ℕ) (close : Bool) → Fits (form_with kind n) status close → n < 2 ^ 64
number_fits Json status n close fits = fits.1
number_fits Plain status n close fits = fits.1
number_fits Events status n close fits = fits.1

module _ (kind : Numbered) (status : ℕ) (close : Bool) (bytes : List ℕ) (place m : ℕ) (body : HasBody status) (small : m < 2 ^ 64)
    (first : (k : ℕ) → FirstDiffer bytes (head_text (head_with kind status close 0)) k → place ≡ k)
    (leads : (n : ℕ) → n < 2 ^ 64 → BeginsWithNumber (drop place bytes) n → m ≡ n) where
  abbrev at : ℕ → Head
  at n = head_with kind status close n

  abbrev B : List ℕ
  B = before kind status close

  abbrev A : List ℕ
  A = after kind

  -- the head that tells 0, or the one that tells m
  abbrev Two : Family
  Two = IsEither (IsOne (at 0)) (IsOne (at m))

  none : 0 < 2 ^ 64
  none = omega arith

  text_at : (n : ℕ) → head_text (at n) ≡ B ++ (decimal n ++ A)
  text_at n = number_text kind status n close

  fits_at : (n : ℕ) → n < 2 ^ 64 → Fits (form_with kind n) status close
  fits_at n fits = fits_with kind status n close body fits

  length_at : (n : ℕ) → length (head_text (at n)) ≡ length B + length (decimal n) + length A
  length_at n = omega (arith, ap length (text_at n), length-append B (decimal n ++ A), length-append (decimal n) A)

  -- the bytes end before the number
  short_before : (n : ℕ) → n < 2 ^ 64 → (rest : List ℕ) → B ≡ bytes ++ rest → IsShort Two bytes (head_text (at n))
  short_before n fits rest is = (
    omega (arith, ap length is, length-append bytes rest, length_at n, decimal_nonempty n fits, after_some kind),
    (
      at 0,
      rest ++ (decimal 0 ++ A),
      inl (refl, (fits_at 0 none, sym (append_assoc bytes rest (decimal 0 ++ A)) ∙ ap (λ l. l ++ (decimal 0 ++ A)) (sym is) ∙ sym (text_at 0))),
    ),
  )

  -- they end inside it
  short_in : (n : ℕ) → n < 2 ^ 64 → (rest : List ℕ) → bytes ≡ B ++ rest → rest ≡ decimal m → length rest ≤ length (decimal n) → IsShort Two bytes (head_text (at n))
  short_in n fits rest is same le = (
    omega (arith, ap length is, length-append B rest, length_at n, le, after_some kind),
    (
      at m,
      A,
      inr (refl, (fits_at m small, ap (λ l. l ++ A) is ∙ append_assoc B rest A ∙ ap (λ l. B ++ (l ++ A)) same ∙ sym (text_at m))),
    ),
  )

  -- the number isn't 0, and some of it stands there
  module _ (n : ℕ) (fits : n < 2 ^ 64) (some : 0 < n) (rest more behind : List ℕ) (is : bytes ≡ B ++ rest) (left : 0 < length rest)
      (e : decimal n ++ (A ++ behind) ≡ rest ++ more) where
    first_digit : 48 < get_or rest 0 0
    first_digit =
        let same : get_or (decimal n) 0 0 ≡ get_or rest 0 0 =
        sym (get_or_append_left (decimal n) (A ++ behind) 0 0 (decimal_nonempty n fits)) ∙ ap (λ l. get_or l 0 0) e ∙ get_or_append_left rest more 0 0 left in
        omega (arith, same, first_decimal n some fits)

    place_is : place ≡ length B
    place_is = first (length B) (record {
      in_one = omega (arith, ap length is, length-append B rest, left);
      in_other = omega (arith, length_at 0, after_some kind);
      same = λ k lt. ap (λ l. get_or l k 0) is ∙ get_or_append_left B rest 0 k lt ∙ sym (get_or_append_left B (decimal 0 ++ A) 0 k lt) ∙ ap (λ l. get_or l k 0) (sym (text_at 0));
      differ = λ same. omega (arith, first_digit, sym (here rest is) ∙ same ∙ zero_there);
    })
      where
        split : (l : List ℕ) → 0 < length l → l ≡ get_or l 0 0 ∷ drop 1 l
        split [] lt = absurd (omega (arith, lt))
        split (c ∷ l) lt = refl

        here : (r : List ℕ) → bytes ≡ B ++ rest → get_or bytes (length B) 0 ≡ get_or rest 0 0
        here r same = ap (λ l. get_or l (length B) 0) (same ∙ ap (λ l. B ++ l) (split rest left)) ∙ get_or_at B (get_or rest 0 0) (drop 1 rest) 0 (length B) refl

        zero_there : get_or (head_text (at 0)) (length B) 0 ≡ 48
        zero_there = ap (λ l. get_or l (length B) 0) (text_at 0 ∙ ap (λ l. B ++ (l ++ A)) (decimal_digit 0 (omega arith))) ∙ get_or_at B 48 A 0 (length B) refl

    leads_here : (k : ℕ) → k < 2 ^ 64 → BeginsWithNumber rest k → m ≡ k
    leads_here k fit starts =
        let dropped : drop place bytes ≡ rest = ap (λ p. drop p bytes) place_is ∙ ap (drop (length B)) is ∙ drop_at B rest (length B) refl in
        leads k fit (subst (λ l. BeginsWithNumber l k) (sym dropped) starts)

    -- the bytes end in it, or with it
    ends_in : length rest ≤ length (decimal n) → IsShort Two bytes (head_text (at n))
    ends_in le =
        let cut = cut_twice rest more (decimal n) (A ++ behind) (sym e) le in
        let number = number_fronts n fits rest cut.0 cut.1 left in
        let is_m : m ≡ number.0 = leads_here number.0 (omega (arith, number.1, fits)) ([], number.2 ∙ sym (append-nil (decimal number.0)), tt) in
        short_in n fits rest is (number.2 ∙ ap decimal (sym is_m)) le

    -- they go on behind it
    goes_on : length (decimal n) < length rest → m ≡ n
    goes_on less =
        let cut = cut_twice (decimal n) (A ++ behind) rest more e (omega (arith, less)) in
        leads_here n fits (cut.0, cut.1, no_digit kind cut.0 more behind cut.2)

    some_told : (length rest ≤ length (decimal n)) ⊎ (length (decimal n) < length rest) → (m ≡ n) ⊎ IsShort Two bytes (head_text (at n))
    some_told (inl le) = inr (ends_in le)
    some_told (inr less) = inl (goes_on less)

  -- it is one of the two, or the bytes end before they tell which
  told_by : (n : ℕ) → n < 2 ^ 64 → (more behind : List ℕ) → bytes ++ more ≡ B ++ (decimal n ++ (A ++ behind)) → ((0 ≡ n) ⊎ (m ≡ n)) ⊎ IsShort Two bytes (head_text (at n))
  told_by n fits more behind e = go (cases_lt (length B) (length bytes)) (cases_lt 0 n)
    where
      flip : (m ≡ n) ⊎ IsShort Two bytes (head_text (at n)) → ((0 ≡ n) ⊎ (m ≡ n)) ⊎ IsShort Two bytes (head_text (at n))
      flip (inl is) = inl (inr is)
      flip (inr short) = inr short

      sides : (rest : List ℕ) → (length (decimal n) < length rest) ⊎ (length rest ≤ length (decimal n)) → (length rest ≤ length (decimal n)) ⊎ (length (decimal n) < length rest)
      sides rest (inl less) = inr less
      sides rest (inr le) = inl le

      go : (length B < length bytes) ⊎ (length bytes ≤ length B) → (0 < n) ⊎ (n ≤ 0) → ((0 ≡ n) ⊎ (m ≡ n)) ⊎ IsShort Two bytes (head_text (at n))
      go (inr le) any =
          let cut = cut_twice bytes more B (decimal n ++ (A ++ behind)) e le in
          inr (short_before n fits cut.0 cut.1)
      go (inl less) (inr le) = inl (inl (omega (arith, le)))
      go (inl less) (inl some) =
          let cut = cut_twice B (decimal n ++ (A ++ behind)) bytes more (sym e) (omega (arith, less)) in
          let left : 0 < length cut.0 = omega (arith, ap length cut.1, length-append B cut.0, less) in
          flip (some_told n fits some cut.0 more behind cut.1 left cut.2 (sides cut.0 (cases_lt (length (decimal n)) (length cut.0))))

  covers : Covers Two (IsNumbered kind status close) bytes
  covers h text more behind (n, (is, (fit, text_is))) e =
      let fits : n < 2 ^ 64 = number_fits kind status n close (subst (λ x. Fits x.form x.status x.close) is fit) in
      let same : text ≡ head_text (at n) = text_is ∙ ap head_text is in
      let whole = e ∙ ap (λ l. l ++ behind) (same ∙ text_at n) ∙ append_assoc B (decimal n ++ A) behind ∙ ap (λ l. B ++ l) (append_assoc (decimal n) A behind) in
      go same (told_by n fits more behind whole)
    where
      go : text ≡ head_text (at n) → ((0 ≡ n) ⊎ (m ≡ n)) ⊎ IsShort Two bytes (head_text (at n)) → Two h text ⊎ IsShort Two bytes text
      go same (inl (inl zero_is)) = inl (inl (is ∙ ap at (sym zero_is), (fit, text_is)))
      go same (inl (inr m_is)) = inl (inr (is ∙ ap at (sym m_is), (fit, text_is)))
      go same (inr short) = inr (subst (IsShort Two bytes) (sym same) short)

  sub : (h : Head) (text : List ℕ) → Two h text → IsNumbered kind status close h text
  sub h text (inl is) = (0, is)
  sub h text (inr is) = (m, is)

  pub numbered_says : (one other : Front) → FrontSays (IsOne (at 0)) one bytes → FrontSays (IsOne (at m)) other bytes → FrontSays (IsNumbered kind status close) (either one other) bytes
  numbered_says one other a b =
      widened Two (IsNumbered kind status close) bytes sub covers (either one other) (either_front (IsOne (at 0)) (IsOne (at m)) bytes one other a b)
