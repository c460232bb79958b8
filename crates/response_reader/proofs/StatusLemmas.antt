-- The status that the bytes tell, and all heads of it.
use Rattle.std.proofs.Common.{arith, rules, ◌≡◌, ◌<◌, ◌≤◌, ◌+◌, ◌/◌, ◌%◌, ◌⊎◌, inl, inr, ℕ, List, [], ◌∷◌, length, ◌++◌, take, drop, min, Bool, true, false, sym, ap, subst, refl, ◌∙◌, append-nil, append_assoc, length-append, codes, Some, None}
use Rattle.std.specs.Prelude.{decimal}
use Rattle.std.proofs.lemmas.Bool.{cases_lt}
use Rattle.std.proofs.lemmas.Bool.Decides.{nat_tests, Decides-eqb}
use Rattle.std.proofs.lemmas.Slice.Eq.{slice_eq-Decides}
use Rattle.std.specs.Bool.{Decides}
use Rattle.std.specs.Str.{bytes_eq}
use Rattle.std.proofs.lemmas.List.{drop_at, drop_all, take_at, take_all, take-append-le, take-append-drop}
use Rattle.std.proofs.lemmas.Fmt.{decimal_digit, decimal_step, decimal_injective}
use Rattle.http_edge.specs.Response.{head_text, head_by, framed_head, form_lines, connection_line, phrase_of}
use Rattle.http_edge.specs.declared.head.Head.{Head}
use Rattle.http_edge.specs.declared.head.Form.{Form}
use Rattle.http_edge.specs.declared.head.Form.TheVariants.{Json, Plain, Empty, ChunkedFrames, ChunkedJson, ChunkedPlain, Takeover}
use Rattle.response_reader.specs.Heads.{IsFinal, is_bare, Fits, IsTextOf}
use Rattle.response_reader.specs.Matching.{Family, FrontSays, either, takeover, IsOne, IsEither, is_framed, IsFramed, MayMeet, StatusFacts, StatusSays}
use Rattle.response_reader.specs.declared.heads.Front.{Front}
use Rattle.response_reader.proofs.ListLemmas.{cut_twice}
use Rattle.response_reader.proofs.MatchLemmas.{IsShort, Covers, either_front, widened}

-- ---- what a head begins with

abbrev version : List ℕ
version = codes "HTTP/1.1 "

-- the text behind the status
abbrev behind_status : ℕ → Bool → Form → List ℕ
behind_status status close form =
    codes " " ++ (phrase_of status ++ (codes "\r\nApi-Version: 1.43\r\n" ++ (connection_line close ++ (form_lines form ++ codes "\r\n"))))

regroup : (h d s p v c f e : List ℕ) → h ++ d ++ s ++ p ++ v ++ c ++ f ++ e ≡ h ++ (d ++ (s ++ (p ++ (v ++ (c ++ (f ++ e))))))
regroup h d s p v c f e = simp append_assoc

framed_is : (form : Form) (status : ℕ) (close : Bool) → is_framed form ≡ true → head_by form status close ≡ framed_head status close form
framed_is (Json n) status close is = refl
framed_is (Plain n) status close is = refl
framed_is Empty status close is = refl
framed_is ChunkedFrames status close is = refl
framed_is (ChunkedJson n) status close is = refl
framed_is ChunkedPlain status close is = refl
framed_is (Takeover upgrade) status close is = absurd (search (rules, is))

framed_text : (h : Head) → is_framed h.form ≡ true → head_text h ≡ version ++ (decimal h.status ++ behind_status h.status h.close h.form)
framed_text h is =
    framed_is h.form h.status h.close is
    ∙ regroup version (decimal h.status) (codes " ") (phrase_of h.status) (codes "\r\nApi-Version: 1.43\r\n") (connection_line h.close) (form_lines h.form) (codes "\r\n")

-- ---- final statuses

bare_final : (status : ℕ) → is_bare status ≡ true → IsFinal status
bare_final status is = grind (arith, nat_tests, is)

framed_final : (form : Form) (status : ℕ) (close : Bool) → is_framed form ≡ true → Fits form status close → IsFinal status
framed_final (Json n) status close is fits = fits.0.0
framed_final (Plain n) status close is fits = fits.0.0
framed_final Empty status close is fits = bare_final status fits
framed_final ChunkedFrames status close is fits = fits.0
framed_final (ChunkedJson n) status close is fits = fits.0.0
framed_final ChunkedPlain status close is fits = fits.0
framed_final (Takeover upgrade) status close is fits = absurd (search (rules, is))

three_digits : (status : ℕ) → IsFinal status → length (decimal status) ≡ 3
three_digits status final =
    let two = decimal_step status (omega (arith, final.0)) (omega (arith, final.1)) in
    let one = decimal_step (status / 10) (omega (arith, final.0)) (omega (arith, final.1)) in
    let last = decimal_digit (status / 10 / 10) (omega (arith, final.1)) in
    omega (
      arith,
      ap length two,
      length-append (decimal (status / 10)) ((48 + status % 10) ∷ []),
      ap length one,
      length-append (decimal (status / 10 / 10)) ((48 + status / 10 % 10) ∷ []),
      ap length last,
    )

-- some head has this status
some_head : (status : ℕ) → IsFinal status → (h : Head) × (is_framed h.form ≡ true) × (h.status ≡ status) × Fits h.form h.status h.close
some_head status final = go (is_bare status) refl
  where
    go : (b : Bool) → is_bare status ≡ b → (h : Head) × (is_framed h.form ≡ true) × (h.status ≡ status) × Fits h.form h.status h.close
    go true is = (record { status = status; form = Empty; close = false }, refl, refl, is)
    go false is = (record { status = status; form = ChunkedFrames; close = false }, refl, refl, (final, is))

-- ---- heads that take over

pub same_head : (a b : Head) → a.status ≡ b.status → a.form ≡ b.form → a.close ≡ b.close → a ≡ b
same_head a b status form close =
    ap (λ s. record { status = s; form = a.form; close = a.close }) status
    ∙ ap (λ f. record { status = b.status; form = f; close = a.close }) form
    ∙ ap (λ c. record { status = b.status; form = b.form; close = c }) close

-- a head takes over, or leaves the connection to the next response
taken_or : (form : Form) → (is_framed form ≡ true) ⊎ ((upgrade : Bool) × (form ≡ Takeover upgrade))
taken_or (Json n) = inl refl
taken_or (Plain n) = inl refl
taken_or Empty = inl refl
taken_or ChunkedFrames = inl refl
taken_or (ChunkedJson n) = inl refl
taken_or ChunkedPlain = inl refl
taken_or (Takeover upgrade) = inr (upgrade, refl)

abbrev TakenOver : Family
TakenOver = IsEither (IsOne (takeover true)) (IsOne (takeover false))

taken_is : (h : Head) (text : List ℕ) (upgrade : Bool) → h.form ≡ Takeover upgrade → IsTextOf h text → TakenOver h text
taken_is h text true is x =
    let fits = subst (λ f. Fits f h.status h.close) is x.0 in
    inl (same_head h (takeover true) fits.0 is fits.1, x)
taken_is h text false is x =
    let fits = subst (λ f. Fits f h.status h.close) is x.0 in
    inr (same_head h (takeover false) fits.0 is fits.1, x)

-- ---- the heads of the status that the bytes may begin with

module _ (bytes : List ℕ) where
  abbrev rest : List ℕ
  rest = drop (min (length bytes) 9) bytes

  abbrev length_version : ℕ
  length_version = 9

  version_length : length version ≡ 9
  version_length = refl

  -- what stands behind the version, where the bytes go on so far
  behind_version : (x : List ℕ) → bytes ≡ version ++ x → rest ≡ x
  behind_version x is =
      let nine : min (length bytes) 9 ≡ 9 = omega (arith, ap length is, length-append version x, version_length) in
      ap (λ n. drop n bytes) nine ∙ ap (drop 9) is ∙ drop_at version x 9 refl

  abbrev Meets : Head → List ℕ → List ℕ → Type 0
  Meets h more behind = bytes ++ more ≡ version ++ (decimal h.status ++ (behind_status h.status h.close h.form ++ behind))

  meets : (h : Head) (text more behind : List ℕ) → is_framed h.form ≡ true → text ≡ head_text h → bytes ++ more ≡ text ++ behind → Meets h more behind
  meets h text more behind is same e =
      e ∙ ap (λ l. l ++ behind) (same ∙ framed_text h is) ∙ append_assoc version (decimal h.status ++ behind_status h.status h.close h.form) behind
      ∙ ap (λ l. version ++ l) (append_assoc (decimal h.status) (behind_status h.status h.close h.form) behind)

  -- they may begin with the head's status
  may_meet : (h : Head) (more behind : List ℕ) → Meets h more behind → MayMeet rest (decimal h.status)
  may_meet h more behind e = go (cases_lt 9 (length bytes))
    where
      after : List ℕ
      after = behind_status h.status h.close h.form ++ behind

      go : (9 < length bytes) ⊎ (length bytes ≤ 9) → MayMeet rest (decimal h.status)
      go (inl less) =
          let cut = cut_twice version (decimal h.status ++ after) bytes more (sym e) (omega (arith, less, version_length)) in
          (more, after, ap (λ l. l ++ more) (behind_version cut.0 cut.1) ∙ sym cut.2)
      go (inr le) =
          let none : rest ≡ [] = drop_all (min (length bytes) 9) bytes (omega (arith, le)) in
          (decimal h.status, [], ap (λ l. l ++ decimal h.status) none ∙ sym (append-nil (decimal h.status)))

  -- with less than three digits of it the bytes are a part of a head of any status that they may begin with
  module _ (status : ℕ) (final : IsFinal status) (other : MayMeet rest (decimal status)) (h : Head) (more behind : List ℕ) (fits : Fits h.form h.status h.close)
      (is : is_framed h.form ≡ true) (e : Meets h more behind) where
    h_final : IsFinal h.status
    h_final = framed_final h.form h.status h.close is fits

    long : 12 ≤ length (head_text h)
    long = omega (
      arith,
      ap length (framed_text h is),
      length-append version (decimal h.status ++ behind_status h.status h.close h.form),
      length-append (decimal h.status) (behind_status h.status h.close h.form),
      three_digits h.status h_final,
      version_length,
    )

    abbrev one : (g : Head) × (is_framed g.form ≡ true) × (g.status ≡ status) × Fits g.form g.status g.close
    one = some_head status final

    abbrev tail : List ℕ
    tail = behind_status one.0.status one.0.close one.0.form

    one_text : head_text one.0 ≡ version ++ (decimal status ++ tail)
    one_text = framed_text one.0 one.1 ∙ ap (λ s. version ++ (decimal s ++ tail)) one.2

    short_by : length bytes < 12 → (x : List ℕ) → version ++ decimal status ≡ bytes ++ x → IsShort (IsFramed status) bytes (head_text h)
    short_by less x is_front = (
      omega (arith, less, long),
      (
        one.0,
        x ++ tail,
        (
          one.1,
          one.2,
          (one.3, sym (append_assoc bytes x tail) ∙ ap (λ l. l ++ tail) (sym is_front) ∙ append_assoc version (decimal status) tail ∙ sym one_text),
        ),
      ),
    )

    short_or : (h.status ≡ status) ⊎ IsShort (IsFramed status) bytes (head_text h)
    short_or = go (cases_lt 9 (length bytes))
      where
        after : List ℕ
        after = behind_status h.status h.close h.form ++ behind

        -- all three digits stand there
        whole : (x : List ℕ) → rest ≡ x → decimal h.status ++ after ≡ x ++ more → 3 ≤ length x → h.status ≡ status
        whole x same cut three =
            let mine = cut_twice (decimal h.status) after x more cut (omega (arith, three, three_digits h.status h_final)) in
            let theirs = cut_twice (decimal status) other.1 x other.0 (sym other.2 ∙ ap (λ l. l ++ other.0) same) (omega (arith, three, three_digits status final)) in
            let digits : decimal h.status ≡ decimal status =
            sym (take_at (decimal h.status) mine.0 3 (three_digits h.status h_final)) ∙ ap (take 3) (sym mine.1 ∙ theirs.1) ∙ take_at (decimal status) theirs.0 3 (three_digits status final) in
            decimal_injective h.status status (omega (arith, h_final.1)) (omega (arith, final.1)) digits

        part : (x : List ℕ) → bytes ≡ version ++ x → rest ≡ x → length x < 3 → IsShort (IsFramed status) bytes (head_text h)
        part x is_bytes same less =
            let cut = cut_twice x other.0 (decimal status) other.1 (ap (λ l. l ++ other.0) (sym same) ∙ other.2) (omega (arith, less, three_digits status final)) in
            short_by (omega (arith, ap length is_bytes, length-append version x, version_length, less)) cut.0
            (ap (λ l. version ++ l) cut.1 ∙ sym (append_assoc version x cut.0) ∙ ap (λ l. l ++ cut.0) (sym is_bytes))

        digits_or : (x : List ℕ) → bytes ≡ version ++ x → decimal h.status ++ after ≡ x ++ more → (length x < 3) ⊎ (3 ≤ length x) → (h.status ≡ status) ⊎ IsShort (IsFramed status) bytes (head_text h)
        digits_or x is_bytes cut (inl less) = inr (part x is_bytes (behind_version x is_bytes) less)
        digits_or x is_bytes cut (inr three) = inl (whole x (behind_version x is_bytes) cut three)

        go : (9 < length bytes) ⊎ (length bytes ≤ 9) → (h.status ≡ status) ⊎ IsShort (IsFramed status) bytes (head_text h)
        go (inl less) =
            let cut = cut_twice version (decimal h.status ++ after) bytes more (sym e) (omega (arith, less, version_length)) in
            digits_or cut.0 cut.1 cut.2 (cases_lt (length cut.0) 3)
        go (inr le) =
            let cut = cut_twice bytes more version (decimal h.status ++ after) e (omega (arith, le, version_length)) in
            inr (short_by (omega (arith, le)) (cut.0 ++ decimal status) (ap (λ l. l ++ decimal status) cut.1 ∙ append_assoc bytes cut.0 (decimal status)))

  -- ---- all heads

  module _ (status : ℕ) (says : StatusSays (Some status) rest) where
    abbrev Told : Family
    Told = IsEither TakenOver (IsFramed status)

    covers : Covers Told IsTextOf bytes
    covers h text more behind x e = go (taken_or h.form)
      where
        told : is_framed h.form ≡ true → (h.status ≡ status) ⊎ IsShort (IsFramed status) bytes (head_text h) → Told h text ⊎ IsShort Told bytes text
        told is (inl same) = inl (inr (is, same, x))
        told is (inr short) =
            let part = short.1 in
            inr (omega (arith, short.0, ap length x.1), (part.0, part.1, inr part.2))

        go : (is_framed h.form ≡ true) ⊎ ((upgrade : Bool) × (h.form ≡ Takeover upgrade)) → Told h text ⊎ IsShort Told bytes text
        go (inr taken) = inl (inl (taken_is h text taken.0 taken.1 x))
        go (inl is) = told is (short_or status says.0 says.1 h more behind x.0 is (meets h text more behind is x.1 e))

    sub : (h : Head) (text : List ℕ) → Told h text → IsTextOf h text
    sub h text (inl (inl x)) = x.1
    sub h text (inl (inr x)) = x.1
    sub h text (inr x) = x.2

    pub status_front : (taken framed : Front) → FrontSays TakenOver taken bytes → FrontSays (IsFramed status) framed bytes → FrontSays IsTextOf (either taken framed) bytes
    status_front taken framed a b = widened Told IsTextOf bytes sub covers (either taken framed) (either_front TakenOver (IsFramed status) bytes taken framed a b)

  module _ (says : StatusSays None rest) where
    none_covers : Covers TakenOver IsTextOf bytes
    none_covers h text more behind x e = go (taken_or h.form)
      where
        go : (is_framed h.form ≡ true) ⊎ ((upgrade : Bool) × (h.form ≡ Takeover upgrade)) → TakenOver h text ⊎ IsShort TakenOver bytes text
        go (inr taken) = inl (taken_is h text taken.0 taken.1 x)
        go (inl is) = absurd (says h.status (framed_final h.form h.status h.close is x.0) (may_meet h more behind (meets h text more behind is x.1 e)))

    none_sub : (h : Head) (text : List ℕ) → TakenOver h text → IsTextOf h text
    none_sub h text (inl x) = x.1
    none_sub h text (inr x) = x.1

    pub no_status_front : (taken : Front) → FrontSays TakenOver taken bytes → FrontSays IsTextOf taken bytes
    no_status_front = widened TakenOver IsTextOf bytes none_sub none_covers

-- ---- heads that take over, compared

pub taken_front : (bytes : List ℕ) (up raw : Head) (one other r : Front) → up ≡ takeover true → raw ≡ takeover false → FrontSays (IsOne up) one bytes
    → FrontSays (IsOne raw) other bytes → r ≡ either one other → FrontSays TakenOver r bytes
taken_front bytes up raw one other r up_is raw_is a b is =
    subst (λ f. FrontSays TakenOver f bytes) (sym is)
    (either_front (IsOne (takeover true)) (IsOne (takeover false)) bytes one other (subst (λ h. FrontSays (IsOne h) one bytes) up_is a)
    (subst (λ h. FrontSays (IsOne h) other bytes) raw_is b))

-- ---- whether the bytes may begin with a status

meet_front : (bytes digits : List ℕ) (len : ℕ) → len ≡ min (length bytes) (length digits) → take len bytes ≡ take len digits → MayMeet bytes digits
meet_front bytes digits len is same = go (cases_lt (length bytes) (length digits))
  where
    go : (length bytes < length digits) ⊎ (length digits ≤ length bytes) → MayMeet bytes digits
    go (inl less) =
        let whole : bytes ≡ take len digits = sym (take_all len bytes (omega (arith, is, less))) ∙ same in
        (drop len digits, [], ap (λ l. l ++ drop len digits) whole ∙ take-append-drop len digits ∙ sym (append-nil digits))
    go (inr le) =
        let whole : take len bytes ≡ digits = same ∙ take_all len digits (omega (arith, is, le)) in
        ([], drop len bytes, append-nil bytes ∙ sym (take-append-drop len bytes) ∙ ap (λ l. l ++ drop len bytes) whole)

same_front : (bytes digits : List ℕ) (len : ℕ) → len ≡ min (length bytes) (length digits) → MayMeet bytes digits → take len bytes ≡ take len digits
same_front bytes digits len is (more, behind, e) =
    sym (take-append-le len bytes more (omega (arith, is))) ∙ ap (take len) e ∙ take-append-le len digits behind (omega (arith, is))

status_facts : (r : Bool) (bytes : List ℕ) (status len : ℕ) → len ≡ min (length bytes) (length (decimal status)) → Decides r (take len bytes ≡ take len (decimal status)) → StatusFacts r status bytes
status_facts true bytes status len is tells = meet_front bytes (decimal status) len is (tells.0 refl)
status_facts false bytes status len is tells = λ meet. let wrong = tells.1 (same_front bytes (decimal status) len is meet) in search (rules, wrong)

pub status_tested : (r : Bool) (bytes digits : List ℕ) (status len : ℕ) → digits ≡ decimal status → len ≡ min (length bytes) (length digits) → r ≡ bytes_eq (take len bytes) (take len digits)
    → StatusFacts r status bytes
status_tested r bytes digits status len text is test =
    status_facts r bytes status len (is ∙ ap (λ l. min (length bytes) (length l)) text)
    (slice_eq-Decides Decides-eqb (take len bytes) (take len (decimal status)) r (test ∙ ap (λ l. bytes_eq (take len bytes) (take len l)) text))

pub unmet : (r : Bool) (status : ℕ) (bytes : List ℕ) → StatusFacts r status bytes → r ≡ false → MayMeet bytes (decimal status) → ⊥
unmet true status bytes facts is meet = search (rules, is)
unmet false status bytes facts is meet = facts meet
