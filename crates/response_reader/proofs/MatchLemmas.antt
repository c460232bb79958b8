-- What is told by comparing heads with the front of bytes.
use Rattle.std.proofs.Common.{arith, rules, Bool, true, false, not, ◌≡◌, ◌≢◌, ◌<◌, ◌≤◌, ◌⊎◌, inl, inr, ℕ, List, [], length, ◌++◌, take, drop, sym, ap, refl, ◌∙◌, append-nil, length-append}
use Rattle.std.proofs.lemmas.List.{take-append-le, take_all, take-append-drop}
use Rattle.std.proofs.lemmas.Slice.Eq.{bytes_eq-Decides}
use Rattle.std.specs.Str.{bytes_eq}
use Rattle.http_edge.specs.Response.{head_text}
use Rattle.http_edge.specs.declared.head.Head.{Head}
use Rattle.response_reader.specs.Fronts.{NeverHas}
use Rattle.response_reader.specs.Heads.{Fits}
use Rattle.response_reader.specs.Matching.{Family, IsTextIn, FrontSays, either, IsOne, IsEither}
use Rattle.response_reader.specs.declared.heads.Front.{Front}
use Rattle.response_reader.specs.declared.heads.Front.TheVariants as front

-- ---- bytes that were compared

not_true : (b : Bool) → not b ≡ true → b ≡ false
not_true true e = absurd (search (rules, e))
not_true false e = refl

not_false : (b : Bool) → not b ≡ false → b ≡ true
not_false true e = refl
not_false false e = absurd (search (rules, e))

pub same_by : (xs ys : List ℕ) (r : Bool) → r ≡ not (bytes_eq xs ys) → r ≡ false → xs ≡ ys
same_by xs ys r test is = (bytes_eq-Decides xs ys).0 (not_false (bytes_eq xs ys) (sym test ∙ is))

pub differ_by : (xs ys : List ℕ) (r : Bool) → r ≡ not (bytes_eq xs ys) → r ≡ true → xs ≢ ys
differ_by xs ys r test is same =
    let wrong : true ≡ false = sym ((bytes_eq-Decides xs ys).1 same) ∙ not_true (bytes_eq xs ys) (sym test ∙ is) in
    search (rules, wrong)

-- ---- one head

module _ (bytes : List ℕ) (h : Head) (len : ℕ) (fits : Fits h.form h.status h.close) where
  -- the bytes differ from it
  pub one_never : len ≤ length bytes → len ≤ length (head_text h) → take len bytes ≢ take len (head_text h) → FrontSays (IsOne h) front.Never bytes
  one_never in_bytes in_text differ more behind (text, (other, (is, (fit, text_is))), e) =
      let same : text ≡ head_text h = text_is ∙ ap head_text is in
      differ (sym (take-append-le len bytes more in_bytes) ∙ ap (take len) (e ∙ ap (λ l. l ++ behind) same) ∙ take-append-le len (head_text h) behind in_text)

  -- they end inside it
  pub one_part : len ≡ length bytes → len < length (head_text h) → length (head_text h) ≤ 512 → take len bytes ≡ take len (head_text h) → FrontSays (IsOne h) front.Part bytes
  one_part all less short same =
      let front : bytes ≡ take len (head_text h) = sym (take_all len bytes (omega (arith, all))) ∙ same in
      let whole : bytes ++ drop len (head_text h) ≡ head_text h = ap (λ l. l ++ drop len (head_text h)) front ∙ take-append-drop len (head_text h) in (
        (
          λ behind x. too_short behind x.0 x.1.0 x.1.1 x.2,
          (drop len (head_text h), (h, (refl, (fits, whole)))),
        ),
        omega (arith, all, less, short),
      )
    where
      too_short : (behind text : List ℕ) (other : Head) → IsOne h other text → bytes ≡ text ++ behind → ⊥
      too_short behind text other (is, (fit, text_is)) e =
          omega (arith, ap length (e ∙ ap (λ l. l ++ behind) (text_is ∙ ap head_text is)), length-append (head_text h) behind, all, less)

  -- it stands there
  pub one_head : len ≤ length bytes → len ≡ length (head_text h) → take len bytes ≡ take len (head_text h) → FrontSays (IsOne h) (front.Head h len) bytes
  one_head in_bytes all same = (in_bytes, (refl, (fits, same ∙ take_all len (head_text h) (omega (arith, all)))))

-- ---- one or another

module _ (A B : Family) (bytes : List ℕ) where
  none_of : (more behind : List ℕ) → ((behind : List ℕ) → ((text : List ℕ) × IsTextIn A text × (bytes ++ more ≡ text ++ behind)) → ⊥)
      → ((behind : List ℕ) → ((text : List ℕ) × IsTextIn B text × (bytes ++ more ≡ text ++ behind)) → ⊥)
      → ((text : List ℕ) × IsTextIn (IsEither A B) text × (bytes ++ more ≡ text ++ behind)) → ⊥
  none_of more behind no_a no_b (text, (h, inl a), e) = no_a behind (text, (h, a), e)
  none_of more behind no_a no_b (text, (h, inr b), e) = no_b behind (text, (h, b), e)

  none_here : (behind : List ℕ) → ((behind : List ℕ) → ((text : List ℕ) × IsTextIn A text × (bytes ≡ text ++ behind)) → ⊥)
      → ((behind : List ℕ) → ((text : List ℕ) × IsTextIn B text × (bytes ≡ text ++ behind)) → ⊥)
      → ((text : List ℕ) × IsTextIn (IsEither A B) text × (bytes ≡ text ++ behind)) → ⊥
  none_here behind no_a no_b (text, (h, inl a), e) = no_a behind (text, (h, a), e)
  none_here behind no_a no_b (text, (h, inr b), e) = no_b behind (text, (h, b), e)

  here : (P : Family) → NeverHas (IsTextIn P) bytes → (behind : List ℕ) → ((text : List ℕ) × IsTextIn P text × (bytes ≡ text ++ behind)) → ⊥
  here P never behind (text, is, e) = never [] behind (text, is, append-nil bytes ∙ e)

  pub either_front : (one other : Front) → FrontSays A one bytes → FrontSays B other bytes → FrontSays (IsEither A B) (either one other) bytes
  either_front (front.Head h len) other a b = (a.0, inl a.1)
  either_front front.Never (front.Head h len) a b = (b.0, inr b.1)
  either_front front.Never front.Never a b = λ more behind x. none_of more behind (a more) (b more) x
  either_front front.Never front.Part a b =
      let may = b.0.1 in ((λ behind x. none_here behind (here A a) b.0.0 x, (may.0, (may.1.0, inr may.1.1))), b.1)
  either_front front.Part (front.Head h len) a b = (b.0, inr b.1)
  either_front front.Part front.Never a b =
      let may = a.0.1 in ((λ behind x. none_here behind a.0.0 (here B b) x, (may.0, (may.1.0, inl may.1.1))), a.1)
  either_front front.Part front.Part a b =
      let may = a.0.1 in ((λ behind x. none_here behind a.0.0 b.0.0 x, (may.0, (may.1.0, inl may.1.1))), a.1)

-- ---- more heads than were compared

-- the text has more bytes, and they are a part of one of these heads
abbrev pub IsShort : Family → List ℕ → List ℕ → Type 0
IsShort P bytes text = (length bytes < length text) × ((h : Head) × (rest : List ℕ) × P h (bytes ++ rest))

-- a head of Q that may stand at the front is of P, or can't be told from one of P yet
abbrev pub Covers : Family → Family → List ℕ → Type 0
Covers P Q bytes =
    (h : Head) (text more behind : List ℕ) → Q h text → bytes ++ more ≡ text ++ behind → P h text ⊎ IsShort P bytes text

module _ (P Q : Family) (bytes : List ℕ) (sub : (h : Head) (text : List ℕ) → P h text → Q h text) (covers : Covers P Q bytes) where
  no_more : (text behind : List ℕ) (h : Head) → ((behind : List ℕ) → ((text : List ℕ) × IsTextIn P text × (bytes ≡ text ++ behind)) → ⊥)
      → bytes ≡ text ++ behind → P h text ⊎ IsShort P bytes text → ⊥
  no_more text behind h none e (inl p) = none behind (text, (h, p), e)
  no_more text behind h none e (inr short) = omega (arith, short.0, ap length e, length-append text behind)

  never_more : (text more behind : List ℕ) (h : Head) → NeverHas (IsTextIn P) bytes → bytes ++ more ≡ text ++ behind → P h text ⊎ IsShort P bytes text → ⊥
  never_more text more behind h never e (inl p) = never more behind (text, (h, p), e)
  never_more text more behind h never e (inr short) =
      let x = short.1 in never x.1 [] (bytes ++ x.1, (x.0, x.2), sym (append-nil (bytes ++ x.1)))

  pub widened : (r : Front) → FrontSays P r bytes → FrontSays Q r bytes
  widened (front.Head h len) x = (x.0, sub h (take len bytes) x.1)
  widened front.Part x =
      let may = x.0.1 in (
        (
          λ behind y. no_more y.0 behind y.1.0 x.0.0 y.2 (covers y.1.0 y.0 [] behind y.1.1 (append-nil bytes ∙ y.2)),
          (may.0, (may.1.0, sub may.1.0 (bytes ++ may.0) may.1.1)),
        ),
        x.1,
      )
  widened front.Never x = λ more behind y. never_more y.0 more behind y.1.0 x y.2 (covers y.1.0 y.0 more behind y.1.1 y.2)

-- other words for the same heads
pub same_heads : (P Q : Family) (bytes : List ℕ) → ((h : Head) (text : List ℕ) → P h text → Q h text) → ((h : Head) (text : List ℕ) → Q h text → P h text)
    → (r : Front) → FrontSays P r bytes → FrontSays Q r bytes
same_heads P Q bytes sub sup = widened P Q bytes sub (λ h text more behind q e. inl (sup h text q))
