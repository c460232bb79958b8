-- Bytes that a daemon writes are read by the client as that answer and no other.
use Rattle.std.proofs.Common.{arith, ◌≡◌, ◌<◌, ◌≤◌, ◌^◌, inl, inr, ℕ, List, [], ◌∷◌, ◌++◌, length, Bool, true, false, refl, sym, ap, subst, ◌∙◌, append-nil, append_assoc, length-append}
use Rattle.http_edge.specs.Chunked.{Chunk}
use Rattle.http_edge.specs.Response.{framed_head, head_text, takeover_head}
use Rattle.http_edge.specs.declared.head.Head.{Head}
use Rattle.http_edge.specs.declared.head.Form.{Form}
use Rattle.http_edge.specs.declared.head.Form.TheVariants.{Json, Empty}
use Rattle.response_reader.specs.Answers.{Answered, IsAnswer, EndsSo}
use Rattle.response_reader.specs.Bodies.{Sized, UntilEnd, framing_of, Carries}
use Rattle.response_reader.specs.declared.framing.Left.{Left}
use Rattle.response_reader.specs.declared.framing.Left.TheVariants as left
use Rattle.both_ends.proofs.HeadLemmas.{Opens, IsTold, json_told, empty_told, same_status, same_head, same_upgraded}

-- ---- bodies

nil_of : (xs : List ℕ) → length xs ≡ 0 → xs ≡ []
nil_of [] e = refl
nil_of (x ∷ xs) e = absurd (omega (arith, e))

sized_read : (n : ℕ) (body given coded behind : List ℕ) (chunks : List Chunk) (l : Left) (whole : Bool) → n ≤ length body → body ≡ coded ++ behind
    → Carries (Sized n) chunks coded given l → EndsSo whole l behind true → (whole ≡ true) × (length given ≡ n) × (body ≡ given ++ behind)
sized_read n body given coded behind chunks (left.Sized missing) true fits is carries ends =
    (refl, omega (arith, carries.2, ends), is ∙ ap (λ l. l ++ behind) carries.1)
sized_read n body given coded behind chunks (left.Sized missing) false fits is carries (inl breaks) = absurd breaks
sized_read n body given coded behind chunks (left.Sized missing) false fits is carries (inr lacks) =
    absurd (omega (arith, fits, ap length is, length-append coded behind, ap length carries.1, ap length lacks.0.1, carries.2, lacks.0.0))
sized_read n body given coded behind chunks left.Chunk whole fits is carries ends = absurd carries
sized_read n body given coded behind chunks (left.Piece missing) whole fits is carries ends = absurd carries
sized_read n body given coded behind chunks left.Over whole fits is carries ends = absurd carries
sized_read n body given coded behind chunks left.UntilEnd whole fits is carries ends = absurd carries

until_read : (body given coded behind : List ℕ) (chunks : List Chunk) (l : Left) (whole : Bool) → body ≡ coded ++ behind
    → Carries UntilEnd chunks coded given l → EndsSo whole l behind true → (whole ≡ true) × (given ≡ body)
until_read body given coded behind chunks left.UntilEnd true is carries ends =
    (refl, sym carries.1 ∙ (sym (append-nil coded) ∙ (ap (λ l. coded ++ l) (sym ends.0) ∙ sym is)))
until_read body given coded behind chunks left.UntilEnd false is carries (inl breaks) = absurd breaks
until_read body given coded behind chunks left.UntilEnd false is carries (inr lacks) = absurd lacks.0
until_read body given coded behind chunks (left.Sized missing) whole is carries ends = absurd carries
until_read body given coded behind chunks left.Chunk whole is carries ends = absurd carries
until_read body given coded behind chunks (left.Piece missing) whole is carries ends = absurd carries
until_read body given coded behind chunks left.Over whole is carries ends = absurd carries

-- ---- answers

-- what an answer that was read has of the bytes: its head in front, and behind that what is left of them
pub front_is : (w : List ℕ) (h : Head) (given : List ℕ) (whole : Bool) (x : IsAnswer w true (Answered h given whole))
    → w ≡ head_text h ++ (x.4.coded ++ x.1)
front_is w h given whole x = x.3 ∙ (ap (λ l. l ++ x.1) x.4.bytes_are ∙ append_assoc (head_text h) x.4.coded x.1)

-- it has the status with which the bytes begin
pub status_read : (status : ℕ) (w : List ℕ) (h : Head) (given : List ℕ) (whole : Bool) → status < 2 ^ 64 → Opens status w
    → IsAnswer w true (Answered h given whole) → status ≡ h.status
status_read status w h given whole low opens x = same_status status w h (x.4.coded ++ x.1) low opens x.4.fits (front_is w h given whole x)

module _ (status : ℕ) (close : Bool) (body w : List ℕ) (h : Head) (given : List ℕ) (whole : Bool) (low : status < 2 ^ 64) (more : 102 ≤ status)
    (x : IsAnswer w true (Answered h given whole)) where
  -- what is behind the head is the body, which it carries
  behind : (form : Form) → IsTold form → w ≡ framed_head status close form ++ body
      → (body ≡ x.4.coded ++ x.1) × Carries (framing_of form) x.4.chunks x.4.coded given x.2
  behind form told is =
      let same = same_head status form close body h (x.4.coded ++ x.1) low more told x.4.fits (sym is ∙ front_is w h given whole x) in
      (same.1, subst (λ (g : Head). Carries (framing_of g.form) x.4.chunks x.4.coded given x.2) (sym same.0) x.4.carries)

  -- a body of a length is read whole
  pub json_read : length body < 2 ^ 64 → w ≡ framed_head status close (Json (length body)) ++ body → (whole ≡ true) × (given ≡ body)
  json_read small is =
      let b = behind (Json (length body)) (json_told (length body) small) is in
      let s = sized_read (length body) body given x.4.coded x.1 x.4.chunks x.2 whole (omega arith) b.0 b.1 x.5 in
      let none : length x.1 ≡ 0 = omega (arith, ap length s.2, length-append given x.1, s.1) in
      (s.0, sym (s.2 ∙ (ap (λ l. given ++ l) (nil_of x.1 none) ∙ append-nil given)))

  -- behind a head without a body nothing is read
  pub empty_read : w ≡ framed_head status close Empty ++ body → (whole ≡ true) × (given ≡ [])
  empty_read is =
      let b = behind Empty empty_told is in
      let s = sized_read 0 body given x.4.coded x.1 x.4.chunks x.2 whole (omega arith) b.0 b.1 x.5 in
      (s.0, nil_of given s.1)

-- behind the head that upgrades all is read
pub upgraded_read : (body w : List ℕ) (h : Head) (given : List ℕ) (whole : Bool) → w ≡ takeover_head true ++ body
    → IsAnswer w true (Answered h given whole) → (whole ≡ true) × (given ≡ body)
upgraded_read body w h given whole is x =
    let same = same_upgraded body h (x.4.coded ++ x.1) x.4.fits (sym is ∙ front_is w h given whole x) in
    let carries : Carries UntilEnd x.4.chunks x.4.coded given x.2 = subst (λ (g : Head). Carries (framing_of g.form) x.4.chunks x.4.coded given x.2) (sym same.0) x.4.carries in
    until_read body given x.4.coded x.1 x.4.chunks x.2 whole same.1 carries x.5
