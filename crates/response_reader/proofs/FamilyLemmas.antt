-- Families of heads, and the heads that are compared for them.
use Rattle.std.proofs.Common.{rules, ◌≡◌, inl, inr, ℕ, List, Bool, true, false, sym, ap, subst, refl, ◌∙◌, Some, None}
use Rattle.http_edge.specs.declared.head.Head.{Head}
use Rattle.http_edge.specs.declared.head.Form.{Form}
use Rattle.http_edge.specs.declared.head.Form.TheVariants.{Json, Plain, Empty, ChunkedFrames, ChunkedJson, ChunkedPlain, Takeover}
use Rattle.response_reader.specs.Heads.{is_bare, HasBody, Fits, IsTextOf}
use Rattle.response_reader.specs.Matching.{Family, FrontSays, either, IsOne, IsEither, IsNumbered, is_stream, is_framed, IsFramedWith, IsStreaming, IsFramed}
use Rattle.response_reader.specs.declared.heads.Front.{Front}
use Rattle.response_reader.specs.declared.heads.Numbered.TheVariants as numbered
use Rattle.response_reader.proofs.MatchLemmas.{either_front, same_heads}
use Rattle.response_reader.proofs.StatusLemmas.{same_head}

no_both : {P : Type 0} (b : Bool) → b ≡ true → b ≡ false → P
no_both true is lacks = absurd (search (rules, lacks))
no_both false is lacks = absurd (search (rules, is))

-- the head of this form
abbrev pub head_of : ℕ → Bool → Form → Head
head_of status close form = record { status = status; form = form; close = close }

module _ (status : ℕ) (close : Bool) where
  -- what has this form is this head
  one_by : (form : Form) (h : Head) (text : List ℕ) → h.form ≡ form → h.status ≡ status → h.close ≡ close → IsTextOf h text → IsOne (head_of status close form) h text
  one_by form h text is same ends x = (same_head h (head_of status close form) same is ends, x)

  -- and so is it of a family
  in_family : (test : Form → Bool) (form : Form) (h : Head) (text : List ℕ) → test form ≡ true → IsOne (head_of status close form) h text
      → (test h.form ≡ true) × (h.status ≡ status) × (h.close ≡ close) × IsTextOf h text
  in_family test form h text passes x = (
    ap (λ g. test g.form) x.0 ∙ passes,
    ap (λ g. g.status) x.0,
    ap (λ g. g.close) x.0,
    x.1,
  )

  -- ---- streams

  abbrev Ends : Family
  Ends = IsEither (IsOne (head_of status close ChunkedFrames)) (IsOne (head_of status close ChunkedPlain))

  abbrev Events : Family
  Events = IsEither (IsOne (head_of status close (ChunkedJson None))) (IsNumbered numbered.Events status close)

  abbrev Streams : Family
  Streams = IsEither Ends Events

  stream_in : (h : Head) (text : List ℕ) → Streams h text → IsStreaming status close h text
  stream_in h text (inl (inl x)) = in_family is_stream ChunkedFrames h text refl x
  stream_in h text (inl (inr x)) = in_family is_stream ChunkedPlain h text refl x
  stream_in h text (inr (inl x)) = in_family is_stream (ChunkedJson None) h text refl x
  stream_in h text (inr (inr (n, x))) = in_family is_stream (ChunkedJson (Some n)) h text refl x

  by_stream : (form : Form) → is_stream form ≡ true → (h : Head) (text : List ℕ) → h.form ≡ form → h.status ≡ status → h.close ≡ close → IsTextOf h text → Streams h text
  by_stream (Json n) passes h text is same ends x = absurd (search (rules, passes))
  by_stream (Plain n) passes h text is same ends x = absurd (search (rules, passes))
  by_stream Empty passes h text is same ends x = absurd (search (rules, passes))
  by_stream ChunkedFrames passes h text is same ends x = inl (inl (one_by ChunkedFrames h text is same ends x))
  by_stream (ChunkedJson None) passes h text is same ends x = inr (inl (one_by (ChunkedJson None) h text is same ends x))
  by_stream (ChunkedJson (Some n)) passes h text is same ends x = inr (inr (n, one_by (ChunkedJson (Some n)) h text is same ends x))
  by_stream ChunkedPlain passes h text is same ends x = inl (inr (one_by ChunkedPlain h text is same ends x))
  by_stream (Takeover upgrade) passes h text is same ends x = absurd (search (rules, passes))

  stream_of : (h : Head) (text : List ℕ) → IsStreaming status close h text → Streams h text
  stream_of h text x = by_stream h.form x.0 h text refl x.1 x.2 x.3

  pub streams : (bytes : List ℕ) (frames text events from : Front) → FrontSays (IsOne (head_of status close ChunkedFrames)) frames bytes
      → FrontSays (IsOne (head_of status close ChunkedPlain)) text bytes → FrontSays (IsOne (head_of status close (ChunkedJson None))) events bytes
      → FrontSays (IsNumbered numbered.Events status close) from bytes
      → FrontSays (IsStreaming status close) (either (either frames text) (either events from)) bytes
  streams bytes frames text events from a b c d =
      same_heads Streams (IsStreaming status close) bytes stream_in stream_of (either (either frames text) (either events from))
      (either_front Ends Events bytes (either frames text) (either events from)
      (either_front (IsOne (head_of status close ChunkedFrames)) (IsOne (head_of status close ChunkedPlain)) bytes frames text a b)
      (either_front (IsOne (head_of status close (ChunkedJson None))) (IsNumbered numbered.Events status close) bytes events from c d))

  -- ---- heads with a body

  abbrev Sized : Family
  Sized = IsEither (IsNumbered numbered.Json status close) (IsNumbered numbered.Plain status close)

  abbrev Bodies : Family
  Bodies = IsEither Sized (IsStreaming status close)

  stream_framed : (form : Form) → is_stream form ≡ true → is_framed form ≡ true
  stream_framed (Json n) passes = refl
  stream_framed (Plain n) passes = refl
  stream_framed Empty passes = refl
  stream_framed ChunkedFrames passes = refl
  stream_framed (ChunkedJson n) passes = refl
  stream_framed ChunkedPlain passes = refl
  stream_framed (Takeover upgrade) passes = absurd (search (rules, passes))

  body_in : (h : Head) (text : List ℕ) → Bodies h text → IsFramedWith status close h text
  body_in h text (inl (inl (n, x))) = in_family is_framed (Json n) h text refl x
  body_in h text (inl (inr (n, x))) = in_family is_framed (Plain n) h text refl x
  body_in h text (inr x) = (stream_framed h.form x.0, x.1, x.2, x.3)

  by_body : (form : Form) → is_framed form ≡ true → is_bare status ≡ false → (h : Head) (text : List ℕ) → h.form ≡ form → h.status ≡ status → h.close ≡ close → IsTextOf h text → Bodies h text
  by_body (Json n) passes body h text is same ends x = inl (inl (n, one_by (Json n) h text is same ends x))
  by_body (Plain n) passes body h text is same ends x = inl (inr (n, one_by (Plain n) h text is same ends x))
  by_body Empty passes body h text is same ends x =
      let bare : is_bare h.status ≡ true = subst (λ f. Fits f h.status h.close) is x.0 in
      no_both (is_bare status) (ap is_bare (sym same) ∙ bare) body
  by_body ChunkedFrames passes body h text is same ends x = inr (ap is_stream is, same, ends, x)
  by_body (ChunkedJson n) passes body h text is same ends x = inr (ap is_stream is, same, ends, x)
  by_body ChunkedPlain passes body h text is same ends x = inr (ap is_stream is, same, ends, x)
  by_body (Takeover upgrade) passes body h text is same ends x = absurd (search (rules, passes))

  pub bodies : (bytes : List ℕ) (json plain stream : Front) → is_bare status ≡ false → FrontSays (IsNumbered numbered.Json status close) json bytes
      → FrontSays (IsNumbered numbered.Plain status close) plain bytes → FrontSays (IsStreaming status close) stream bytes
      → FrontSays (IsFramedWith status close) (either (either json plain) stream) bytes
  bodies bytes json plain stream body a b c =
      same_heads Bodies (IsFramedWith status close) bytes body_in (λ h text x. by_body h.form x.0 body h text refl x.1 x.2 x.3) (either (either json plain) stream)
      (either_front Sized (IsStreaming status close) bytes (either json plain) stream
      (either_front (IsNumbered numbered.Json status close) (IsNumbered numbered.Plain status close) bytes json plain a b) c)

  -- ---- heads without one

  no_body : {P : Type 0} (h : Head) → h.status ≡ status → is_bare status ≡ true → HasBody h.status → P
  no_body h same bare has = no_both (is_bare status) bare (ap is_bare (sym same) ∙ has.1)

  by_bare : (form : Form) → is_framed form ≡ true → is_bare status ≡ true → (h : Head) (text : List ℕ) → h.form ≡ form → h.status ≡ status → h.close ≡ close → IsTextOf h text
      → IsOne (head_of status close Empty) h text
  by_bare (Json n) passes bare h text is same ends x = no_body h same bare (let fits = subst (λ f. Fits f h.status h.close) is x.0 in fits.0)
  by_bare (Plain n) passes bare h text is same ends x = no_body h same bare (let fits = subst (λ f. Fits f h.status h.close) is x.0 in fits.0)
  by_bare Empty passes bare h text is same ends x = one_by Empty h text is same ends x
  by_bare ChunkedFrames passes bare h text is same ends x = no_body h same bare (subst (λ f. Fits f h.status h.close) is x.0)
  by_bare (ChunkedJson n) passes bare h text is same ends x = no_body h same bare (let fits = subst (λ f. Fits f h.status h.close) is x.0 in fits.0)
  by_bare ChunkedPlain passes bare h text is same ends x = no_body h same bare (subst (λ f. Fits f h.status h.close) is x.0)
  by_bare (Takeover upgrade) passes bare h text is same ends x = absurd (search (rules, passes))

  pub bares : (bytes : List ℕ) (empty : Front) → is_bare status ≡ true → FrontSays (IsOne (head_of status close Empty)) empty bytes → FrontSays (IsFramedWith status close) empty bytes
  bares bytes empty bare =
      same_heads (IsOne (head_of status close Empty)) (IsFramedWith status close) bytes (λ h text x. in_family is_framed Empty h text refl x)
      (λ h text x. by_bare h.form x.0 bare h text refl x.1 x.2 x.3) empty

-- ---- heads that close the connection, and those that don't

module _ (status : ℕ) where
  abbrev Both : Family
  Both = IsEither (IsFramedWith status true) (IsFramedWith status false)

  both_in : (h : Head) (text : List ℕ) → Both h text → IsFramed status h text
  both_in h text (inl x) = (x.0, x.1, x.3)
  both_in h text (inr x) = (x.0, x.1, x.3)

  by_close : (close : Bool) (h : Head) (text : List ℕ) → h.close ≡ close → IsFramed status h text → Both h text
  by_close true h text ends x = inl (x.0, x.1, ends, x.2)
  by_close false h text ends x = inr (x.0, x.1, ends, x.2)

  pub both : (bytes : List ℕ) (closed kept : Front) → FrontSays (IsFramedWith status true) closed bytes → FrontSays (IsFramedWith status false) kept bytes
      → FrontSays (IsFramed status) (either closed kept) bytes
  both bytes closed kept a b =
      same_heads Both (IsFramed status) bytes both_in (λ h text x. by_close h.close h text refl x) (either closed kept)
      (either_front (IsFramedWith status true) (IsFramedWith status false) bytes closed kept a b)
