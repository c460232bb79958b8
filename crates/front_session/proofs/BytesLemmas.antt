-- What is done with bytes that begin so.
use Rattle.std.proofs.Common.{arith, ◌≡◌, ◌≤◌, ◌⊎◌, inl, inr, ℕ, List, [], ◌∷◌, ◌++◌, length, take, drop, map, refl, sym, ap, subst, ◌∙◌, append_assoc, append-nil, length-append}
use Rattle.std.proofs.lemmas.List.{take-append-drop}
use Rattle.httparse.proofs.GrammarLemmas.{request_unique}
use Rattle.httparse.specs.Grammar.{RequestHead}
use Rattle.httparse.specs.Spans.{name_and_value, header_bytes, IsRequestWithin, IsRequestAt}
use Rattle.httparse.specs.declared.spans.HeaderSpan.{HeaderSpan}
use Rattle.httparse.specs.declared.spans.RequestSpans.{RequestSpans}
use Rattle.http_edge.specs.Message.{Request}
use Rattle.http_edge.specs.Framing.{framing_of}
use Rattle.http_edge.specs.Spelling.{head_framing, SpellsBody, Begins, HasNoRequest, ReadsAll}
use Rattle.http_edge.specs.Refusal.{CutsBody, in_body}
use Rattle.http_edge.specs.Outcome.{request_at}
use Rattle.http_edge.specs.declared.framing.Framing.{Framing}
use Rattle.http_edge.specs.declared.framing.Framing.TheVariants.{Length}
use Rattle.http_edge.proofs.PartLemmas.{same_parts}
use Rattle.http_edge.proofs.StreamLemmas.{begins_head}
use Rattle.http_edge.proofs.EndLemmas.{unfinished_none}
use Rattle.http_edge.proofs.ReadingLemmas.{reading_of}
use Rattle.http_edge.proofs.RequestLemmas.{narrow_span, narrow_fields, framing_at, begins, shows}
use Rattle.json_answer.specs.Answer.{terms_of}
use Rattle.json_answer.specs.declared.asking.Terms.{Terms}
use Rattle.lab_front.specs.declared.table.Row.{Row}
use Rattle.lab_handed.specs.Changes.{handed as changed_to}
use Rattle.lab_handed.specs.declared.changing.Change.{Change}
use Rattle.front_session.specs.Ways.{way_framed, way_of}
use Rattle.front_session.specs.Fronts.{Deed, Writes, handing, answer_by, deeds_by, last_deeds, GoesOn, Lasts, IsFronted}
use Rattle.front_session.specs.Front.{Front, front_at, GoesWithin}
use Rattle.front_session.specs.Steps.{row_answer, StepsBy}
use Rattle.front_session.specs.declared.choosing.Way.TheVariants.{Answered, Closes, HandedOn, Changed, Opens}
use Rattle.front_session.specs.declared.standing.Stage.TheVariants.{Within, Open, Closed}
use Rattle.front_session.specs.declared.stepping.Act.TheVariants as act
use Rattle.front_session.proofs.WayLemmas.{IsAnswer, same_way, way_spelled, hands_framed, answers_framed, changed_framed}
use Rattle.front_session.proofs.ProgressLemmas.{no_bytes, handing_on, handing_then}

-- ---- a request or none

pub begins_told : (bytes : List ℕ) → ((r : Request) × (behind : List ℕ) × Begins bytes r behind) ⊎ HasNoRequest bytes
begins_told bytes =
    let all = reading_of bytes bytes [] refl in by all.0 all.1 all.2
  where
    by : (rs : List Request) (last : List ℕ) → ReadsAll bytes rs last → ((r : Request) × (behind : List ℕ) × Begins bytes r behind) ⊎ HasNoRequest bytes
    by [] last all = inr (subst HasNoRequest (sym all.0) all.1)
    by (r ∷ rs) last all = inl (r, all.0.0, all.0.1)

-- ---- lists

pub same_front : (a b c : List ℕ) → a ++ c ≡ b ++ c → a ≡ b
same_front a b c e = (same_parts a b c c (omega (arith, ap length e, length-append a c, length-append b c)) e).0

-- behind no byte of a body
pub within_none : (more : List ℕ) (later : List Deed) → GoesWithin 0 more later → IsFronted more later
within_none more later (inl (body, behind, after, len, e, deeds, rest)) =
    let none = no_bytes body len in
    subst (IsFronted more) (sym (deeds ∙ ap (λ l. handing l ++ after) none))
    (subst (λ l. IsFronted l after) (sym (e ∙ ap (λ l. l ++ behind) none)) rest)
within_none more later (inr (less, deeds)) = absurd (omega (arith, less))

-- ---- a head that stands before other bytes

module _ (got : List ℕ) (spans : List HeaderSpan) (r : RequestSpans) (h : RequestHead) (small : length got ≤ 16384)
    (within : IsRequestWithin got spans r) (at : IsRequestAt got spans r h)
    (f : Framing) (is : f ≡ framing_of r.version (map (header_bytes got) (take r.headers spans))) where
  abbrev request_with : List ℕ → Request
  request_with body = request_at (take r.len got) spans r body

  framing_is : f ≡ head_framing h
  framing_is = is ∙ framing_at got spans r h small within at

  -- every request that the bytes begin with is treated so
  way_at : (more behind : List ℕ) (q : Request) → Begins (got ++ more) q behind → way_of q ≡ way_framed f (request_with [])
  way_at more behind q b =
      let heads = (request_unique (got ++ more) b.1.head h (b.1.coded ++ behind) (drop r.len got ++ more) (begins_head (got ++ more) behind q b)
      (begins got spans r h small within at more).0).0 in
      way_spelled b.0 q b.1 ∙ ap (λ k. way_framed (head_framing k) q) heads ∙ ap (λ k. way_framed k q) (sym framing_is)
      ∙ same_way f q (request_with [])
      (b.1.method ∙ ap (λ k. k.method) heads ∙ sym (narrow_span got r.len r.method within.method ∙ at.method))
      (b.1.target ∙ ap (λ k. k.target) heads ∙ sym (narrow_span got r.len r.path within.path ∙ at.path))
      (b.1.fields ∙ ap (λ k. map name_and_value k.fields) heads
      ∙ sym (narrow_fields got r.len (take r.headers spans) within.section.headers_fit ∙ at.fields))

  -- where all is handed on
  pub opened : way_framed f (request_with []) ≡ Opens → (more : List ℕ) → IsFronted (got ++ more) (handing (got ++ more))
  opened way more = ([], last (begins_told (got ++ more)))
    where
      last : ((q : Request) × (behind : List ℕ) × Begins (got ++ more) q behind) ⊎ HasNoRequest (got ++ more) → Lasts (got ++ more) (handing (got ++ more))
      last (inr none) = inl (none, refl)
      last (inl x) =
          let is = way_at more x.1 x.0 x.2 ∙ way in
          inr (
            x.0,
            x.1,
            x.2,
            (λ goes. subst GoesOn is goes),
            subst (λ w. handing (got ++ more) ≡ last_deeds w x.0 (got ++ more)) (sym is) refl,
          )

  -- a body of so many bytes stands behind the head
  begins_with : (body behind more : List ℕ) → f ≡ Length (length body) → drop r.len got ++ more ≡ body ++ behind → Begins (got ++ more) (request_with body) behind
  begins_with body behind more sized e =
      (shows got spans r h small within at f is body behind more (length body)
      (body, subst (λ k. SpellsBody k body body) (sym sized) (refl, refl), refl, e)).0

  all_bytes : (more : List ℕ) → got ++ more ≡ take r.len got ++ (drop r.len got ++ more)
  all_bytes more = ap (λ l. l ++ more) (sym (take-append-drop r.len got)) ∙ append_assoc (take r.len got) (drop r.len got) more

  spelling_is : (body behind more : List ℕ) (q : Request) (b : Begins (got ++ more) q behind) → drop r.len got ++ more ≡ body ++ behind → b.0 ≡ take r.len got ++ body
  spelling_is body behind more q b e =
      same_front b.0 (take r.len got ++ body) behind
      (sym b.2 ∙ all_bytes more ∙ ap (λ l. take r.len got ++ l) e ∙ sym (append_assoc (take r.len got) body behind))

  -- where it is handed on by itself
  pub handed : (n : ℕ) → way_framed f (request_with []) ≡ HandedOn n → (more : List ℕ) (later : List Deed) → GoesWithin n (drop r.len got ++ more) later
      → IsFronted (got ++ more) (handing (take r.len got) ++ later)
  handed n way more later (inl (body, behind, after, len, e, deeds, rest)) =
      let sized : f ≡ Length (length body) = hands_framed f (request_with []) n way ∙ ap Length (sym len) in
      let b = begins_with body behind more sized e in
      let way_is = way_at more behind (request_with body) b ∙ way in
      let spelling = spelling_is body behind more (request_with body) b e in (
        request_with body ∷ rest.0,
        (
          b.0,
          behind,
          after,
          b.1,
          b.2,
          subst GoesOn (sym way_is) tt,
          subst (λ w. handing (take r.len got) ++ later ≡ deeds_by w (request_with body) b.0 ++ after) (sym way_is)
              (ap (λ d. handing (take r.len got) ++ d) deeds ∙ handing_then (take r.len got) body after ∙ ap (λ l. handing l ++ after) (sym spelling)),
          rest.1,
        ),
      )
  handed n way more later (inr (less, deeds)) =
      let sized : head_framing h ≡ Length n = sym framing_is ∙ hands_framed f (request_with []) n way in
      let cut = in_body h (drop r.len got ++ more) (begins got spans r h small within at more)
      (subst (λ k. CutsBody k (drop r.len got ++ more)) (sym sized) less) in (
        [],
        inl (
          unfinished_none (got ++ more) cut,
          ap (λ d. handing (take r.len got) ++ d) deeds ∙ sym (handing_on (take r.len got) (drop r.len got ++ more)) ∙ ap handing (sym (all_bytes more)),
        ),
      )

  -- where it is changed
  pub changed : (change : Change) → way_framed f (request_with []) ≡ Changed change → (more : List ℕ) (later : List Deed) → IsFronted (drop r.len got ++ more) later
      → IsFronted (got ++ more) (handing (changed_to change (take r.len got)) ++ later)
  changed change way more later rest =
      let b = begins_with [] (drop r.len got ++ more) more (changed_framed f (request_with []) change way).0 refl in
      let way_is = way_at more (drop r.len got ++ more) (request_with []) b ∙ way in
      let spelling : b.0 ≡ take r.len got = spelling_is [] (drop r.len got ++ more) more (request_with []) b refl ∙ append-nil (take r.len got) in (
        request_with [] ∷ rest.0,
        (
          b.0,
          drop r.len got ++ more,
          later,
          b.1,
          b.2,
          subst GoesOn (sym way_is) tt,
          subst (λ w. handing (changed_to change (take r.len got)) ++ later ≡ deeds_by w (request_with []) b.0 ++ later) (sym way_is)
              (ap (λ l. handing (changed_to change l) ++ later) (sym spelling)),
          rest.1,
        ),
      )

  -- ---- where the front answers it

  module _ (answers : IsAnswer (way_framed f (request_with []))) where
    stands : (more : List ℕ) → Begins (got ++ more) (request_with []) (drop r.len got ++ more)
    stands more = begins_with [] (drop r.len got ++ more) more (answers_framed f (request_with []) answers) refl

    pub asked : Begins got (request_with []) (drop r.len got)
    asked =
        subst (λ l. Begins l (request_with []) (drop r.len got)) (append-nil got)
        (subst (Begins (got ++ []) (request_with [])) (append-nil (drop r.len got)) (stands []))

    pub asked_way : way_of (request_with []) ≡ way_framed f (request_with [])
    asked_way = way_at [] (drop r.len got ++ []) (request_with []) (stands [])

  pub answered : (row : Row) → way_framed f (request_with []) ≡ Answered row → (more : List ℕ) (later : List Deed) → IsFronted (drop r.len got ++ more) later
      → IsFronted (got ++ more) (Writes (answer_by (request_with []) row) ∷ later)
  answered row way more later rest =
      let b = stands (subst IsAnswer (sym way) tt) more in
      let way_is = way_at more (drop r.len got ++ more) (request_with []) b ∙ way in (
        request_with [] ∷ rest.0,
        (
          b.0,
          drop r.len got ++ more,
          later,
          b.1,
          b.2,
          subst GoesOn (sym way_is) tt,
          subst (λ w. Writes (answer_by (request_with []) row) ∷ later ≡ deeds_by w (request_with []) b.0 ++ later) (sym way_is) refl,
          rest.1,
        ),
      )

  -- and closes its connection
  pub closed : (row : Row) → way_framed f (request_with []) ≡ Closes row → (more : List ℕ)
      → IsFronted (got ++ more) (Writes (answer_by (request_with []) row) ∷ [])
  closed row way more =
      let b = stands (subst IsAnswer (sym way) tt) more in
      let way_is = way_at more (drop r.len got ++ more) (request_with []) b ∙ way in (
        [],
        inr (
          request_with [],
          drop r.len got ++ more,
          b,
          (λ goes. subst GoesOn way_is goes),
          subst (λ w. Writes (answer_by (request_with []) row) ∷ [] ≡ last_deeds w (request_with []) (got ++ more)) (sym way_is) refl,
        ),
      )

  -- ---- a look at the head

  abbrev before : Front
  before = front_at [] got (Within 0)

  pub decided_open : (size : ℕ) → way_framed f (request_with []) ≡ Opens
      → StepsBy act.On size before (front_at (take r.len got) (drop r.len got) Open)
  decided_open size way into len = (
    λ more later d. (
      later,
      refl,
      inl (
        [],
        got ++ more,
        later,
        refl,
        refl,
        refl,
        subst (IsFronted (got ++ more)) (ap handing (all_bytes more) ∙ handing_on (take r.len got) (drop r.len got ++ more)
            ∙ ap (λ l. handing (take r.len got) ++ l) (sym d.2) ∙ sym d.1) (opened way more),
      ),
    ),
    (λ e. absurd (cc), λ e. absurd (cc)),
  )

  pub decided_hands : (size n : ℕ) → way_framed f (request_with []) ≡ HandedOn n
      → StepsBy act.On size before (front_at (take r.len got) (drop r.len got) (Within n))
  decided_hands size n way into len = (
    λ more later d.
        (later, refl, inl ([], got ++ more, later, refl, refl, refl, subst (IsFronted (got ++ more)) (sym d.1) (handed n way more d.0 d.2))),
    (λ e. absurd (cc), λ e. absurd (cc)),
  )

  pub decided_changes : (size : ℕ) (change : Change) → way_framed f (request_with []) ≡ Changed change
      → StepsBy act.On size before (front_at (changed_to change (take r.len got)) (drop r.len got) (Within 0))
  decided_changes size change way into len = (
    λ more later d. (
      later,
      refl,
      inl (
        [],
        got ++ more,
        later,
        refl,
        refl,
        refl,
        subst (IsFronted (got ++ more)) (sym d.1) (changed change way more d.0 (within_none (drop r.len got ++ more) d.0 d.2)),
      ),
    ),
    (λ e. absurd (cc), λ e. absurd (cc)),
  )

  pub decided_answers : (size : ℕ) (row : Row) (terms : Terms) → way_framed f (request_with []) ≡ Answered row → terms ≡ terms_of (request_with [])
      → StepsBy (act.Answers terms row) size before (front_at [] (drop r.len got) (Within 0))
  decided_answers size row terms way is into len = (
    λ more later d. (
      Writes (row_answer terms row) ∷ later,
      refl,
      inl (
        [],
        got ++ more,
        Writes (row_answer terms row) ∷ later,
        refl,
        refl,
        refl,
        subst (λ t. IsFronted (got ++ more) (Writes (row_answer t row) ∷ later)) (sym is)
            (answered row way more later (subst (IsFronted (drop r.len got ++ more)) (sym d.1) (within_none (drop r.len got ++ more) d.0 d.2))),
      ),
    ),
    (λ e. absurd (cc), λ e. absurd (cc)),
    request_with [],
    drop r.len got,
    asked (subst IsAnswer (sym way) tt),
    inl (asked_way (subst IsAnswer (sym way) tt) ∙ way),
    is,
  )

  pub decided_closes : (size : ℕ) (row : Row) (terms : Terms) → way_framed f (request_with []) ≡ Closes row → terms ≡ terms_of (request_with [])
      → StepsBy (act.Answers terms row) size before (front_at [] (drop r.len got) Closed)
  decided_closes size row terms way is into len = (
    λ more later d. (
      Writes (row_answer terms row) ∷ later,
      refl,
      inl (
        [],
        got ++ more,
        Writes (row_answer terms row) ∷ later,
        refl,
        refl,
        refl,
        subst (λ t. IsFronted (got ++ more) (Writes (row_answer t row) ∷ later)) (sym is)
            (subst (λ l. IsFronted (got ++ more) (Writes (answer_by (request_with []) row) ∷ l)) (sym (d.1 ∙ d.2)) (closed row way more)),
      ),
    ),
    (λ e. absurd (cc), λ e. absurd (cc)),
    request_with [],
    drop r.len got,
    asked (subst IsAnswer (sym way) tt),
    inr (asked_way (subst IsAnswer (sym way) tt) ∙ way),
    is,
  )
