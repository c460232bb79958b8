-- A piece that is taken, and what it told.
use Rattle.std.proofs.Common.{arith, ◌≡◌, ◌<◌, ◌≤◌, ◌⊎◌, inl, inr, ℕ, List, [], length, ◌+◌, ◌-◌, ◌++◌, take, drop, sym, ap, subst, refl, ◌∙◌, length-append, length-take, append_assoc, append-nil, take-append-drop}
use Rattle.std.specs.Prelude.{min}
use Rattle.std.proofs.lemmas.Bool.{cases_lt}
use Rattle.std.proofs.lemmas.List.{take_at, take-append-le}
use Rattle.std.proofs.Math.Seq.{take-append-add}
use Rattle.httparse.specs.declared.spans.RequestSpans.{RequestSpans}
use Rattle.engine_ports.specs.Source.{SourceView}
use Rattle.engine_ports.proofs.PortLemmas.{source_none}
use Rattle.http_edge.specs.Message.{Request}
use Rattle.http_edge.specs.Refusal.{AwaitsMore, IsRefused}
use Rattle.http_edge.specs.Spelling.{Begins, HasNoRequest}
use Rattle.http_edge.specs.Stored.{Stored}
use Rattle.http_edge.proofs.EndLemmas.{unfinished_none, refused_stays}
use Rattle.http_edge.proofs.ReadingLemmas.{behind_less}
use Rattle.request_pieces.specs.Pieces.{view_of}
use Rattle.request_pieces.specs.Standing.{Holds, HasTaken, IsBegun}
use Rattle.request_pieces.specs.Taking.{Shows, stored_at, StepOf, StepSays, CameSays, TakenSays}
use Rattle.request_pieces.specs.declared.source.Piece.{Piece}
use Rattle.request_pieces.specs.declared.standing.Inside.{Inside}
use Rattle.request_pieces.specs.declared.standing.Inside.TheVariants.{Head}
use Rattle.request_pieces.specs.declared.standing.Came.TheVariants.{Whole, Refused, Awaits}
use Rattle.request_pieces.specs.declared.standing.Step.{Step}
use Rattle.request_pieces.specs.declared.standing.Step.TheVariants.{On}
use Rattle.request_pieces.specs.declared.taking.Intake.{Intake}
use Rattle.request_pieces.specs.declared.taking.Taken.TheVariants as taken
use Rattle.request_pieces.proofs.KeepLemmas.{then_reached}

-- ---- steps, one after another

pub no_step : (inside : Inside) (b : Stored) (ahead : List ℕ) (s : SourceView) → StepSays (On inside) inside b ahead b ahead s s
no_step inside b ahead s bytes h = record { read = []; gave = source_none s; holds = subst (Holds inside b ahead) (sym (append-nil bytes)) h }

pub step_on : (step : Step) (inside mid : Inside) (a b c : Stored) (x y z : List ℕ) (s t u : SourceView) → StepSays (On mid) inside a x b y s t → StepSays step mid b y c z t u
    → StepSays step inside a x c z s u
step_on step inside mid a b c x y z s t u first later bytes h =
    then_reached bytes s t u (Holds mid b y) (StepOf step c z u) (first bytes h) later

pub begun_on : (inside next : Inside) (a b : Stored) (x y : List ℕ) (s t : SourceView) → IsBegun inside a x → StepSays (On next) inside a x b y s t → IsBegun next b y
begun_on inside next a b x y s t begun says =
    let r = says begun.0 begun.1 in
    (begun.0 ++ r.read, r.holds)

-- ---- a request takes more than the bytes that it stood behind

pub awaits_none : (bytes : List ℕ) → AwaitsMore bytes → HasNoRequest bytes
awaits_none bytes (inl none) = λ r behind b. let less = behind_less bytes behind r b in omega (arith, less, ap length none)
awaits_none bytes (inr part) = unfinished_none bytes part

module _ (bytes read behind : List ℕ) (r : Request) (awaits : AwaitsMore bytes) (b : Begins (bytes ++ read) r behind) where
  -- it takes all of them
  longer : length bytes ≤ length b.0
  longer = go (cases_lt (length b.0) (length bytes))
    where
      go : (length b.0 < length bytes) ⊎ (length bytes ≤ length b.0) → length bytes ≤ length b.0
      go (inl less) =
          let front : take (length b.0) bytes ≡ b.0 =
          sym (take-append-le (length b.0) bytes read (omega (arith, less))) ∙ ap (take (length b.0)) b.2 ∙ take_at b.0 behind (length b.0) refl in
          absurd (awaits_none bytes awaits r (drop (length b.0) bytes)
          (b.0, b.1, sym (take-append-drop (length b.0) bytes) ∙ ap (λ l. l ++ drop (length b.0) bytes) front))
      go (inr all) = all

  pub behind_fits : length behind ≤ length read
  behind_fits = omega (arith, longer, ap length b.2, length-append bytes read, length-append b.0 behind)

  pub begins_so_far : (used : ℕ) → used + length behind ≡ length read → Begins (bytes ++ take used read) r []
  begins_so_far used sum =
      let len : length b.0 ≡ length bytes + used = omega (arith, sum, ap length b.2, length-append bytes read, length-append b.0 behind) in
      let is : b.0 ≡ bytes ++ take used read =
      sym (take_at b.0 behind (length b.0) refl) ∙ sym (ap (take (length b.0)) b.2) ∙ ap (λ n. take n (bytes ++ read)) len ∙ take-append-add bytes read used in
      (b.0, b.1, sym is ∙ sym (append-nil b.0))

-- ---- what a piece came to

-- it begins anew
pub anew : (i : Intake) → i.inside ≡ Head → i.ahead ≡ [] → i.count ≡ 0 → HasTaken i []
anew i inside_is ahead_is count_is = record {
  holds = rw (inside_is, ahead_is) refl;
  awaits = inl refl;
  count = omega (arith, count_is);
}

module _ (old new : Intake) (piece : List ℕ) (p q : Piece) (starts : p.rest.now ≡ piece) (ahead : List ℕ) (b : Stored) where
  -- what stands behind a request stood in the piece
  pub taken_fits : (r : RequestSpans) (bytes : List ℕ) → CameSays (Whole r) old.inside old.buffers old.ahead b ahead (view_of p) (view_of q) → HasTaken old bytes
      → length q.rest.now + length ahead ≤ length piece
  taken_fits r bytes says h =
      let x = says bytes h.holds in
      let shows = x.holds in
      let g = x.gave in
      let gave = g.gave in
      omega (arith, behind_fits bytes x.read ahead _ h.awaits shows.1, ap length starts, ap length gave, length-append x.read q.rest.now)

  pub taken_whole : (r : RequestSpans) (used count : ℕ) → CameSays (Whole r) old.inside old.buffers old.ahead b ahead (view_of p) (view_of q)
      → used ≡ length piece - (length q.rest.now + length ahead) → count ≡ min (old.count + used) 18446744073709551615 → HasTaken new [] → new.buffers ≡ b
      → TakenSays (taken.Request r count used) old new piece
  taken_whole r used count says used_is count_is fresh same bytes h =
      let x = says bytes h.holds in
      let shows = x.holds in
      let g = x.gave in
      let gave = g.gave in
      let all : piece ≡ x.read ++ q.rest.now = sym starts ∙ gave in
      let fits = behind_fits bytes x.read ahead _ h.awaits shows.1 in
      let len : length piece ≡ length x.read + length q.rest.now = omega (arith, ap length all, length-append x.read q.rest.now) in
      let sum : used + length ahead ≡ length x.read = omega (arith, used_is, len, fits) in
      let front : take used piece ≡ take used x.read = ap (take used) all ∙ take-append-le used x.read q.rest.now (omega (arith, sum)) in
      let counts = h.count in (
        omega (arith, used_is),
        omega (arith, count_is, counts),
        subst (λ c. Shows c r [] (bytes ++ take used piece)) (sym same) (
          shows.0,
          subst (λ l. Begins (bytes ++ l) (stored_at b r) []) (sym front) (begins_so_far bytes x.read ahead _ h.awaits shows.1 used sum),
          shows.2,
          omega (arith, shows.3, sum, length-append bytes x.read, length-append bytes (take used piece), length-take used piece, len),
        ),
        fresh,
      )

  pub taken_refused : (status : ℕ) → CameSays (Refused status) old.inside old.buffers old.ahead b ahead (view_of p) (view_of q) → HasTaken new []
      → TakenSays (taken.Refused status) old new piece
  taken_refused status says fresh bytes h =
      let x = says bytes h.holds in
      let g = x.gave in
      let gave = g.gave in
      let all : (bytes ++ x.read) ++ q.rest.now ≡ bytes ++ piece = append_assoc bytes x.read q.rest.now ∙ ap (λ l. bytes ++ l) (sym gave ∙ starts) in
      (subst (λ l. IsRefused l status) all (refused_stays (bytes ++ x.read) q.rest.now status x.holds), fresh)

  pub taken_part : (inside : Inside) → CameSays (Awaits inside) old.inside old.buffers old.ahead b ahead (view_of p) (view_of q)
      → new.inside ≡ inside → new.ahead ≡ ahead → new.buffers ≡ b → new.count ≡ min (old.count + length piece) 18446744073709551615
      → TakenSays taken.Awaits old new piece
  taken_part inside says inside_is ahead_is buffers_is count_is bytes h =
      let x = says bytes h.holds in
      let g = x.gave in
      let gave = g.gave in
      let end = x.holds in
      let all : bytes ++ x.read ≡ bytes ++ piece =
      ap (λ l. bytes ++ l) (sym (append-nil x.read) ∙ ap (λ l. x.read ++ l) (sym end.2) ∙ sym gave ∙ starts) in
      let counts = h.count in record {
        holds = rw (inside_is, ahead_is, buffers_is) (subst (Holds inside b ahead) all end.0);
        awaits = subst AwaitsMore all end.1;
        count = omega (arith, count_is, counts, length-append bytes piece);
      }
