-- Steps of reading a body, one after another.
use Rattle.std.proofs.Common.{arith, rules, ◌≡◌, ◌<◌, ◌≤◌, ◌+◌, inl, inr, ℕ, List, [], length, ◌++◌, take, drop, min, true, false, sym, ap, subst, refl, ◌∙◌, length-append, append_assoc, append-nil, take-append-drop, codes, Result, Ok, Err}
use Rattle.std.specs.Prelude.{IsFalse}
use Rattle.std.proofs.lemmas.Bool.Decides.{nat_tests}
use Rattle.std.proofs.lemmas.List.{length-take-le}
use Rattle.engine_ports.specs.Rose.{greatest_count}
use Rattle.engine_ports.specs.Source.{SourceView, SourceEnded}
use Rattle.engine_ports.proofs.PortLemmas.{source_none, source_on, rose_since}
use Rattle.http_edge.specs.Chunked.{Chunk, print_chunks}
use Rattle.http_edge.specs.Chunking.{PartBy, LastBy}
use Rattle.http_edge.specs.Parts.{RefusesPart, CutsPart}
use Rattle.http_edge.specs.Reading.{Fills, Reached}
use Rattle.http_edge.specs.Response.{head_text}
use Rattle.http_edge.specs.declared.head.Head.{Head}
use Rattle.http_edge.specs.declared.parts.Part.TheVariants.{Line, End}
use Rattle.response_reader.specs.Bodies.{framing_of, Carries, IsWhole, Breaks, Lacks, MayGoOn}
use Rattle.response_reader.specs.Answers.{Answered, Tells, IsAnswer}
use Rattle.response_reader.specs.Held.{Reading}
use Rattle.response_reader.specs.Reader.{place_behind, HasTaken, IsOpen, Facts, IsBroken, StandsBehind, IsCut, IsUnended, OfAll, Gives, IsAtEnd}
use Rattle.response_reader.specs.Steps.{missing_in, left_after, is_line_end, is_line, WhySays, GoSays}
use Rattle.response_reader.specs.declared.framing.Left.{Left}
use Rattle.response_reader.specs.declared.framing.Left.TheVariants as left
use Rattle.response_reader.specs.declared.got.Stage.{Stage}
use Rattle.response_reader.specs.declared.got.Stage.TheVariants as stage
use Rattle.response_reader.specs.declared.got.Stopped.{Stopped}
use Rattle.response_reader.specs.declared.got.Stopped.TheVariants as stop
use Rattle.response_reader.specs.declared.got.BodyGot.{BodyGot}
use Rattle.response_reader.specs.declared.got.BodyGot.TheVariants as body
use Rattle.response_reader.proofs.CarryLemmas.{given_on, piece_ended, piece_begun, body_ended}

-- ---- one step and then others

module _ (old mid : Reading) (s t : SourceView) (g : Gives [] old mid s t) where
  abbrev went : Reached old.ahead s t (λ bytes. bytes ≡ g.0 ++ mid.ahead)
  went = g.1

  bytes_on : (more : List ℕ) → old.ahead ++ (went.read ++ more) ≡ g.0 ++ (mid.ahead ++ more)
  bytes_on more = sym (append_assoc old.ahead went.read more) ∙ ap (λ l. l ++ more) went.holds ∙ append_assoc g.0 mid.ahead more

  taken_on : (bytes : List ℕ) (h : Head) (given : List ℕ) → HasTaken bytes h given old → HasTaken (bytes ++ g.0) h given mid
  taken_on bytes h given x = subst (λ l. HasTaken (bytes ++ g.0) h l mid) (append-nil given) (g.2 bytes h given x)

  pub gives_on : (new : Reading) (u : SourceView) (piece : List ℕ) → Gives piece mid new t u → Gives piece old new s u
  gives_on new u piece x =
      let y = x.1 in (
        g.0 ++ x.0,
        record {
          read = went.read ++ y.read;
          gave = source_on s t u went.read y.read went.gave y.gave;
          holds = bytes_on y.read ∙ ap (λ l. g.0 ++ l) y.holds ∙ sym (append_assoc g.0 x.0 new.ahead);
        },
        λ bytes h given taken. subst (λ l. HasTaken l h (given ++ piece) new) (append_assoc bytes g.0 x.0) (x.2 (bytes ++ g.0) h given (taken_on bytes h given taken)),
      )

  pub all_on : (u : SourceView) (Holds : Facts) → OfAll Holds mid t u → OfAll Holds old s u
  all_on u Holds x = record {
    read = went.read ++ x.read;
    gave = source_on s t u went.read x.read went.gave x.gave;
    holds = λ bytes h given taken.
        subst (Holds h given) (append_assoc bytes g.0 (mid.ahead ++ x.read) ∙ ap (λ l. bytes ++ l) (sym (bytes_on x.read)))
        (x.holds (bytes ++ g.0) h given (taken_on bytes h given taken));
  }

  ends_on : (u : SourceView) → SourceEnded t u → SourceEnded s u
  ends_on u e = let gave = went.gave in record { rose = rose_since s.ends t.ends u.ends gave.ends e.rose; spent = e.spent }

  pub why_on : (why : Stopped) (u : SourceView) → WhySays why mid t u → WhySays why old s u
  why_on (stop.BadHead at) u x = x
  why_on (stop.BadChunk at) u x = all_on u (IsBroken at) x
  why_on stop.CutShort u x = (all_on u IsCut x.0, ends_on u x.1)
  why_on stop.ReadFault u x = let gave = went.gave in (all_on u IsUnended x.0, rose_since s.faults t.faults u.faults gave.faults x.1)

  at_end_on : (u : SourceView) → IsAtEnd mid t u → IsAtEnd old s u
  at_end_on u (inl x) = inl (all_on u (λ h given bytes. IsAnswer bytes false (Answered h given true)) x)
  at_end_on u (inr x) = inr (all_on u (λ h given bytes. IsAnswer bytes true (Answered h given true)) x.0, ends_on u x.1)

  pub goes_on : IsOpen old.stage → (r : Result BodyGot Stopped) (new : Reading) (u : SourceView) (into : List ℕ) → GoSays r into mid new t u → GoSays r into old new s u
  goes_on opens (Ok (body.Bytes n)) new u into x = (opens, x.1, x.2, gives_on new u (take n into) x.3)
  goes_on opens (Ok body.End) new u into x = (opens, gives_on new u [] x.1, at_end_on u x.2)
  goes_on opens (Ok (body.BadChunk at)) new u into x = absurd x
  goes_on opens (Ok body.CutShort) new u into x = absurd x
  goes_on opens (Ok body.ReadFault) new u into x = absurd x
  goes_on opens (Err why) new u into x = why_on why u x

-- no step
pub stays : (r : Reading) (s : SourceView) → Gives [] r r s s
stays r s = (
  [],
  record { read = []; gave = source_none s; holds = append-nil r.ahead },
  λ bytes h given taken.
      subst (λ l. HasTaken l h (given ++ []) r) (sym (append-nil bytes)) (subst (λ l. HasTaken bytes h l r) (sym (append-nil given)) taken),
)

-- ---- what is left

abbrev left_in : Stage → Left
left_in (stage.Body l) = l
left_in other = left.Over

-- the stage tells it
same_left : (bytes : List ℕ) (h : Head) (given : List ℕ) (r : Reading) (l : Left) → r.stage ≡ stage.Body l → (x : HasTaken bytes h given r) → x.left ≡ l
same_left bytes h given r l is x = ap left_in (sym x.stage_is ∙ is)

carries_so : (bytes : List ℕ) (h : Head) (given : List ℕ) (r : Reading) (l : Left) (is : r.stage ≡ stage.Body l) (x : HasTaken bytes h given r)
    → let t = x.tells in Carries (framing_of h.form) t.chunks t.coded given l
carries_so bytes h given r l is x = let t = x.tells in subst (Carries (framing_of h.form) t.chunks t.coded given) (same_left bytes h given r l is x) t.carries

abbrev tells_so : (bytes : List ℕ) (h : Head) (given : List ℕ) (r : Reading) (l : Left) (is : r.stage ≡ stage.Body l) (x : HasTaken bytes h given r) → Tells bytes h given l
tells_so bytes h given r l is x = let t = x.tells in record { chunks = t.chunks; coded = t.coded; fits = t.fits; bytes_are = t.bytes_are; carries = carries_so bytes h given r l is x }

-- a line end, or a line, comes next
pub at_line_end : (r : Reading) (l : Left) → r.stage ≡ stage.Body l → is_line_end l ≡ true → r.stage ≡ stage.Body (left.Piece 0)
at_line_end r (left.Sized m) is ends = absurd (search (rules, ends))
at_line_end r left.Chunk is ends = absurd (search (rules, ends))
at_line_end r (left.Piece m) is ends = let zero_is : m ≡ 0 = grind (arith, nat_tests) in is ∙ ap (λ n. stage.Body (left.Piece n)) zero_is
at_line_end r left.Over is ends = absurd (search (rules, ends))
at_line_end r left.UntilEnd is ends = absurd (search (rules, ends))

pub at_line : (r : Reading) (l : Left) → r.stage ≡ stage.Body l → is_line l ≡ true → r.stage ≡ stage.Body left.Chunk
at_line r (left.Sized m) is lines = absurd (search (rules, lines))
at_line r left.Chunk is lines = is
at_line r (left.Piece m) is lines = absurd (search (rules, lines))
at_line r left.Over is lines = absurd (search (rules, lines))
at_line r left.UntilEnd is lines = absurd (search (rules, lines))

-- the bytes that were taken, and so many more
place_on : (bytes more : List ℕ) (place count : ℕ) → place ≡ place_behind bytes → length more ≡ count → min (place + count) greatest_count ≡ place_behind (bytes ++ more)
place_on bytes more place count is len = omega (arith, is, len, length-append bytes more)

-- ---- steps that stop

module _ (old : Reading) (l : Left) (is : old.stage ≡ stage.Body l) (s t : SourceView) where
  pub broken : Reached old.ahead s t (Breaks l) → WhySays (stop.BadChunk old.from) old s t
  broken x = record {
    read = x.read;
    gave = x.gave;
    holds = λ bytes h given taken.
        (bytes, old.ahead ++ x.read, l, refl, tells_so bytes h given old l is taken, x.holds, taken.from_is);
  }

  pub stands : (Behind : Left → List ℕ → Type 0) → Reached old.ahead s t (Behind l) → OfAll (StandsBehind Behind) old s t
  stands Behind x = record {
    read = x.read;
    gave = x.gave;
    holds = λ bytes h given taken. (bytes, old.ahead ++ x.read, l, refl, tells_so bytes h given old l is taken, x.holds);
  }

  pub at_end : Reached old.ahead s t (λ behind. (l ≡ left.UntilEnd) × (behind ≡ [])) → OfAll (λ h given bytes. IsAnswer bytes true (Answered h given true)) old s t
  at_end x = record {
    read = x.read;
    gave = x.gave;
    holds = λ bytes h given taken.
        let ends = x.holds in
        (bytes, old.ahead ++ x.read, left.UntilEnd, refl, subst (Tells bytes h given) ends.0 (tells_so bytes h given old l is taken), (ends.1, refl));
  }

-- ---- steps that go on

module _ (old new : Reading) (s t : SourceView) where
  -- a piece's line end
  pub ended : (size count : ℕ) → old.stage ≡ stage.Body (left.Piece 0) → new.stage ≡ stage.Body left.Chunk → new.taken ≡ min (old.taken + count) greatest_count → new.from ≡ new.taken
      → Reached old.ahead s t (PartBy End size count new.ahead) → Gives [] old new s t
  ended size count is now taken_is from_is x =
      let p = x.holds in
      let crlf : p.0 ≡ codes "\r\n" = p.1.0.0 in (
        p.0,
        record { read = x.read; gave = x.gave; holds = p.3 },
        λ bytes h given taken.
            let t = taken.tells in
            let more = piece_ended (framing_of h.form) t.chunks t.coded given (carries_so bytes h given old (left.Piece 0) is taken) in
            let place : new.taken ≡ place_behind (bytes ++ p.0) = taken_is ∙ place_on bytes p.0 old.taken count taken.taken_is p.2 in
            let whole : bytes ++ p.0 ≡ head_text h ++ (t.coded ++ p.0) = ap (λ l. l ++ p.0) t.bytes_are ∙ append_assoc (head_text h) t.coded p.0 in
            let printed : t.coded ++ p.0 ≡ print_chunks more.now = ap (λ l. t.coded ++ l) crlf ∙ more.printed in
            record {
              left = left.Chunk;
              stage_is = now;
              tells = record {
                chunks = more.now;
                coded = t.coded ++ p.0;
                fits = t.fits;
                bytes_are = whole;
                carries = subst (λ l. Carries (framing_of h.form) more.now (t.coded ++ l) (given ++ []) left.Chunk) (sym crlf)
                    (subst (λ l. Carries (framing_of h.form) more.now (t.coded ++ codes "\r\n") l left.Chunk) (sym (append-nil given)) more.carries);
              };
              taken_is = place;
              from_is = from_is ∙ place ∙ ap place_behind (whole ∙ ap (λ l. head_text h ++ l) printed);
            },
      )

  -- coded bytes that carry a piece, with the same chunks
  carried : (l l' : Left) (count : ℕ) (text piece : List ℕ) → old.stage ≡ stage.Body l → new.stage ≡ stage.Body l' → new.taken ≡ min (old.taken + count) greatest_count → new.from ≡ old.from
      → length text ≡ count → Reached old.ahead s t (λ bytes. bytes ≡ text ++ new.ahead)
      → ((h : Head) (given : List ℕ) (chunks : List Chunk) (coded : List ℕ) → Carries (framing_of h.form) chunks coded given l
      → Carries (framing_of h.form) chunks (coded ++ text) (given ++ piece) l')
      → Gives piece old new s t
  carried l l' count text piece is now taken_is from_is len x on = (
    text,
    x,
    λ bytes h given taken.
        let t = taken.tells in
        record {
          left = l';
          stage_is = now;
          tells = record {
            chunks = t.chunks;
            coded = t.coded ++ text;
            fits = t.fits;
            bytes_are = ap (λ l. l ++ text) t.bytes_are ∙ append_assoc (head_text h) t.coded text;
            carries = on h given t.chunks t.coded (carries_so bytes h given old l is taken);
          };
          taken_is = taken_is ∙ place_on bytes text old.taken count taken.taken_is len;
          from_is = from_is ∙ taken.from_is;
        },
  )

  -- a chunk's line
  pub begun : (size count : ℕ) → old.stage ≡ stage.Body left.Chunk → new.stage ≡ stage.Body (left.Piece size) → new.taken ≡ min (old.taken + count) greatest_count → new.from ≡ old.from
      → 0 < size → Reached old.ahead s t (PartBy Line size count new.ahead) → Gives [] old new s t
  begun size count is now taken_is from_is some x =
      let p = x.holds in
      carried left.Chunk (left.Piece size) count p.0 [] is now taken_is from_is p.2 (record { read = x.read; gave = x.gave; holds = p.3 })
      (λ h given chunks coded c.
      subst (λ l. Carries (framing_of h.form) chunks (coded ++ p.0) l (left.Piece size)) (sym (append-nil given))
      (piece_begun (framing_of h.form) chunks coded given p.0 size c some p.1))

  -- the end of the body
  pub over : (count : ℕ) → old.stage ≡ stage.Body left.Chunk → new.stage ≡ stage.Body left.Over → new.taken ≡ min (old.taken + count) greatest_count → new.from ≡ old.from
      → Reached old.ahead s t (LastBy count new.ahead) → Gives [] old new s t
  over count is now taken_is from_is x =
      let p = x.holds in
      carried left.Chunk left.Over count (p.0 ++ p.1) [] is now taken_is from_is p.4 (record { read = x.read; gave = x.gave; holds = p.5 })
      (λ h given chunks coded c.
      subst (λ l. Carries (framing_of h.form) chunks (coded ++ (p.0 ++ p.1)) l left.Over) (sym (append-nil given))
      (body_ended (framing_of h.form) chunks coded given p.0 p.1 c p.2 p.3))

  -- bytes of the body
  pub gave : (l : Left) (count : ℕ) (ahead : List ℕ) → old.stage ≡ stage.Body l → new.stage ≡ stage.Body (left_after l count) → new.taken ≡ min (old.taken + count) greatest_count
      → new.from ≡ old.from → 0 < count → count ≤ missing_in l → count ≤ length ahead → new.ahead ≡ drop count ahead → Fills old.ahead ahead s t
      → Gives (take count ahead) old new s t
  gave l count ahead is now taken_is from_is some fits within dropped f =
      let len : length (take count ahead) ≡ count = length-take-le count ahead within in
      carried l (left_after l count) count (take count ahead) (take count ahead) is now taken_is from_is len
      (record { read = f.read; gave = f.gave; holds = sym f.grows ∙ sym (take-append-drop count ahead) ∙ ap (λ l. take count ahead ++ l) (sym dropped) })
      (λ h given chunks coded c.
      subst (λ n. Carries (framing_of h.form) chunks (coded ++ take count ahead) (given ++ take count ahead) (left_after l n)) len
      (given_on (framing_of h.form) l chunks coded given (take count ahead) c (omega (arith, some, len)) (omega (arith, fits, len))))

-- ---- the end

-- a body of which nothing is left
whole_by : (l : Left) → missing_in l ≡ 0 → IsFalse (is_line_end l) → IsFalse (is_line l) → (behind : List ℕ) → IsWhole l behind false
whole_by (left.Sized m) none ends lines behind = none
whole_by left.Chunk none ends lines behind = absurd (search (rules, lines))
whole_by (left.Piece m) none ends lines behind = absurd (search (rules, none, ends))
whole_by left.Over none ends lines behind = tt
whole_by left.UntilEnd none ends lines behind = absurd (omega (arith, none))

pub is_over : (r : Reading) (l : Left) (s : SourceView) → r.stage ≡ stage.Body l → missing_in l ≡ 0 → IsFalse (is_line_end l) → IsFalse (is_line l) → IsAtEnd r s s
is_over r l s is none ends lines = inl (record {
  read = [];
  gave = source_none s;
  holds = λ bytes h given taken.
      (bytes, r.ahead ++ [], l, refl, tells_so bytes h given r l is taken, whole_by l none ends lines (r.ahead ++ []));
})

-- nothing more stands there
may_by : (l : Left) → 0 < missing_in l → (behind : List ℕ) → behind ≡ [] → MayGoOn l behind
may_by (left.Sized m) some behind none = (some, none)
may_by left.Chunk some behind none = absurd (omega (arith, some))
may_by (left.Piece m) some behind none = inl (some, none)
may_by left.Over some behind none = absurd (omega (arith, some))
may_by left.UntilEnd some behind none = none

pub may_more : (old : Reading) (l : Left) (ahead : List ℕ) (s t : SourceView) → 0 < missing_in l → ahead ≡ [] → Fills old.ahead ahead s t → Reached old.ahead s t (MayGoOn l)
may_more old l ahead s t some none f = record { read = f.read; gave = f.gave; holds = may_by l some (old.ahead ++ f.read) (sym f.grows ∙ none) }

-- a connection that was taken over has ended
pub taken_ended : (old new : Reading) (s t : SourceView) → old.stage ≡ stage.Body left.UntilEnd → new.stage ≡ old.stage → new.taken ≡ old.taken → new.from ≡ old.from
    → new.ahead ≡ [] → Fills old.ahead new.ahead s t → SourceEnded s t → IsOpen old.stage × Gives [] old new s t × IsAtEnd old s t
taken_ended old new s t is stage_is taken_is from_is none f e = (
  subst IsOpen (sym is) tt,
  (
    [],
    record { read = f.read; gave = f.gave; holds = sym f.grows },
    λ bytes h given taken.
        subst (λ l. HasTaken l h (given ++ []) new) (sym (append-nil bytes)) (subst (λ l. HasTaken bytes h l new) (sym (append-nil given))
        (record { left = taken.left; stage_is = stage_is ∙ taken.stage_is; tells = taken.tells; taken_is = taken_is ∙ taken.taken_is; from_is = from_is ∙ taken.from_is })),
  ),
  inr (at_end old left.UntilEnd is s t (record { read = f.read; gave = f.gave; holds = (refl, sym f.grows ∙ none) }), e),
)

-- ---- the reader as it is seen

module _ (V old : Reading) (s t : SourceView) (same : V ≡ old) where
  pub seen : (new : Reading) (piece : List ℕ) → Gives piece V new s t → Gives piece old new s t
  seen new piece x = subst (λ r. Gives piece r new s t) same x

  pub seen_as : (new : Reading) (piece other : List ℕ) → piece ≡ other → Gives other V new s t → Gives piece old new s t
  seen_as new piece other is x = subst (λ p. Gives p old new s t) (sym is) (seen new other x)

  pub seen_broken : (l : Left) → old.stage ≡ stage.Body l → Reached V.ahead s t (Breaks l) → OfAll (IsBroken V.from) old s t
  seen_broken l is x = subst (λ r. OfAll (IsBroken V.from) r s t) same (broken V l (ap (λ r. r.stage) same ∙ is) s t x)

  seen_stands : (Behind : Left → List ℕ → Type 0) (l : Left) → old.stage ≡ stage.Body l → Reached V.ahead s t (Behind l) → OfAll (StandsBehind Behind) old s t
  seen_stands Behind l is x = subst (λ r. OfAll (StandsBehind Behind) r s t) same (stands V l (ap (λ r. r.stage) same ∙ is) s t Behind x)

  pub seen_cut : (l : Left) → old.stage ≡ stage.Body l → Reached V.ahead s t (Lacks l) → OfAll IsCut old s t
  seen_cut = seen_stands Lacks

  pub seen_unended : (l : Left) → old.stage ≡ stage.Body l → Reached V.ahead s t (MayGoOn l) → OfAll IsUnended old s t
  seen_unended = seen_stands MayGoOn

-- a line end that is refused, or cut
pub end_breaks : (before : List ℕ) (s t : SourceView) → Reached before s t (RefusesPart End) → Reached before s t (Breaks (left.Piece 0))
end_breaks before s t x = record { read = x.read; gave = x.gave; holds = (refl, x.holds) }

pub end_lacks : (before : List ℕ) (s t : SourceView) → Reached before s t (CutsPart End) → Reached before s t (Lacks (left.Piece 0))
end_lacks before s t x = record { read = x.read; gave = x.gave; holds = inr (refl, x.holds) }
