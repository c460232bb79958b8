-- A head that is read from pieces.
use Rattle.std.proofs.Common.{arith, ◌≡◌, ◌<◌, ◌≤◌, ℕ, List, [], length, ◌++◌, take, drop, map, inl, inr, sym, ap, subst, refl, ◌∙◌, length-append, length-drop, append-nil, take-append-drop}
use Rattle.std.proofs.lemmas.List.{take_at, drop_all, length-take-le}
use Rattle.std.proofs.lemmas.List.Elements.{All-nil}
use Rattle.httparse.specs.Grammar.{RequestHead, print_request, HasNoRequest, MayBecomeRequest, NeverHasRequest}
use Rattle.httparse.specs.Spans.{header_bytes, IsRequestAt, IsRequestWithin}
use Rattle.httparse.specs.declared.spans.HeaderSpan.{HeaderSpan}
use Rattle.httparse.specs.declared.spans.RequestSpans.{RequestSpans}
use Rattle.engine_ports.specs.Rose.{Rose}
use Rattle.engine_ports.specs.Source.{SourceEnded}
use Rattle.http_edge.specs.Chunked.{IsChunk}
use Rattle.http_edge.specs.Framing.{framing_of}
use Rattle.http_edge.specs.Reading.{Fills, Reached}
use Rattle.http_edge.specs.Refusal.{RefusesBody, by_framing, AwaitsMore, in_head}
use Rattle.http_edge.specs.Stored.{Stored}
use Rattle.http_edge.specs.declared.framing.Framing.{Framing}
use Rattle.http_edge.specs.declared.framing.Framing.TheVariants.{Length, Chunked, Refused}
use Rattle.http_edge.proofs.ReadLemmas.{reached}
use Rattle.http_edge.proofs.RequestLemmas.{narrow_span, narrow_fields, narrow_within, framing_at, never_refused, long_refused, head_ended}
use Rattle.http_edge.proofs.RoomLemmas.{head_takes}
use Rattle.request_pieces.specs.Pieces.{view_of, left_of}
use Rattle.request_pieces.specs.Standing.{KeepsHead, AreChunks}
use Rattle.request_pieces.specs.Taking.{StepOf, StepSays, GoesOn, FrameSays}
use Rattle.request_pieces.specs.declared.source.Piece.{Piece}
use Rattle.request_pieces.specs.declared.standing.Inside.TheVariants.{Head, Body, Chunks}
use Rattle.request_pieces.specs.declared.standing.ChunkAt.TheVariants.{Line}
use Rattle.request_pieces.specs.declared.standing.Came.TheVariants as came
use Rattle.request_pieces.specs.declared.standing.Step.{Step}
use Rattle.request_pieces.specs.declared.standing.Step.TheVariants.{On, Ends}

pub no_chunks : (body : List ℕ) → body ≡ [] → AreChunks [] body
no_chunks body none = ([], record { valid = All-nil IsChunk; fits = omega arith; whole = refl }, none)

-- the bytes ahead begin with a head, which is taken
module _ (got : List ℕ) (spans : List HeaderSpan) (r : RequestSpans) (h : RequestHead) (small : length got ≤ 16384)
    (within : IsRequestWithin got spans r) (at : IsRequestAt got spans r h) (b : Stored) (ahead : List ℕ)
    (head_is : b.head ≡ take r.len got) (spans_is : b.spans ≡ spans) (body_is : b.body ≡ []) (ahead_is : ahead ≡ drop r.len got) where
  front : take r.len got ≡ print_request h
  front = ap (take r.len) at.reads.1 ∙ take_at (print_request h) (drop r.len got) r.len (sym at.len)

  front_len : length (take r.len got) ≡ r.len
  front_len = length-take-le r.len got within.section.len_fits

  at_front : IsRequestAt (take r.len got) spans r h
  at_front = record {
    reads = (
      at.reads.0,
      front ∙ sym (append-nil (print_request h)) ∙ ap (λ l. print_request h ++ l) (sym (drop_all r.len (take r.len got) (omega (arith, front_len)))),
    );
    len = at.len;
    method = narrow_span got r.len r.method within.method ∙ at.method;
    path = narrow_span got r.len r.path within.path ∙ at.path;
    version = at.version;
    fields = narrow_fields got r.len (take r.headers spans) within.section.headers_fit ∙ at.fields;
  }

  keeps : (f : Framing) → f ≡ framing_of r.version (map (header_bytes got) (take r.headers spans)) → KeepsHead b r f
  keeps f is = record {
    head = h;
    within = rw (head_is, spans_is) (narrow_within got spans r within);
    at = rw (head_is, spans_is) at_front;
    whole = head_is ∙ front;
    small = omega (arith, ap length head_is, front_len, within.section.len_fits, small);
    framed = is ∙ framing_at got spans r h small within at;
  }

  taken : got ≡ b.head ++ ahead
  taken = sym (take-append-drop r.len got) ∙ ap (λ l. l ++ drop r.len got) (sym head_is) ∙ ap (λ l. b.head ++ l) (sym ahead_is)

  shorter : length ahead < length got
  shorter = omega (arith, ap length ahead_is, length-drop r.len got, head_takes h at.reads.0, at.len, within.section.len_fits)

  pub frames_body : (size : ℕ) → Length size ≡ framing_of r.version (map (header_bytes got) (take r.headers spans)) → size ≤ 1048576
      → FrameSays (On (Body r size)) b ahead got
  frames_body size is fits =
      ((keeps (Length size) is, omega (arith, ap length body_is), fits, taken ∙ ap (λ l. b.head ++ (l ++ ahead)) (sym body_is)), shorter)

  pub frames_chunks : Chunked ≡ framing_of r.version (map (header_bytes got) (take r.headers spans)) → FrameSays (On (Chunks r Line)) b ahead got
  frames_chunks is = (([], keeps Chunked is, no_chunks b.body body_is, taken), shorter)

  pub frames_none : (status : ℕ) → Refused status ≡ framing_of r.version (map (header_bytes got) (take r.headers spans))
      → FrameSays (Ends (came.Refused status)) b ahead got
  frames_none status is =
      by_framing h (drop r.len got) (at.reads, omega (arith, at.len, within.section.len_fits, small))
      (subst (λ f. RefusesBody f (drop r.len got) status) (is ∙ framing_at got spans r h small within at) refl)

-- what reading a head came to, of the bytes that stood ahead
module _ (b c : Stored) (ahead got : List ℕ) (p q : Piece) (f : Fills ahead got (view_of p) (view_of q)) where
  at_head : (step : Step) (left : List ℕ) → Reached ahead (view_of p) (view_of q) (StepOf step c left (view_of q))
      → StepSays step Head b ahead c left (view_of p) (view_of q)
  at_head step left x bytes is = subst (λ l. Reached l (view_of p) (view_of q) (StepOf step c left (view_of q))) (sym is) x

  pub head_framed : (step : Step) (left : List ℕ) → FrameSays step c left got → StepSays step Head b ahead c left (view_of p) (view_of q)
  head_framed (On inside) left x = at_head (On inside) left (reached ahead got (view_of p) (view_of q) (StepOf (On inside) c left (view_of q)) f x.0)
  head_framed (Ends (came.Refused status)) left x =
      at_head (Ends (came.Refused status)) left (reached ahead got (view_of p) (view_of q) (StepOf (Ends (came.Refused status)) c left (view_of q)) f x)
  head_framed (Ends (came.Whole r)) left x = absurd x
  head_framed (Ends (came.Awaits inside)) left x = absurd x

  pub head_less : (step : Step) (left : List ℕ) → FrameSays step c left got → GoesOn step (left_of ahead p) (left_of left q)
  head_less (On inside) left x =
      let gave = f.gave.gave in
      let short = x.1 in
      omega (arith, short, ap length f.grows, length-append ahead f.read, ap length gave, length-append f.read q.rest.now)
  head_less (Ends (came.Refused status)) left x = tt
  head_less (Ends (came.Whole r)) left x = absurd x
  head_less (Ends (came.Awaits inside)) left x = absurd x

  pub head_never : length got ≤ 16384 → NeverHasRequest got → StepSays (Ends (came.Refused 400)) Head b ahead c got (view_of p) (view_of q)
  head_never short never = at_head (Ends (came.Refused 400)) got (never_refused ahead got (view_of p) (view_of q) f short never)

  pub head_long : length got ≡ 16384 → HasNoRequest got → MayBecomeRequest got → StepSays (Ends (came.Refused 431)) Head b ahead c got (view_of p) (view_of q)
  head_long long none may = at_head (Ends (came.Refused 431)) got (long_refused ahead got (view_of p) (view_of q) f long none may)

  awaits : AwaitsMore got → q.rest.now ≡ [] → StepSays (Ends (came.Awaits Head)) Head b ahead c got (view_of p) (view_of q)
  awaits more spent =
      at_head (Ends (came.Awaits Head)) got
      (reached ahead got (view_of p) (view_of q) (StepOf (Ends (came.Awaits Head)) c got (view_of q)) f (refl, more, spent))

  pub head_none : length got ≡ 0 → SourceEnded (view_of p) (view_of q) → StepSays (Ends (came.Awaits Head)) Head b ahead c got (view_of p) (view_of q)
  head_none len e = awaits (inl (head_ended ahead got (view_of p) (view_of q) f len e).1) e.spent

  pub head_part : 0 < length got → length got < 16384 → HasNoRequest got → MayBecomeRequest got → SourceEnded (view_of p) (view_of q)
      → StepSays (Ends (came.Awaits Head)) Head b ahead c got (view_of p) (view_of q)
  head_part some short none may e = awaits (inr (in_head some short none may)) e.spent

-- a piece has no faults
pub no_fault : (p q : Piece) → Rose (view_of p).faults (view_of q).faults → ⊥
no_fault p q (inl less) = omega (arith, less)
no_fault p q (inr most) = omega (arith, most)
