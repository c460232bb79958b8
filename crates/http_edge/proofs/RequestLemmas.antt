-- What the reads of one request say of its bytes.
use Rattle.std.proofs.Common.{arith, ◌≡◌, ◌<◌, ◌≤◌, ℕ, List, [], ◌∷◌, length, ◌++◌, take, drop, map, inr, sym, ap, subst, refl, ◌∙◌, length-append, append_assoc}
use Rattle.std.proofs.lemmas.List.{take-take, take_all, length-take-le}
use Rattle.std.proofs.lemmas.Slice.{between_is}
use Rattle.std.proofs.lemmas.List.Elements.{All-weaker, All-head, All-tail}
use Rattle.std.specs.Prelude.{IsUtf8, IsTrue, All}
use Rattle.std.proofs.lemmas.Bool.Decides.{nat_tests}
use Rattle.std.proofs.lemmas.Str.{IsUtf8-from_ascii}
use Rattle.std.proofs.lemmas.Str.Ascii.{IsAscii-from_all}
use Rattle.httparse.proofs.GrammarLemmas.{ReadsRequest-append}
use Rattle.httparse.specs.Grammar.{is_token_byte, AllPass, RequestHead, print_request, HasNoRequest as HasNoHead, NeverHasRequest, MayBecomeRequest}
use Rattle.httparse.specs.Spans.{span_bytes, header_bytes, IsWithin, IsHeaderWithin, IsRequestAt, IsRequestWithin}
use Rattle.httparse.specs.declared.spans.Span.{Span}
use Rattle.httparse.specs.declared.spans.HeaderSpan.{HeaderSpan}
use Rattle.httparse.specs.declared.spans.RequestSpans.{RequestSpans}
use Rattle.engine_ports.specs.Source.{SourceView, SourceEnded}
use Rattle.http_edge.specs.Framing.{framing_of}
use Rattle.http_edge.specs.Spelling.{head_framing, SpellsBody}
use Rattle.http_edge.specs.Refusal.{BeginsWithHead, RefusesBody, CutsBody, IsRefused, never, too_long, by_framing, IsUnfinished, in_head, in_body, AwaitsMore}
use Rattle.http_edge.specs.Reading.{Fills, Reached}
use Rattle.http_edge.specs.Bodies.{BodyBy}
use Rattle.http_edge.specs.Outcome.{ShowsRequest, Facts}
use Rattle.http_edge.specs.Shown.{IsShown}
use Rattle.http_edge.specs.declared.framing.Framing.{Framing}
use Rattle.http_edge.specs.declared.request.Outcome.{Outcome}
use Rattle.http_edge.specs.declared.request.Outcome.TheVariants.{Whole, End, Bad, CutShort, Failed}
use Rattle.http_edge.proofs.ReadLemmas.{reached, reached_on, reached_behind, ended_on, failed_on}

-- ---- the outcome

pub never_refused : (before got : List ℕ) (s s' : SourceView) → Fills before got s s' → length got ≤ 16384 → NeverHasRequest got
    → Reached before s s' (λ all. IsRefused all 400)
never_refused before got s s' f le lacks = reached before got s s' (λ all. IsRefused all 400) f
    (never refl (subst NeverHasRequest (sym (take_all 16384 got le)) lacks))

pub long_refused : (before got : List ℕ) (s s' : SourceView) → Fills before got s s' → length got ≡ 16384 → HasNoHead got → MayBecomeRequest got
    → Reached before s s' (λ all. IsRefused all 431)
long_refused before got s s' f len lacks may =
    let w : take 16384 got ≡ got = take_all 16384 got (omega arith) in
    reached before got s s' (λ all. IsRefused all 431) f
    (too_long refl (omega arith) (subst HasNoHead (sym w) lacks) (subst MayBecomeRequest (sym w) may))

no_bytes : (l : List ℕ) → length l ≡ 0 → l ≡ []
no_bytes [] e = refl
no_bytes (x ∷ xs) e = absurd (omega (arith, e))

pub head_ended : (before got : List ℕ) (s s' : SourceView) → Fills before got s s' → length got ≡ 0 → SourceEnded s s'
    → Reached before s s' (λ all. all ≡ []) × (got ≡ []) × SourceEnded s s'
head_ended before got s s' f len e = (reached before got s s' (λ all. all ≡ []) f (no_bytes got len), no_bytes got len, e)

pub head_cut : (before got : List ℕ) (s s' : SourceView) → Fills before got s s' → 0 < length got → length got < 16384 → HasNoHead got → MayBecomeRequest got
    → Reached before s s' IsUnfinished
head_cut before got s s' f some short lacks may = reached before got s s' IsUnfinished f (in_head some short lacks may)

pub head_failed : (before got : List ℕ) (s s' : SourceView) → Fills before got s s' → AwaitsMore got → Reached before s s' AwaitsMore
head_failed before got s s' f awaits = reached before got s s' AwaitsMore f awaits

-- what was said of the bytes that stood there, of those before them
pub facts_on : (o : Outcome) (before got ahead head : List ℕ) (spans : List HeaderSpan) (b : List ℕ) (s t u : SourceView) → Fills before got s t
    → Facts o got ahead head spans b t u → Facts o before ahead head spans b s u
facts_on (Whole r count) before got ahead head spans b s t u f x = (x.0, reached_on before got s t u _ f x.1)
facts_on End before got ahead head spans b s t u f x = (reached_on before got s t u _ f x.0, x.1, ended_on before got s t u f x.2)
facts_on (Bad status) before got ahead head spans b s t u f x = reached_on before got s t u _ f x
facts_on CutShort before got ahead head spans b s t u f x = (reached_on before got s t u _ f x.0, ended_on before got s t u f x.1)
facts_on Failed before got ahead head spans b s t u f x = (reached_on before got s t u _ f x.0, failed_on before got s t u f x.1)

-- ---- the head stands in its first bytes

pub narrow_span : (bytes : List ℕ) (n : ℕ) (p : Span) → IsWithin n p → span_bytes (take n bytes) p ≡ span_bytes bytes p
narrow_span bytes n p within =
    between_is (take n bytes) p.start p.end
    ∙ ap (drop p.start) (take-take p.end n bytes within.1)
    ∙ sym (between_is bytes p.start p.end)

narrow_field : (bytes : List ℕ) (n : ℕ) (h : HeaderSpan) → IsHeaderWithin n h → header_bytes (take n bytes) h ≡ header_bytes bytes h
narrow_field bytes n h within = λ i. (narrow_span bytes n h.name within.0 i, narrow_span bytes n h.value within.1 i)

pub narrow_fields : (bytes : List ℕ) (n : ℕ) (hs : List HeaderSpan) → All (IsHeaderWithin n) hs → map (header_bytes (take n bytes)) hs ≡ map (header_bytes bytes) hs
narrow_fields bytes n [] all = refl
narrow_fields bytes n (h ∷ hs) all =
    let first = narrow_field bytes n h (All-head (IsHeaderWithin n) h hs all) in
    let later = narrow_fields bytes n hs (All-tail (IsHeaderWithin n) h hs all) in
    λ i. first i ∷ later i

pub narrow_within : (got : List ℕ) (spans : List HeaderSpan) (r : RequestSpans) → IsRequestWithin got spans r → IsRequestWithin (take r.len got) spans r
narrow_within got spans r w = record {
  method = w.method;
  path = w.path;
  version = w.version;
  section = record {
    len_fits = omega (arith, length-take-le r.len got w.section.len_fits);
    count_fits = w.section.count_fits;
    headers_fit = w.section.headers_fit;
  };
}

-- a token is text
token_is_ascii : (b : ℕ) → IsTrue (is_token_byte b) → b < 128
unfolding is_token_byte
token_is_ascii b token = grind (arith, nat_tests)

token_text : (bytes : List ℕ) → AllPass is_token_byte bytes → IsUtf8 bytes
token_text bytes pass = IsUtf8-from_ascii bytes (IsAscii-from_all bytes (All-weaker (λ b. IsTrue (is_token_byte b)) (λ b. b < 128) token_is_ascii bytes pass))

-- a head that was found, and the bytes ahead that begin with it
module _ (got : List ℕ) (spans : List HeaderSpan) (r : RequestSpans) (h : RequestHead) (small : length got ≤ 16384)
    (within : IsRequestWithin got spans r) (at : IsRequestAt got spans r h) where
  -- it can be shown
  pub shown : IsShown (take r.len got) spans r
  shown = record {
    within = narrow_within got spans r within;
    method = subst IsUtf8 (sym (narrow_span got r.len r.method within.method ∙ at.method)) (token_text h.method at.reads.0.method.1);
    target = subst IsUtf8 (sym (narrow_span got r.len r.path within.path ∙ at.path)) at.reads.0.target_text;
  }

  -- the framing at the spans is that of the head
  pub framing_at : framing_of r.version (map (header_bytes got) (take r.headers spans)) ≡ head_framing h
  framing_at = rw (at.version, at.fields) refl

  pub begins : (more : List ℕ) → BeginsWithHead (got ++ more) h (drop r.len got ++ more)
  begins more = (ReadsRequest-append got h (drop r.len got) more at.reads, omega (arith, at.len, within.section.len_fits, small))

  module _ (f : Framing) (is : f ≡ framing_of r.version (map (header_bytes got) (take r.headers spans))) where
    pub body_refused : (status : ℕ) (s s' : SourceView) → Reached (drop r.len got) s s' (λ behind. RefusesBody f behind status)
        → Reached got s s' (λ all. IsRefused all status)
    body_refused status s s' = reached_behind got (drop r.len got) s s' _ _ (λ more refuses.
        by_framing h (drop r.len got ++ more) (begins more) (subst (λ k. RefusesBody k (drop r.len got ++ more) status) (is ∙ framing_at) refuses))

    pub body_cut : (s s' : SourceView) → Reached (drop r.len got) s s' (CutsBody f) → Reached got s s' IsUnfinished
    body_cut s s' = reached_behind got (drop r.len got) s s' _ _ (λ more cuts.
        in_body h (drop r.len got ++ more) (begins more) (subst (λ k. CutsBody k (drop r.len got ++ more)) (is ∙ framing_at) cuts))

    pub body_failed : (s s' : SourceView) → Reached (drop r.len got) s s' (CutsBody f) → Reached got s s' AwaitsMore
    body_failed s s' x = reached_behind got got s s' IsUnfinished AwaitsMore (λ more u. inr u) (body_cut s s' x)

    whole_bytes : (more coded ahead : List ℕ) → drop r.len got ++ more ≡ coded ++ ahead → got ++ more ≡ (print_request h ++ coded) ++ ahead
    whole_bytes more coded ahead e =
        ap (λ l. l ++ more) at.reads.1 ∙ append_assoc (print_request h) (drop r.len got) more ∙ ap (λ l. print_request h ++ l) e
        ∙ sym (append_assoc (print_request h) coded ahead)

    pub shows : (b ahead more : List ℕ) (count : ℕ) → BodyBy f b count ahead (drop r.len got ++ more)
        → ShowsRequest (take r.len got) spans r b count ahead (got ++ more)
    shows b ahead more count x =
        let bytes = whole_bytes more x.0 ahead x.3 in (
          (
            print_request h ++ x.0,
            record {
              head = h;
              coded = x.0;
              valid = at.reads.0;
              small = omega (arith, at.len, within.section.len_fits, small);
              body = subst (λ k. SpellsBody k x.0 b) (is ∙ framing_at) x.1;
              method = narrow_span got r.len r.method within.method ∙ at.method;
              target = narrow_span got r.len r.path within.path ∙ at.path;
              fields = narrow_fields got r.len (take r.headers spans) within.section.headers_fit ∙ at.fields;
              whole = refl;
            },
            bytes,
          ),
          omega (arith, ap length bytes, length-append (print_request h ++ x.0) ahead, length-append (print_request h) x.0, at.len, x.2),
        )

    -- the head was kept, and the body read
    pub framed_whole : (head b ahead : List ℕ) (count : ℕ) (s s' : SourceView) → take r.len head ≡ take r.len got → Reached (drop r.len got) s s' (BodyBy f b count ahead)
        → Facts (Whole r count) got ahead head spans b s s'
    framed_whole head b ahead count s s' kept x =
        subst (λ front. IsShown front spans r × Reached got s s' (ShowsRequest front spans r b count ahead)) (sym kept)
        (shown, reached_behind got (drop r.len got) s s' _ _ (λ more y. shows b ahead more count y) x)
