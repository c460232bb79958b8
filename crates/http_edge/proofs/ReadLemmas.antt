-- What reads into a buffer give goes on.
use Rattle.std.proofs.Common.{arith, ◌≡◌, ◌<◌, ◌≤◌, ◌⊎◌, inl, inr, ℕ, List, [], ◌∷◌, length, ◌+◌, ◌++◌, take, drop, sym, ap, subst, refl, ◌∙◌, length-append, append_assoc, append-nil}
use Rattle.std.specs.Prelude.{min}
use Rattle.std.proofs.lemmas.Bool.{cases_lt}
use Rattle.std.proofs.lemmas.List.{take-append-le, take_at, length-take-le, take-append-drop, take_all, drop_all}
use Rattle.std.proofs.Math.Seq.{take-append-add}
use Rattle.engine_ports.specs.Rose.{Rose}
use Rattle.engine_ports.specs.Source.{SourceView, SourceGave, SourceEnded, ReadSays}
use Rattle.engine_ports.specs.declared.ports.Got.{Got}
use Rattle.engine_ports.specs.declared.ports.Got.TheVariants.{Bytes, End, Failed}
use Rattle.engine_ports.proofs.PortLemmas.{source_none, source_on, rose_since}
use Rattle.http_edge.specs.Reading.{Fills, Reached, ReadsBehind, FillFacts, FillSays, HeadFacts}
use Rattle.http_edge.specs.Bodies.{BodyBy}
use Rattle.http_edge.specs.Refusal.{AwaitsMore, CutsBody, in_head}
use Rattle.http_edge.specs.declared.framing.Framing.TheVariants.{Length}
use Rattle.httparse.specs.Grammar.{HasNoRequest, MayBecomeRequest}
use Rattle.httparse.specs.declared.spans.HeaderSpan.{HeaderSpan}
use Rattle.http_edge.specs.declared.front.HeadRead.TheVariants.{CutShort}
use Rattle.http_edge.specs.declared.fill.Filled.{Filled}
use Rattle.http_edge.specs.declared.fill.Filled.TheVariants as filled

-- the front of a buffer after a write behind the first len
front_after : (old mid post : List ℕ) (len n : ℕ) → len ≤ length old → n ≤ length mid
    → take (len + n) (take len old ++ (mid ++ post)) ≡ take len old ++ take n mid
front_after old mid post len n fits le =
    let l : length (take len old) ≡ len = length-take-le len old fits in
    ap (λ k. take (k + n) (take len old ++ (mid ++ post))) (sym l)
    ∙ take-append-add (take len old) (mid ++ post) n
    ∙ ap (λ t. take len old ++ t) (take-append-le n mid post le)

-- the front stays where nothing was read
front_stays : (old mid post : List ℕ) (len : ℕ) (s s' : SourceView) → len ≤ length old → SourceGave s [] s'
    → Fills (take len old) (take len (take len old ++ (mid ++ post))) s s'
front_stays old mid post len s s' fits gave = record {
  read = [];
  gave = gave;
  grows = take_at (take len old) (mid ++ post) len (length-take-le len old fits) ∙ sym (append-nil (take len old));
}

-- a read behind the first len bytes
pub reads_behind : (r : Got) (old mid post : List ℕ) (len : ℕ) (s s' : SourceView) → len ≤ length old → ReadSays r mid s s'
    → ReadsBehind r old (take len old ++ (mid ++ post)) len s s'
reads_behind (Bytes n) old mid post len s s' fits says = (
  says.0,
  omega (arith, says.1, length-append (take len old) (mid ++ post), length-append mid post, length-take-le len old fits),
  record { read = take n mid; gave = says.2; grows = front_after old mid post len n fits says.1 },
)
reads_behind End old mid post len s s' fits says = (front_stays old mid post len s s' fits says.0, says.1)
reads_behind Failed old mid post len s s' fits says = (front_stays old mid post len s s' fits says.0, says.1)

-- one read and then another
pub fills_on : (a b c : List ℕ) (s t u : SourceView) → Fills a b s t → Fills b c t u → Fills a c s u
fills_on a b c s t u f g = record {
  read = f.read ++ g.read;
  gave = source_on s t u f.read g.read f.gave g.gave;
  grows = g.grows ∙ ap (λ l. l ++ g.read) f.grows ∙ append_assoc a f.read g.read;
}

-- what holds of the bytes that stand there holds of those before and those read
pub reached : (before got : List ℕ) (s s' : SourceView) (P : List ℕ → Type 0) → Fills before got s s' → P got → Reached before s s' P
reached before got s s' P f holds = record { read = f.read; gave = f.gave; holds = subst P f.grows holds }

-- one read, and then what was reached by others
pub reached_on : (before got : List ℕ) (s t u : SourceView) (P : List ℕ → Type 0) → Fills before got s t → Reached got t u P → Reached before s u P
reached_on before got s t u P f x = record {
  read = f.read ++ x.read;
  gave = source_on s t u f.read x.read f.gave x.gave;
  holds = subst P (ap (λ l. l ++ x.read) f.grows ∙ append_assoc before f.read x.read) x.holds;
}

-- what holds of the bytes behind a front, of all of them
pub reached_behind : (all behind : List ℕ) (s s' : SourceView) (P Q : List ℕ → Type 0) → ((more : List ℕ) → P (behind ++ more) → Q (all ++ more))
    → Reached behind s s' P → Reached all s s' Q
reached_behind all behind s s' P Q on x = record { read = x.read; gave = x.gave; holds = on x.read x.holds }

-- the source ended, or failed, in a later read
pub ended_on : (before got : List ℕ) (s t u : SourceView) → Fills before got s t → SourceEnded t u → SourceEnded s u
ended_on before got s t u f e = record { rose = rose_since s.ends t.ends u.ends f.gave.ends e.rose; spent = e.spent }

pub failed_on : (before got : List ℕ) (s t u : SourceView) → Fills before got s t → Rose t.faults u.faults → Rose s.faults u.faults
failed_on before got s t u f e = rose_since s.faults t.faults u.faults f.gave.faults e

-- what was read ahead is given up, from its front on
pub given_ahead : (ahead front : List ℕ) (count : ℕ) (s : SourceView) → front ≡ take count ahead
    → Reached ahead s s (λ all. all ≡ front ++ drop count ahead)
given_ahead ahead front count s copied = record {
  read = [];
  gave = source_none s;
  holds = append-nil ahead ∙ sym (take-append-drop count ahead) ∙ ap (λ l. l ++ drop count ahead) (sym copied);
}

-- all that stood ahead was taken, or the place was full
none_left : (before read : List ℕ) (count size : ℕ) → count ≡ min (length before) size → count + length read ≤ size → (drop count before ≡ []) ⊎ (read ≡ [])
none_left before read count size is le = go (cases_lt count (length before))
  where
    empty : (l : List ℕ) → length l ≡ 0 → l ≡ []
    empty [] e = refl
    empty (x ∷ xs) e = absurd (omega (arith, e))

    go : (count < length before) ⊎ (length before ≤ count) → (drop count before ≡ []) ⊎ (read ≡ [])
    go (inl less) = inr (empty read (omega (arith, is, le, less)))
    go (inr all) = inl (drop_all count before all)

swapped : (front read rest : List ℕ) → (rest ≡ []) ⊎ (read ≡ []) → (front ++ rest) ++ read ≡ (front ++ read) ++ rest
swapped front read rest (inl none) = rw (none, append-nil front, append-nil (front ++ read)) refl
swapped front read rest (inr none) = rw (none, append-nil front, append-nil (front ++ rest)) refl

-- a place that is filled from what stood ahead, and then by the source
module _ (before place place2 : List ℕ) (count : ℕ) (s s' : SourceView) (is : count ≡ min (length before) (length place))
    (front : take count place ≡ take count before) where
  pub fill_whole : Fills (take count place) place2 s s' → length place2 ≡ length place → Reached before s s' (λ bytes. bytes ≡ place2 ++ drop count before)
  fill_whole f len =
      let fits : length (take count place) ≡ count = length-take-le count place (omega (arith, is)) in
      let most : count + length f.read ≤ length place = omega (arith, fits, len, ap length f.grows, length-append (take count place) f.read) in
      let swap = swapped (take count before) f.read (drop count before) (none_left before f.read count (length place) is most) in
      record {
        read = f.read;
        gave = f.gave;
        holds = ap (λ l. l ++ f.read) (sym (take-append-drop count before)) ∙ swap
            ∙ ap (λ l. (l ++ f.read) ++ drop count before) (sym front) ∙ ap (λ l. l ++ drop count before) (sym f.grows);
      }

  pub fill_part : (len : ℕ) → Fills (take count place) (take len place2) s s' → length place2 ≡ length place → len < length place2
      → Reached before s s' (λ bytes. length bytes < length place2)
  fill_part len f same less =
      let fits : length (take count place) ≡ count = length-take-le count place (omega (arith, is)) in
      let part : length (take len place2) ≡ len = length-take-le len place2 (omega (arith, less)) in
      let sum : len ≡ count + length f.read = omega (arith, part, fits, ap length f.grows, length-append (take count place) f.read) in
      record {
        read = f.read;
        gave = f.gave;
        holds = omega (arith, sum, less, same, is, length-append before f.read);
      }

  pub fill_says : (r : Filled) (len : ℕ) → Fills (take count place) (take len place2) s s' → length place2 ≡ length place → FillFacts r len (length place2) s s'
      → FillSays r before (drop count before) place2 s s'
  fill_says filled.Whole len f same facts =
      let all : take len place2 ≡ place2 = take_all len place2 (omega (arith, facts)) in
      fill_whole (record { read = f.read; gave = f.gave; grows = sym all ∙ f.grows }) same
  fill_says filled.CutShort len f same facts = (fill_part len f same facts.0, facts.1)
  fill_says filled.Failed len f same facts = (fill_part len f same facts.0, facts.1)

-- a body of so many bytes
pub sized_whole : (before body ahead : List ℕ) (size : ℕ) (s s' : SourceView) → length body ≡ size → Reached before s s' (λ bytes. bytes ≡ body ++ ahead)
    → Reached before s s' (BodyBy (Length size) body size ahead)
sized_whole before body ahead size s s' len x = record { read = x.read; gave = x.gave; holds = (body, (refl, len), len, x.holds) }

pub sized_cut : (before body : List ℕ) (size : ℕ) (s s' : SourceView) → length body ≡ size → Reached before s s' (λ bytes. length bytes < length body)
    → Reached before s s' (CutsBody (Length size))
sized_cut before body size s s' len x = record { read = x.read; gave = x.gave; holds = let less = x.holds in omega (arith, less, len) }

-- the input ended inside a head
pub head_is_cut : (start before after : List ℕ) (spans : List HeaderSpan) (s t u : SourceView) → Fills start before s t → (after ≡ before) × Fills before after t u × SourceEnded t u
    → 0 < length before → length before < 16384 → HasNoRequest before → MayBecomeRequest before → HeadFacts CutShort after spans s u
head_is_cut start before after spans s t u f (same, g, e) some short lacks may =
    subst (λ b. HeadFacts CutShort b spans s u) (sym same)
    (some, short, lacks, may, record { rose = rose_since s.ends t.ends u.ends f.gave.ends e.rose; spent = e.spent })

-- a read failed before a head was whole
head_awaits : (bytes : List ℕ) → length bytes < 16384 → HasNoRequest bytes → MayBecomeRequest bytes → AwaitsMore bytes
head_awaits [] short lacks may = inl refl
head_awaits (x ∷ bytes) short lacks may = inr (in_head (omega arith) short lacks may)

pub head_is_unread : (start before after : List ℕ) (s t u : SourceView) → Fills start before s t → (after ≡ before) × Fills before after t u × Rose t.faults u.faults
    → length before < 16384 → HasNoRequest before → MayBecomeRequest before → AwaitsMore after × Rose s.faults u.faults
head_is_unread start before after s t u f (same, g, e) short lacks may =
    (subst AwaitsMore (sym same) (head_awaits before short lacks may), rose_since s.faults t.faults u.faults f.gave.faults e)
