-- Bytes begin with one request at most, and have one reading.
use Rattle.std.proofs.Common.{◌≡◌, ℕ, List, [], ◌∷◌, ◌++◌, map, sym, ap, subst, refl, ◌∙◌, append_assoc}
use Rattle.httparse.proofs.GrammarLemmas.{request_unique}
use Rattle.httparse.specs.Grammar.{print_request, ReadsRequest}
use Rattle.httparse.specs.Spans.{name_and_value}
use Rattle.http_edge.specs.Message.{Request}
use Rattle.http_edge.specs.Spelling.{head_framing, SpellsBody, Begins, HasNoRequest, ReadsRequests, ReadsAll}
use Rattle.http_edge.specs.declared.framing.Framing.{Framing}
use Rattle.http_edge.specs.declared.framing.Framing.TheVariants.{Length, Chunked, Refused}
use Rattle.http_edge.proofs.PartLemmas.{same_parts}
use Rattle.http_edge.proofs.ChunkedLemmas.{one_chunked}

-- a framing reads one body
one_body : (f : Framing) (a b x y after rest : List ℕ) → SpellsBody f a x → SpellsBody f b y → a ++ after ≡ b ++ rest → (x ≡ y) × (after ≡ rest)
one_body (Length n) a b x y after rest u v e =
    let same = same_parts a b after rest (u.1 ∙ sym v.1) e in
    (u.0 ∙ same.0 ∙ sym v.0, same.1)
one_body Chunked a b x y after rest u v e = one_chunked a b x y after rest u v e
one_body (Refused s) a b x y after rest u v e = absurd u

-- the head of the request that the bytes begin with
pub begins_head : (bytes behind : List ℕ) (r : Request) (b : Begins bytes r behind) → ReadsRequest bytes b.1.head (b.1.coded ++ behind)
begins_head bytes behind r b =
    (b.1.valid, b.2 ∙ ap (λ l. l ++ behind) b.1.whole ∙ append_assoc (print_request b.1.head) b.1.coded behind)

-- what begins with a request begins with one alone
pub one_request : (bytes behind other : List ℕ) (r q : Request) → Begins bytes r behind → Begins bytes q other → (r ≡ q) × (behind ≡ other)
one_request bytes behind other r q a b =
    let x = a.1 in
    let y = b.1 in
    let heads = request_unique bytes x.head y.head (x.coded ++ behind) (y.coded ++ other) (begins_head bytes behind r a) (begins_head bytes other q b) in
    let bodies = one_body (head_framing y.head) x.coded y.coded r.body q.body behind other
    (subst (λ h. SpellsBody (head_framing h) x.coded r.body) heads.0 x.body) y.body heads.1 in (
      λ i. record {
        method = (x.method ∙ ap (λ h. h.method) heads.0 ∙ sym y.method) i;
        target = (x.target ∙ ap (λ h. h.target) heads.0 ∙ sym y.target) i;
        fields = (x.fields ∙ ap (λ h. map name_and_value h.fields) heads.0 ∙ sym y.fields) i;
        body = bodies.0 i;
      },
      bodies.1,
    )

begins_none : (bytes other behind : List ℕ) (r : Request) → bytes ≡ other → HasNoRequest other → Begins bytes r behind → ⊥
begins_none bytes other behind r e lacks b = lacks r behind (b.0, b.1, sym e ∙ b.2)

-- a connection is one list of requests and one rest
pub one_reading : (rs qs : List Request) (bytes rest other : List ℕ) → ReadsAll bytes rs rest → ReadsAll bytes qs other → (rs ≡ qs) × (rest ≡ other)
one_reading [] [] bytes rest other a b = (refl, sym a.0 ∙ b.0)
one_reading [] (q ∷ qs) bytes rest other a b = absurd (begins_none bytes rest b.0.0 q a.0 a.1 b.0.1)
one_reading (r ∷ rs) [] bytes rest other a b = absurd (begins_none bytes other a.0.0 r b.0 b.1 a.0.1)
one_reading (r ∷ rs) (q ∷ qs) bytes rest other a b =
    let first = one_request bytes a.0.0 b.0.0 r q a.0.1 b.0.1 in
    let later = one_reading rs qs a.0.0 rest other (a.0.2, a.1) (subst (λ l. ReadsRequests l qs other) (sym first.1) b.0.2, b.1) in
    (λ i. first.0 i ∷ later.0 i, later.1)

-- one request more
pub reads_more : (rs : List Request) (bytes middle behind : List ℕ) (r : Request) → ReadsRequests bytes rs middle → Begins middle r behind → ReadsRequests bytes (rs ++ r ∷ []) behind
reads_more [] bytes middle behind r a b = (behind, (b.0, b.1, a ∙ b.2), refl)
reads_more (q ∷ rs) bytes middle behind r a b = (a.0, a.1, reads_more rs a.0 middle behind r a.2 b)

begins_longer : (bytes behind more : List ℕ) (r : Request) → Begins bytes r behind → Begins (bytes ++ more) r (behind ++ more)
begins_longer bytes behind more r b = (b.0, b.1, ap (λ l. l ++ more) b.2 ∙ append_assoc b.0 behind more)

-- more bytes behind the rest
pub reads_longer : (rs : List Request) (bytes rest more : List ℕ) → ReadsRequests bytes rs rest → ReadsRequests (bytes ++ more) rs (rest ++ more)
reads_longer [] bytes rest more a = ap (λ l. l ++ more) a
reads_longer (r ∷ rs) bytes rest more a = (a.0 ++ more, begins_longer bytes a.0 more r a.1, reads_longer rs a.0 rest more a.2)
