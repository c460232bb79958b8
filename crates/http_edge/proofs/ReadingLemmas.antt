-- Every list of bytes has some reading.
use Rattle.std.proofs.Common.{arith, ◌≡◌, ◌<◌, ◌≤◌, ◌⊎◌, inl, inr, ℕ, zero, suc, List, [], ◌∷◌, ◌++◌, length, take, drop, map, sym, ap, subst, refl, ◌∙◌, append_assoc, length-append}
use Rattle.std.proofs.lemmas.Bool.{cases_lt}
use Rattle.std.proofs.lemmas.List.{take-append-drop, length-take-le}
use Rattle.httparse.proofs.GrammarLemmas.{request_unique}
use Rattle.httparse.specs.Grammar.{RequestHead, print_request, ReadsRequest}
use Rattle.httparse.specs.Spans.{name_and_value}
use Rattle.http_edge.specs.Message.{Request}
use Rattle.http_edge.specs.Spelling.{head_framing, SpellsBody, Begins, HasNoRequest, ReadsRequests, ReadsAll}
use Rattle.http_edge.specs.declared.framing.Framing.{Framing}
use Rattle.http_edge.specs.declared.framing.Framing.TheVariants.{Length, Chunked, Refused}
use Rattle.http_edge.proofs.RoomLemmas.{head_takes}
use Rattle.http_edge.proofs.StreamLemmas.{begins_head}
use Rattle.http_edge.proofs.EndLemmas.{headless_none}
use Rattle.http_edge.proofs.DecideLemmas.{head_told}
use Rattle.http_edge.proofs.ToldLemmas.{chunked_told}

-- whether a body stands there can be told
body_told : (f : Framing) (behind : List ℕ) → ((coded : List ℕ) × (body : List ℕ) × (rest : List ℕ) × SpellsBody f coded body × (behind ≡ coded ++ rest)) ⊎ ((coded body rest : List ℕ) → SpellsBody f coded body → behind ≡ coded ++ rest → ⊥)
body_told (Length n) behind = go (cases_lt (length behind) n)
  where
    go : (length behind < n) ⊎ (n ≤ length behind) → ((coded : List ℕ) × (body : List ℕ) × (rest : List ℕ) × SpellsBody (Length n) coded body × (behind ≡ coded ++ rest)) ⊎ ((coded body rest : List ℕ) → SpellsBody (Length n) coded body → behind ≡ coded ++ rest → ⊥)
    go (inl less) = inr (λ coded body rest x e. omega (arith, ap length e, length-append coded rest, x.1, less))
    go (inr all) = inl (take n behind, take n behind, drop n behind, (refl, length-take-le n behind all), sym (take-append-drop n behind))
body_told Chunked behind = chunked_told behind
body_told (Refused s) behind = inr (λ coded body rest x e. x)

-- whether the bytes begin with a request can be told
begins_told : (bytes : List ℕ) → ((r : Request) × (behind : List ℕ) × Begins bytes r behind) ⊎ HasNoRequest bytes
begins_told bytes = go (head_told bytes)
  where
    found : (h : RequestHead) (behind : List ℕ) → ReadsRequest bytes h behind → length (print_request h) ≤ 16384
        → ((coded : List ℕ) × (body : List ℕ) × (rest : List ℕ) × SpellsBody (head_framing h) coded body × (behind ≡ coded ++ rest)) ⊎ ((coded body rest : List ℕ) → SpellsBody (head_framing h) coded body → behind ≡ coded ++ rest → ⊥)
        → ((r : Request) × (behind : List ℕ) × Begins bytes r behind) ⊎ HasNoRequest bytes
    found h behind reads small (inl x) = inl (
      record { method = h.method; target = h.target; fields = map name_and_value h.fields; body = x.1 },
      x.2,
      (
        print_request h ++ x.0,
        record { head = h; coded = x.0; valid = reads.0; small = small; body = x.3; method = refl; target = refl; fields = refl; whole = refl },
        reads.1 ∙ ap (λ l. print_request h ++ l) x.4 ∙ sym (append_assoc (print_request h) x.0 x.2),
      ),
    )
    found h behind reads small (inr none) = inr (λ r rest b.
        let same = request_unique bytes b.1.head h (b.1.coded ++ rest) behind (begins_head bytes rest r b) reads in
        none b.1.coded r.body rest (subst (λ k. SpellsBody (head_framing k) b.1.coded r.body) same.0 b.1.body) (sym same.1))

    sized : (h : RequestHead) (behind : List ℕ) → ReadsRequest bytes h behind → (16384 < length (print_request h)) ⊎ (length (print_request h) ≤ 16384)
        → ((r : Request) × (behind : List ℕ) × Begins bytes r behind) ⊎ HasNoRequest bytes
    sized h behind reads (inl long) = inr (λ r rest b.
        let same = request_unique bytes b.1.head h (b.1.coded ++ rest) behind (begins_head bytes rest r b) reads in
        let small = b.1.small in omega (arith, ap (λ k. length (print_request k)) same.0, small, long))
    sized h behind reads (inr small) = found h behind reads small (body_told (head_framing h) behind)

    go : ((h : RequestHead) × (rest : List ℕ) × ReadsRequest bytes h rest) ⊎ Rattle.httparse.specs.Grammar.HasNoRequest bytes → ((r : Request) × (behind : List ℕ) × Begins bytes r behind) ⊎ HasNoRequest bytes
    go (inl x) = sized x.0 x.1 x.2 (cases_lt 16384 (length (print_request x.0)))
    go (inr none) = inr (headless_none bytes none)

-- a request takes some bytes
pub behind_less : (bytes behind : List ℕ) (r : Request) → Begins bytes r behind → length behind < length bytes
behind_less bytes behind r b =
    omega (arith, ap length (begins_head bytes behind r b).1, length-append (print_request b.1.head) (b.1.coded ++ behind), length-append b.1.coded behind, head_takes b.1.head b.1.valid)

abbrev HasReading : List ℕ → Type 0
HasReading bytes = (more : List Request) × (last : List ℕ) × ReadsAll bytes more last

reading_step : (bytes : List ℕ) → ((r : Request) × (behind : List ℕ) × Begins bytes r behind) ⊎ HasNoRequest bytes → ((behind : List ℕ) → length behind < length bytes → HasReading behind) → HasReading bytes
reading_step bytes (inl x) shorter =
    let later = shorter x.1 (behind_less bytes x.1 x.0 x.2) in
    (x.0 ∷ later.0, later.1, ((x.1, x.2, later.2.0), later.2.1))
reading_step bytes (inr none) shorter = ([], bytes, (refl, none))

some_reading : (n : ℕ) (bytes : List ℕ) → length bytes ≤ n → HasReading bytes
some_reading zero bytes le = reading_step bytes (begins_told bytes) (λ behind less. absurd (omega (arith, less, le)))
some_reading (suc n) bytes le = reading_step bytes (begins_told bytes) (λ behind less. some_reading n behind (omega (arith, less, le)))

reads_on : (rs qs : List Request) (bytes middle last : List ℕ) → ReadsRequests bytes rs middle → ReadsRequests middle qs last → ReadsRequests bytes (rs ++ qs) last
reads_on [] qs bytes middle last a b = subst (λ l. ReadsRequests l qs last) (sym a) b
reads_on (r ∷ rs) qs bytes middle last a b = (a.0, a.1, reads_on rs qs a.0 middle last a.2 b)

-- requests that were read are the first of all
pub reading_of : (bytes rest : List ℕ) (rs : List Request) → ReadsRequests bytes rs rest → (more : List Request) × (last : List ℕ) × ReadsAll bytes (rs ++ more) last
reading_of bytes rest rs a =
    let later = some_reading (length rest) rest (omega arith) in
    (later.0, later.1, (reads_on rs later.0 bytes rest later.1 a later.2.0, later.2.1))
