-- Pieces tell the requests of their bytes.
use Rattle.std.proofs.Common.{arith, ◌≡◌, ◌≤◌, inl, ℕ, List, [], ◌∷◌, ◌++◌, ◌+◌, ◌-◌, length, take, sym, ap, subst, ◌∙◌, append_assoc, append-nil, length-append, length-take}
use Rattle.std.specs.Prelude.{Bool, None, min}
use Rattle.http_edge.specs.Message.{Request}
use Rattle.http_edge.specs.Refusal.{IsRefused, IsUnfinished}
use Rattle.http_edge.specs.Spelling.{Begins, HasNoRequest, ReadsRequests, ReadsAll}
use Rattle.http_edge.proofs.EndLemmas.{refused_none, unfinished_none}
use Rattle.http_edge.proofs.StreamLemmas.{one_reading, reads_longer}
use Rattle.request_pieces.specs.Standing.{HasTaken}
use Rattle.request_pieces.specs.Begun.{Begun}
use Rattle.request_pieces.specs.Pushing.{IsFresh, PushSays, PushFrom, CanBeTold, request_in}
use Rattle.request_pieces.specs.Laws.{Push, IsPush, ReadsOn, ArePushes, reader_after, taken_by, bytes_of, told_by, requests_of, place_of, EndsBy}
use Rattle.request_pieces.specs.declared.reader.Pushed.{Pushed}
use Rattle.request_pieces.specs.declared.reader.Pushed.TheVariants.{Request as Tells, More, End, Bad, CutShort}
use Rattle.request_pieces.proofs.TakeLemmas.{awaits_none}

-- a push to a reader that hasn't stopped
abbrev Open : Begun → Begun → List ℕ → Bool → Pushed → Type 0
Open old new piece end told = CanBeTold told new.shown piece × PushFrom None old new piece end told

goes : (old new : Begun) (piece : List ℕ) (end : Bool) (told : Pushed) → old.stopped ≡ None → PushSays old new piece end told → Open old new piece end told
goes old new piece end told is says = (says.0, subst (λ o. PushFrom o old new piece end told) is says.1)

-- behind the bytes that it took, the pieces tell requests, and its place is behind these
abbrev pub Reads : ℕ → List ℕ → Begun → List ℕ → List Request → Type 0
Reads start bytes last before rs =
    (last.stopped ≡ None)
    × ((rest : List ℕ) × ReadsRequests (before ++ bytes) rs rest × HasTaken last.intake rest
    × (length rest ≤ length (before ++ bytes)) × (last.taken ≡ min (start + (length (before ++ bytes) - length rest)) 18446744073709551615))

module _ (later : List ℕ) (qs : List Request) (last : Begun) where
  push_reads : (old mid : Begun) (before piece : List ℕ) (end : Bool) (told : Pushed) → Open old mid piece end told → ReadsOn told → HasTaken old.intake before
      → old.taken ≤ 18446744073709551615
      → ((before : List ℕ) → mid.stopped ≡ None → HasTaken mid.intake before → mid.taken ≤ 18446744073709551615 → Reads mid.taken later last before qs)
      → Reads old.taken (taken_by told piece ++ later) last before (told_by told mid ++ qs)
  push_reads old mid before piece end More says reads taken fits on =
      let now = says.1.1 before taken in
      let place = now.2 in
      let x = on (before ++ piece) says.1.0 now.1 (omega (arith, place, fits)) in
      let len : length ((before ++ piece) ++ later) ≡ length (before ++ (piece ++ later)) = ap length (append_assoc before piece later) in (
        x.0,
        (
          x.1.0,
          subst (λ l. ReadsRequests l qs x.1.0) (append_assoc before piece later) x.1.1,
          x.1.2,
          omega (arith, x.1.3, len),
          omega (arith, x.1.4, len, place),
        ),
      )
  push_reads old mid before piece end (Tells n) says reads taken fits on =
      let now = says.1.1 before taken in
      let place = now.2 in
      let most = says.0.1 in
      let x = on [] says.1.0 now.1 (omega (arith, place)) in
      let begins : Begins (before ++ (take n piece ++ later)) (request_in mid) later =
      let b = now.0 in
      (b.0, b.1, sym (append_assoc before (take n piece) later) ∙ ap (λ l. l ++ later) (b.2 ∙ append-nil b.0)) in
      let len : length (before ++ (take n piece ++ later)) ≡ length before + (n + length later) =
      omega (arith, most, length-append before (take n piece ++ later), length-append (take n piece) later, length-take n piece) in
      let less : length x.1.0 ≤ length later = x.1.3 in
      let after : last.taken ≡ min (mid.taken + (length later - length x.1.0)) 18446744073709551615 = x.1.4 in
      (x.0, (x.1.0, (later, begins, x.1.1), x.1.2, omega (arith, less, len), omega (arith, less, after, len, place)))
  push_reads old mid before piece end End says reads taken fits on = absurd reads
  push_reads old mid before piece end (Bad status at) says reads taken fits on = absurd reads
  push_reads old mid before piece end CutShort says reads taken fits on = absurd reads

pub pushes_read : (ps : List Push) (r : Begun) (before : List ℕ) → r.stopped ≡ None → HasTaken r.intake before → r.taken ≤ 18446744073709551615 → ArePushes r ps
    → Reads r.taken (bytes_of ps) (reader_after r ps) before (requests_of ps)
pushes_read [] r before is taken fits all =
    let len : length (before ++ []) ≡ length before = ap length (append-nil before) in
    (is, (before, append-nil before, taken, omega (arith, len), omega (arith, len, fits)))
pushes_read (p ∷ ps) r before is taken fits all =
    push_reads (bytes_of ps) (requests_of ps) (reader_after p.after ps) r p.after before p.piece p.end p.told
    (goes r p.after p.piece p.end p.told is all.0) all.1 taken fits
    (λ now stops holds within. pushes_read ps p.after now stops holds within all.2)

pub pieces_read : (r : Begun) (ps : List Push) → IsFresh r → ArePushes r ps → Reads r.taken (bytes_of ps) (reader_after r ps) [] (requests_of ps)
pieces_read r ps fresh all = pushes_read ps r [] fresh.2 fresh.0 (omega (arith, fresh.1)) all

pub pieces_next : (r : Begun) (ps : List Push) (qs : List Request) (rest : List ℕ) → IsFresh r → ArePushes r ps → ReadsAll (bytes_of ps) qs rest
    → (requests_of ps ≡ qs) × HasTaken (reader_after r ps).intake rest
pieces_next r ps qs rest fresh all reads =
    let x = pieces_read r ps fresh all in
    let t = x.1.2 in
    let same = one_reading (requests_of ps) qs (bytes_of ps) x.1.0 rest (x.1.1, awaits_none x.1.0 t.awaits) reads in
    (same.0, subst (HasTaken (reader_after r ps).intake) same.1 x.1.2)

-- the last piece
module _ (last new : Begun) (bytes rest piece tail : List ℕ) (rs qs : List Request) (end : Bool) (reads : ReadsRequests bytes rs rest) (taken : HasTaken last.intake rest)
    (place : last.taken ≡ place_of bytes rest) (all : ReadsAll (bytes ++ piece) qs tail) where
  same : HasNoRequest (rest ++ piece) → (rs ≡ qs) × (rest ++ piece ≡ tail)
  same lacks = one_reading rs qs (bytes ++ piece) (rest ++ piece) tail (reads_longer rs bytes rest piece reads, lacks) all

  ends : (told : Pushed) → Open last new piece end told → EndsBy told rs (bytes ++ piece) qs tail
  ends End says =
      let t = says.1.1 rest taken in
      let s = same (awaits_none (rest ++ piece) (inl t.1)) in
      (s.0, sym s.1 ∙ t.1)
  ends (Bad status at) says =
      let t = says.1.1 rest taken in
      let s = same (refused_none (rest ++ piece) status t.0) in
      let len : length rest + length piece ≡ length tail = omega (arith, length-append rest piece, ap length s.1) in (
        s.0,
        subst (λ l. IsRefused l status) s.1 t.0,
        omega (arith, t.1, place, len, length-append bytes piece),
      )
  ends CutShort says =
      let t = says.1.1 rest taken in
      let s = same (unfinished_none (rest ++ piece) t.1) in
      (s.0, subst IsUnfinished s.1 t.1)
  ends More says = tt
  ends (Tells n) says = tt

pub pieces_end : (r : Begun) (ps : List Push) (p : Push) (qs : List Request) (rest : List ℕ) → IsFresh r → ArePushes r ps → IsPush (reader_after r ps) p
    → ReadsAll (bytes_of ps ++ p.piece) qs rest → EndsBy p.told (requests_of ps) (bytes_of ps ++ p.piece) qs rest
pieces_end r ps p qs rest fresh all push reads =
    let x = pieces_read r ps fresh all in
    let place : (reader_after r ps).taken ≡ place_of (bytes_of ps) x.1.0 = omega (arith, x.1.4, fresh.1) in
    ends (reader_after r ps) p.after (bytes_of ps) x.1.0 p.piece rest (requests_of ps) qs p.end x.1.1 x.1.2 place reads p.told
    (goes (reader_after r ps) p.after p.piece p.end p.told x.0 push)
