-- What holds of every list of pieces (RFC 9112, section 9.3: requests follow one another, however they are cut).
use Rattle.std.specs.Prelude.{ℕ, ◌≡◌, ◌-◌, Bool, List, [], ◌∷◌, ◌++◌, length, take}
use Rattle.std.specs.List.{flat_map}
use Rattle.http_edge.specs.Message.{Request}
use Rattle.http_edge.specs.Reader.{place_after}
use Rattle.http_edge.specs.Spelling.{ReadsRequests, ReadsAll}
use Rattle.http_edge.specs.Refusal.{IsRefused, IsUnfinished}
use Rattle.request_pieces.specs.Standing.{HasTaken}
use Rattle.request_pieces.specs.Begun.{Begun}
use Rattle.request_pieces.specs.Pushing.{IsFresh, PushSays, request_in}
use Rattle.request_pieces.specs.declared.reader.Pushed.{Pushed}
use Rattle.request_pieces.specs.declared.reader.Pushed.TheVariants.{Request as Tells, More, End, Bad, CutShort}

-- a piece that was pushed, whether it was told to be the last, what it told, and the reader behind it
pub record Push : Type 0 where
  pub piece : List ℕ
  pub end : Bool
  pub told : Pushed
  pub after : Begun

abbrev pub IsPush : Begun → Push → Type 0
IsPush r p = PushSays r p.after p.piece p.end p.told

-- behind it more may be pushed
abbrev pub ReadsOn : Pushed → Type 0
ReadsOn More = Unit {0}
ReadsOn (Tells n) = Unit {0}
ReadsOn told = ⊥

-- pieces were pushed one after another
abbrev pub ArePushes : Begun → List Push → Type 0
ArePushes r [] = Unit {0}
ArePushes r (p ∷ ps) = IsPush r p × ReadsOn p.told × ArePushes p.after ps

abbrev pub reader_after : Begun → List Push → Begun
reader_after r [] = r
reader_after r (p ∷ ps) = reader_after p.after ps

-- the bytes that they took
abbrev pub taken_by : Pushed → List ℕ → List ℕ
taken_by (Tells n) piece = take n piece
taken_by told piece = piece

abbrev pub bytes_of : List Push → List ℕ
bytes_of ps = flat_map (λ p. taken_by p.told p.piece) ps

-- the requests that they told
abbrev pub told_by : Pushed → Begun → List Request
told_by (Tells n) r = request_in r ∷ []
told_by told r = []

abbrev pub requests_of : List Push → List Request
requests_of ps = flat_map (λ p. told_by p.told p.after) ps

-- the requests that were told are those of the bytes, and behind them stand those that the reader has taken since
abbrev pub PiecesTellRequests : Type 0
PiecesTellRequests =
    (r : Begun) (ps : List Push) → IsFresh r → ArePushes r ps
    → (rest : List ℕ) × ReadsRequests (bytes_of ps) (requests_of ps) rest × HasTaken (reader_after r ps).intake rest

-- however the bytes are read, these are all their requests, and this is the rest
abbrev pub PiecesAreNext : Type 0
PiecesAreNext =
    (r : Begun) (ps : List Push) (qs : List Request) (rest : List ℕ) → IsFresh r → ArePushes r ps → ReadsAll (bytes_of ps) qs rest
    → (requests_of ps ≡ qs) × HasTaken (reader_after r ps).intake rest

-- the place in the bytes where their rest begins
abbrev pub place_of : List ℕ → List ℕ → ℕ
place_of bytes rest = place_after 0 (length bytes - length rest)

-- what a last piece tells is what the rest of all the bytes is, behind the requests that were told
abbrev pub EndsBy : Pushed → List Request → List ℕ → List Request → List ℕ → Type 0
EndsBy End rs bytes qs rest = (rs ≡ qs) × (rest ≡ [])
EndsBy (Bad status at) rs bytes qs rest = (rs ≡ qs) × IsRefused rest status × (at ≡ place_of bytes rest)
EndsBy CutShort rs bytes qs rest = (rs ≡ qs) × IsUnfinished rest
EndsBy told rs bytes qs rest = Unit {0}

-- however the bytes are read
abbrev pub PiecesEnd : Type 0
PiecesEnd =
    (r : Begun) (ps : List Push) (p : Push) (qs : List Request) (rest : List ℕ) → IsFresh r → ArePushes r ps → IsPush (reader_after r ps) p
    → ReadsAll (bytes_of ps ++ p.piece) qs rest → EndsBy p.told (requests_of ps) (bytes_of ps ++ p.piece) qs rest
