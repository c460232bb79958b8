-- A header that grows by one byte.
use Rattle.std.proofs.Common.{◌≡◌, ℕ, zero, suc, ◌≤◌, ◌<◌, ◌^◌, List, [], ◌∷◌, ◌++◌, length, drop, refl, sym, arith}
use Rattle.std.specs.Prelude.{slice_index, get_or}
use Rattle.std.specs.Int.{w32, to_be_bytes, from_be_bytes}
use Rattle.std.proofs.lemmas.Nat.{be_bytes_4}
use Rattle.stream_frame.specs.Frames.{stream_byte, header_of}
use Rattle.stream_frame.specs.Demuxing.{AreBytes, ArePads, IsHeaderPart}
use Rattle.stream_frame.specs.Steps.{stream_of}

-- ---- a header

bytes_more : (xs : List ℕ) (b : ℕ) → AreBytes xs → b < 256 → AreBytes (xs ++ b ∷ [])
bytes_more [] b a lt = (lt, tt)
bytes_more (x ∷ xs) b a lt = (a.0, bytes_more xs b a.1 lt)

pad_more : (n : ℕ) (xs : List ℕ) → ArePads n xs → length xs < n → ArePads n (xs ++ 0 ∷ [])
pad_more zero xs a lt = absurd (omega arith)
pad_more (suc n) [] a lt = (refl, none n)
  where
    none : (m : ℕ) → ArePads m []
    none zero = tt
    none (suc m) = tt
pad_more (suc n) (x ∷ xs) a lt = (a.0, pad_more n xs a.1 (omega arith))

size_more : (n : ℕ) (xs : List ℕ) (b : ℕ) → ArePads n xs → n ≤ length xs → b < 256 → ArePads n (xs ++ b ∷ [])
size_more zero xs b a le lt = bytes_more xs b a lt
size_more (suc n) [] b a le lt = absurd (omega arith)
size_more (suc n) (x ∷ xs) b a le lt = (a.0, size_more n xs b a.1 (omega arith) lt)

pub begins_pad : (part : List ℕ) → IsHeaderPart part → 0 < length part → length part < 4 → IsHeaderPart (part ++ 0 ∷ [])
begins_pad [] a some lt = absurd (omega arith)
begins_pad (k ∷ xs) a some lt = (a.0, pad_more 3 xs a.1 (omega arith))

pub begins_size : (part : List ℕ) (b : ℕ) → IsHeaderPart part → 4 ≤ length part → b < 256 → IsHeaderPart (part ++ b ∷ [])
begins_size [] b a le lt = absurd (omega arith)
begins_size (k ∷ xs) b a le lt = (a.0, size_more 3 xs b a.1 (omega arith) lt)

stream_byte_of : (k : ℕ) → k ≤ 2 → stream_byte (stream_of k) ≡ k
stream_byte_of zero le = refl
stream_byte_of (suc zero) le = refl
stream_byte_of (suc (suc zero)) le = refl
stream_byte_of (suc (suc (suc k))) le = absurd (omega arith)

-- four bytes are those of their number
four : (a b c d : ℕ) → a < 256 → b < 256 → c < 256 → d < 256 → to_be_bytes w32 (from_be_bytes w32 (a ∷ b ∷ c ∷ d ∷ [])) ≡ a ∷ b ∷ c ∷ d ∷ []
four a b c d la lb lc ld = be_bytes_4 (a ∷ b ∷ c ∷ d ∷ []) (from_be_bytes w32 (a ∷ b ∷ c ∷ d ∷ [])) refl each refl
  where
    each : (i : ℕ) → get_or (a ∷ b ∷ c ∷ d ∷ []) i 0 < 256
    each zero = la
    each (suc zero) = lb
    each (suc (suc zero)) = lc
    each (suc (suc (suc zero))) = ld
    each (suc (suc (suc (suc i)))) = omega arith

size_fits : (a b c d : ℕ) → a < 256 → b < 256 → c < 256 → d < 256 → from_be_bytes w32 (a ∷ b ∷ c ∷ d ∷ []) < 2 ^ 32
size_fits a b c d la lb lc ld = omega arith

-- a whole header
pub record Whole (part : List ℕ) (b : ℕ) : Type 0 where
  pub size : ℕ
  pub size_is : from_be_bytes w32 (drop 4 (part ++ b ∷ [])) ≡ size
  pub fits : size < 2 ^ 32
  pub header : part ++ b ∷ [] ≡ header_of (stream_of (slice_index part 0)) size

pub whole : (part : List ℕ) (b : ℕ) → IsHeaderPart part → length part ≡ 7 → b < 256 → Whole part b
whole [] b a l lt = absurd (omega arith)
whole (k ∷ []) b a l lt = absurd (omega arith)
whole (k ∷ p ∷ []) b a l lt = absurd (omega arith)
whole (k ∷ p ∷ q ∷ []) b a l lt = absurd (omega arith)
whole (k ∷ p ∷ q ∷ r ∷ []) b a l lt = absurd (omega arith)
whole (k ∷ p ∷ q ∷ r ∷ x ∷ []) b a l lt = absurd (omega arith)
whole (k ∷ p ∷ q ∷ r ∷ x ∷ y ∷ []) b a l lt = absurd (omega arith)
whole (k ∷ p ∷ q ∷ r ∷ x ∷ y ∷ z ∷ []) b a l lt =
    let lx = a.1.1.1.1.0 in let ly = a.1.1.1.1.1.0 in let lz = a.1.1.1.1.1.1.0 in
    record {
      size = from_be_bytes w32 (x ∷ y ∷ z ∷ b ∷ []);
      size_is = refl;
      fits = size_fits x y z b lx ly lz lt;
      header = λ i. sym (stream_byte_of k a.0) i ∷ a.1.0 i ∷ a.1.1.0 i ∷ a.1.1.1.0 i ∷ sym (four x y z b lx ly lz lt) i;
    }
whole (k ∷ p ∷ q ∷ r ∷ x ∷ y ∷ z ∷ w ∷ more) b a l lt = absurd (omega arith)
