-- A payload is cut into its pieces one after the other.
use Rattle.std.proofs.Common.{◌≡◌, ℕ, zero, suc, ◌+◌, ◌*◌, List, [], ◌∷◌, map, take, drop, length, refl, ap, ◌∙◌, sym, arith}
use Rattle.std.proofs.lemmas.List.{drop-drop}
use Rattle.std.specs.List.{range_with_len}
use Rattle.engine_text.specs.declared.script.Stream.{Stream}
use Rattle.stream_frame.specs.Frames.{Part}
use Rattle.machine_model.specs.declared.limits.TheConstants.{FRAME_BYTES}
use Rattle.machine_model.specs.Frames.{cut, piece, pieces}

-- so many pieces, from the first on
abbrev pub cut_into : ℕ → Part → List Part
cut_into zero part = []
cut_into (suc k) part = (part.0, take FRAME_BYTES part.1) ∷ cut_into k (part.0, drop FRAME_BYTES part.1)

-- a piece is the one before it of what is left behind the first
piece_behind : (bytes : List ℕ) (i : ℕ) → piece bytes (i + 1) ≡ piece (drop FRAME_BYTES bytes) i
piece_behind bytes i =
    let at : (i + 1) * FRAME_BYTES ≡ FRAME_BYTES + i * FRAME_BYTES = omega arith in
    ap (λ n. take FRAME_BYTES (drop n bytes)) at ∙ sym (ap (take FRAME_BYTES) (drop-drop (i * FRAME_BYTES) FRAME_BYTES bytes))

-- the piece as a part
abbrev numbered : Stream → List ℕ → ℕ → Part
numbered kind bytes i = (kind, piece bytes i)

behind_first : (k a : ℕ) (kind : Stream) (bytes : List ℕ)
    → map (numbered kind bytes) (range_with_len (a + 1) k) ≡ map (numbered kind (drop FRAME_BYTES bytes)) (range_with_len a k)
behind_first zero a kind bytes = refl
behind_first (suc k) a kind bytes =
    ap (λ y. (kind, y) ∷ map (numbered kind bytes) (range_with_len (a + 1 + 1) k)) (piece_behind bytes a)
    ∙ ap (λ l. numbered kind (drop FRAME_BYTES bytes) a ∷ l) (behind_first k (a + 1) kind bytes)

in_turn : (k : ℕ) (kind : Stream) (bytes : List ℕ) → map (numbered kind bytes) (range_with_len 0 k) ≡ cut_into k (kind, bytes)
in_turn zero kind bytes = refl
in_turn (suc k) kind bytes =
    ap (λ l. numbered kind bytes 0 ∷ l) (behind_first k 0 kind bytes ∙ in_turn k kind (drop FRAME_BYTES bytes))

pub cut_is : (kind : Stream) (bytes : List ℕ) → cut (kind, bytes) ≡ cut_into (pieces (length bytes)) (kind, bytes)
cut_is kind bytes = in_turn (pieces (length bytes)) kind bytes
