-- Frames that a daemon writes of records are shown by the client as what the records carry.
use Rattle.std.proofs.Common.{arith, ◌≡◌, ◌+◌, ◌-◌, ◌*◌, ◌<◌, ◌≤◌, ◌^◌, inr, ℕ, zero, suc, List, [], ◌∷◌, ◌++◌, length, map, take, drop, true, refl, sym, subst, ap, ◌∙◌, append_assoc, take-append-drop, if◌then◌else◌}
use Rattle.std.specs.Prelude.{nat_le, filter, Ok}
use Rattle.std.specs.List.{flat_map}
use Rattle.std.proofs.lemmas.Bool.Decides.{nat_tests}
use Rattle.std.proofs.lemmas.List.{length-take, length-drop, map-append}
use Rattle.std.proofs.lemmas.Nat.{from_be_bytes-to_be_bytes_4}
use Rattle.engine_text.specs.declared.script.Stream.{Stream}
use Rattle.engine_text.specs.declared.script.Stream.TheVariants.{Stdin, Stdout, Stderr}
use Rattle.stream_frame.specs.Frames.{Part, stream_byte, header_of, frame_of, frames_of, AreParts, tagged, same_stream, payload_of}
use Rattle.stream_frame.specs.Demuxing.{Header, Payload, Held, Item}
use Rattle.stream_frame.specs.Steps.{counted, behind_header, by_payload, held_after, items_of}
use Rattle.stream_frame.proofs.AddLemmas.{parts_append, tagged_append}
use Rattle.stream_frame.proofs.ChunkLemmas.{held_chunk, items_chunk}
use Rattle.machine_model.specs.Frames.{cut, framed, pieces}
use Rattle.machine_model.proofs.FrameLemmas.{cut_into, cut_is}
use Rattle.client_model.specs.Plans.{Written}
use Rattle.client_model.specs.Streams.{parts_of, payloads_of, is_border, ends_frames}

-- ---- one frame

-- between two frames
abbrev border : ℕ → Held
border at = record { rest = Header []; at = at }

abbrev lacking : Stream → ℕ → ℕ → Held
lacking kind missing at = record { rest = Payload kind missing; at = at }

abbrev eight : ℕ → ℕ
eight at = counted 1 (counted 1 (counted 1 (counted 1 (counted 1 (counted 1 (counted 1 (counted 1 at)))))))

-- behind a header
abbrev opened : Stream → ℕ → ℕ → Held
opened kind zero at = border (eight at)
opened kind (suc size) at = lacking kind (suc size) (eight at)

opened_is : (kind : Stream) (size at : ℕ) → record { rest = behind_header (stream_byte kind) size; at = eight at } ≡ opened kind size at
opened_is Stdin zero at = refl
opened_is Stdin (suc size) at = refl
opened_is Stdout zero at = refl
opened_is Stdout (suc size) at = refl
opened_is Stderr zero at = refl
opened_is Stderr (suc size) at = refl

abbrev behind : ℕ → ℕ → ℕ → Held
behind kind size at = record { rest = behind_header kind size; at = eight at }

header_items : (kind : Stream) (size at : ℕ) (rest : List ℕ) → size < 2 ^ 32
    → items_of (border at) (header_of kind size ++ rest) ≡ items_of (behind (stream_byte kind) size at) rest
header_items Stdin size at rest fits = ap (λ m. items_of (behind 0 m at) rest) (from_be_bytes-to_be_bytes_4 size fits)
header_items Stdout size at rest fits = ap (λ m. items_of (behind 1 m at) rest) (from_be_bytes-to_be_bytes_4 size fits)
header_items Stderr size at rest fits = ap (λ m. items_of (behind 2 m at) rest) (from_be_bytes-to_be_bytes_4 size fits)

header_held : (kind : Stream) (size at : ℕ) (rest : List ℕ) → size < 2 ^ 32
    → held_after (border at) (header_of kind size ++ rest) ≡ held_after (behind (stream_byte kind) size at) rest
header_held Stdin size at rest fits = ap (λ m. held_after (behind 0 m at) rest) (from_be_bytes-to_be_bytes_4 size fits)
header_held Stdout size at rest fits = ap (λ m. held_after (behind 1 m at) rest) (from_be_bytes-to_be_bytes_4 size fits)
header_held Stderr size at rest fits = ap (λ m. held_after (behind 2 m at) rest) (from_be_bytes-to_be_bytes_4 size fits)

-- a payload, as an item, where it has bytes
abbrev full : Stream → List ℕ → List Part
full kind [] = []
full kind (b ∷ bs) = (kind, b ∷ bs) ∷ []

abbrev past : List ℕ → ℕ → ℕ
past [] at = eight at
past (b ∷ bs) at = counted (suc (length bs)) (eight at)

whole_payload : (kind : Stream) (size at : ℕ) → by_payload kind size size at ≡ border (counted size at)
whole_payload kind size at =
    let all : nat_le size size ≡ true = grind (arith, nat_tests) in
    ap (λ t. record { rest = if t then Header [] else Payload kind (size - size); at = counted size at }) all

payload_items : (kind : Stream) (payload : List ℕ) (at : ℕ) (rest : List ℕ)
    → items_of (opened kind (length payload) at) (payload ++ rest) ≡ map Ok (full kind payload) ++ items_of (border (past payload at)) rest
payload_items kind [] at rest = refl
payload_items kind (b ∷ bs) at rest =
    items_chunk kind (suc (length bs)) (eight at) b bs rest (omega arith) (inr refl)
    ∙ ap (λ h. Ok (kind, b ∷ bs) ∷ items_of h rest) (whole_payload kind (suc (length bs)) (eight at))

payload_held : (kind : Stream) (payload : List ℕ) (at : ℕ) (rest : List ℕ)
    → held_after (opened kind (length payload) at) (payload ++ rest) ≡ held_after (border (past payload at)) rest
payload_held kind [] at rest = refl
payload_held kind (b ∷ bs) at rest =
    held_chunk kind (suc (length bs)) (eight at) b bs rest (omega arith)
    ∙ ap (λ h. held_after h rest) (whole_payload kind (suc (length bs)) (eight at))

frame_front : (p : Part) (rest : List ℕ) → frame_of p ++ rest ≡ header_of p.0 (length p.1) ++ (p.1 ++ rest)
frame_front p rest = append_assoc (header_of p.0 (length p.1)) p.1 rest

frame_items : (p : Part) (at : ℕ) (rest : List ℕ) → length p.1 < 2 ^ 32
    → items_of (border at) (frame_of p ++ rest) ≡ map Ok (full p.0 p.1) ++ items_of (border (past p.1 at)) rest
frame_items p at rest fits =
    ap (items_of (border at)) (frame_front p rest)
    ∙ (header_items p.0 (length p.1) at (p.1 ++ rest) fits
    ∙ (ap (λ h. items_of h (p.1 ++ rest)) (opened_is p.0 (length p.1) at) ∙ payload_items p.0 p.1 at rest))

frame_held : (p : Part) (at : ℕ) (rest : List ℕ) → length p.1 < 2 ^ 32
    → held_after (border at) (frame_of p ++ rest) ≡ held_after (border (past p.1 at)) rest
frame_held p at rest fits =
    ap (held_after (border at)) (frame_front p rest)
    ∙ (header_held p.0 (length p.1) at (p.1 ++ rest) fits
    ∙ (ap (λ h. held_after h (p.1 ++ rest)) (opened_is p.0 (length p.1) at) ∙ payload_held p.0 p.1 at rest))

-- ---- a stream of frames

abbrev fulls : List Part → List Part
fulls [] = []
fulls (p ∷ ps) = full p.0 p.1 ++ fulls ps

ok_append : (xs ys : List Part) → map {B = Item} Ok xs ++ map Ok ys ≡ map Ok (xs ++ ys)
ok_append [] ys = refl
ok_append (x ∷ xs) ys = ap (λ l. Ok x ∷ l) (ok_append xs ys)

stream_items : (ps : List Part) (at : ℕ) → AreParts ps → items_of (border at) (frames_of ps) ≡ map Ok (fulls ps)
stream_items [] at are = refl
stream_items (p ∷ ps) at are =
    frame_items p at (frames_of ps) are.0
    ∙ (ap (λ l. map Ok (full p.0 p.1) ++ l) (stream_items ps (past p.1 at) are.1) ∙ ok_append (full p.0 p.1) (fulls ps))

stream_held : (ps : List Part) (at : ℕ) → AreParts ps → (end : ℕ) × (held_after (border at) (frames_of ps) ≡ border end)
stream_held [] at are = (at, refl)
stream_held (p ∷ ps) at are =
    let more = stream_held ps (past p.1 at) are.1 in (more.0, frame_held p at (frames_of ps) are.0 ∙ more.1)

parts_again : (ps : List Part) → parts_of (map Ok ps) ≡ ps
parts_again [] = refl
parts_again (p ∷ ps) = ap (λ l. p ∷ l) (parts_again ps)

full_tags : (kind : Stream) (payload : List ℕ) (ps qs : List Part) → tagged ps ≡ tagged qs → tagged (full kind payload ++ ps) ≡ tagged ((kind, payload) ∷ qs)
full_tags kind [] ps qs same = same
full_tags kind (b ∷ bs) ps qs same = ap (λ l. map (λ byte. (kind, byte)) (b ∷ bs) ++ l) same

tags_are : (ps : List Part) → tagged (fulls ps) ≡ tagged ps
tags_are [] = refl
tags_are (p ∷ ps) = full_tags p.0 p.1 (fulls ps) ps (tags_are ps)

-- what parts carry for the two outputs
abbrev pub carried : List Part → Written
carried ps = record { out = payload_of Stdout ps; err = payload_of Stderr ps }

abbrev by_tags : List (Stream × ℕ) → Written
by_tags tags = record {
  out = map (λ tag. tag.1) (filter (λ tag. same_stream Stdout tag.0) tags);
  err = map (λ tag. tag.1) (filter (λ tag. same_stream Stderr tag.0) tags);
}

frames_shown : (ps : List Part) → AreParts ps → payloads_of (frames_of ps) ≡ carried ps
frames_shown ps are = ap by_tags (ap tagged (ap parts_of (stream_items ps 0 are) ∙ parts_again (fulls ps)) ∙ tags_are ps)

frames_end : (ps : List Part) → AreParts ps → ends_frames (frames_of ps) ≡ true
frames_end ps are = ap (λ (h : Held). is_border h.rest) (stream_held ps 0 are).1

-- ---- payloads that are cut into frames

cut_parts : (k : ℕ) (p : Part) → AreParts (cut_into k p)
cut_parts zero p = tt
cut_parts (suc k) p = (omega (arith, length-take 32768 p.1), cut_parts k (p.0, drop 32768 p.1))

-- a byte of a stream
abbrev tag : Stream → ℕ → Stream × ℕ
tag kind byte = (kind, byte)

cut_tags : (k : ℕ) (p : Part) → length p.1 ≤ k * 32768 → tagged (cut_into k p) ≡ map (tag p.0) p.1
cut_tags zero p fits = none p.1 (omega (arith, fits))
  where
    none : (bytes : List ℕ) → length bytes ≤ 0 → [] ≡ map (tag p.0) bytes
    none [] le = refl
    none (b ∷ bs) le = absurd (omega (arith, le))
cut_tags (suc k) p fits =
    ap (λ l. map (tag p.0) (take 32768 p.1) ++ l) (cut_tags k (p.0, drop 32768 p.1) (omega (arith, length-drop 32768 p.1, fits)))
    ∙ (sym (map-append (tag p.0) (take 32768 p.1) (drop 32768 p.1)) ∙ ap (map (tag p.0)) (take-append-drop 32768 p.1))

all_parts : (ps : List Part) → AreParts (flat_map cut ps)
all_parts [] = tt
all_parts (p ∷ ps) =
    parts_append (cut p) (flat_map cut ps) (subst AreParts (sym (cut_is p.0 p.1)) (cut_parts (pieces (length p.1)) p)) (all_parts ps)

all_tags : (ps : List Part) → tagged (flat_map cut ps) ≡ tagged ps
all_tags [] = refl
all_tags (p ∷ ps) =
    tagged_append (cut p) (flat_map cut ps)
    ∙ (ap (λ l. l ++ tagged (flat_map cut ps)) (ap tagged (cut_is p.0 p.1) ∙ cut_tags (pieces (length p.1)) p (omega arith))
    ∙ ap (λ l. map (tag p.0) p.1 ++ l) (all_tags ps))

-- the frames of these parts, cut, are shown as what they carry, and may end there
pub framed_shown : (ps : List Part) → payloads_of (framed ps) ≡ carried ps
framed_shown ps = frames_shown (flat_map cut ps) (all_parts ps) ∙ ap by_tags (all_tags ps)

pub framed_end : (ps : List Part) → ends_frames (framed ps) ≡ true
framed_end ps = frames_end (flat_map cut ps) (all_parts ps)
