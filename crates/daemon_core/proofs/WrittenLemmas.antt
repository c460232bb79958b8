-- The frames of records, told one after the other, and of payloads, told in pieces.
use Rattle.std.proofs.Common.{◌≡◌, ◌≤◌, ◌<◌, ◌+◌, ◌-◌, ℕ, zero, suc, List, [], ◌∷◌, ◌++◌, refl, sym, ◌∙◌, ap, append_assoc, append-nil, arith, Result, Ok, Err, OnErr, length, map, get_or, take, drop, min, length-append, length-drop}
use Rattle.std.specs.Prelude.{filter}
use Rattle.std.specs.List.{flat_map}
use Rattle.std.proofs.lemmas.Grind.{flat_map-append}
use Rattle.std.proofs.lemmas.List.{map-append, take_min, drop_min, take_more}
use Rattle.std.proofs.lemmas.List.Elements.{filter-append}
use Rattle.engine_text.specs.declared.log.LogRecord.{LogRecord}
use Rattle.engine_text.specs.declared.reply.LogSpec.{LogSpec}
use Rattle.engine_text.specs.declared.script.Stream.{Stream}
use Rattle.stream_frame.specs.Frames.{Part, frame_of, frames_of}
use Rattle.machine_model.specs.Frames.{cut, framed, pieces}
use Rattle.machine_model.proofs.FrameLemmas.{cut_into, cut_is}
use Rattle.machine_model.specs.LogStream.{is_asked_by, part_of}
use Rattle.daemon_core.specs.Framing.{Longer, asked_bytes}

-- ---- two lists of records

frames_append : (ps qs : List Part) → frames_of (ps ++ qs) ≡ frames_of ps ++ frames_of qs
frames_append [] qs = refl
frames_append (p ∷ ps) qs = ap (λ y. frame_of p ++ y) (frames_append ps qs) ∙ sym (append_assoc (frame_of p) (frames_of ps) (frames_of qs))

framed_append : (ps qs : List Part) → framed (ps ++ qs) ≡ framed ps ++ framed qs
framed_append ps qs = ap frames_of (flat_map-append cut ps qs) ∙ frames_append (flat_map cut ps) (flat_map cut qs)

pub asked_append : (spec : LogSpec) (rs us : List LogRecord) → asked_bytes spec (rs ++ us) ≡ asked_bytes spec rs ++ asked_bytes spec us
asked_append spec rs us =
    ap (λ y. framed (map (part_of spec) y)) (filter-append (is_asked_by spec) rs us)
    ∙ ap framed (map-append (part_of spec) (filter (is_asked_by spec) rs) (filter (is_asked_by spec) us))
    ∙ framed_append (map (part_of spec) (filter (is_asked_by spec) rs)) (map (part_of spec) (filter (is_asked_by spec) us))

-- ---- a payload

one_more : (n : ℕ) → 0 < n → pieces n ≡ suc (pieces (n - 32768))
one_more n some = omega (arith, some)

-- its first piece, and what is left
cut_next : (kind : Stream) (bytes : List ℕ) → 0 < length bytes → cut (kind, bytes) ≡ (kind, take 32768 bytes) ∷ cut (kind, drop 32768 bytes)
cut_next kind bytes some =
    cut_is kind bytes
    ∙ ap (λ n. cut_into n (kind, bytes)) (one_more (length bytes) some)
    ∙ ap (λ n. (kind, take 32768 bytes) ∷ cut_into (pieces n) (kind, drop 32768 bytes)) (sym (length-drop 32768 bytes))
    ∙ ap (λ l. (kind, take 32768 bytes) ∷ l) (sym (cut_is kind (drop 32768 bytes)))

pub frames_next : (kind : Stream) (bytes : List ℕ) → 0 < length bytes
    → frames_of (cut (kind, bytes)) ≡ frame_of (kind, take 32768 bytes) ++ frames_of (cut (kind, drop 32768 bytes))
frames_next kind bytes some = ap frames_of (cut_next kind bytes some)

-- of two pieces, of which the first fits
take_on : (front payload : List ℕ) (n : ℕ) → length front ≤ n → take n (front ++ payload) ≡ front ++ take (n - length front) payload
take_on [] payload n le = let e : n ≡ n - 0 = omega arith in ap (λ k. take k payload) e
take_on (x ∷ front) payload zero le = absurd (omega (arith, le))
take_on (x ∷ front) payload (suc n) le =
    let e : n - length front ≡ suc n - length (x ∷ front) = omega arith in
    ap (λ y. x ∷ y) (take_on front payload n (omega (arith, le)) ∙ ap (λ k. front ++ take k payload) e)

drop_on : (front payload : List ℕ) (n : ℕ) → length front ≤ n → drop n (front ++ payload) ≡ drop (n - length front) payload
drop_on [] payload n le = let e : n ≡ n - 0 = omega arith in ap (λ k. drop k payload) e
drop_on (x ∷ front) payload zero le = absurd (omega (arith, le))
drop_on (x ∷ front) payload (suc n) le =
    let e : n - length front ≡ suc n - length (x ∷ front) = omega arith in
    drop_on front payload n (omega (arith, le)) ∙ ap (λ k. drop k payload) e

take_least : (n : ℕ) (bytes : List ℕ) → take (min (length bytes) n) bytes ≡ take n bytes
take_least n bytes = let e : min (length bytes) n ≡ min n (length bytes) = omega arith in ap (λ k. take k bytes) e ∙ take_min n bytes

drop_least : (n : ℕ) (bytes : List ℕ) → drop (min (length bytes) n) bytes ≡ drop n bytes
drop_least n bytes = let e : min (length bytes) n ≡ min n (length bytes) = omega arith in ap (λ k. drop k bytes) e ∙ drop_min n bytes

-- a first piece of two, and what is left
pub frames_split : (kind : Stream) (front payload piece rest : List ℕ) (n : ℕ) → 0 < length front → length front ≤ 32768
    → n ≡ min (length payload) (32768 - length front) → piece ≡ take n payload → rest ≡ drop n payload
    → frames_of (cut (kind, front ++ payload)) ≡ frame_of (kind, front ++ piece) ++ frames_of (cut (kind, rest))
frames_split kind front payload piece rest n some fits at is is' =
    let e = length-append front payload in
    let m : ℕ = 32768 - length front in
    let first : take 32768 (front ++ payload) ≡ front ++ piece =
    take_on front payload 32768 fits ∙ ap (λ y. front ++ y) (sym (is ∙ ap (λ k. take k payload) at ∙ take_least m payload)) in
    let left : drop 32768 (front ++ payload) ≡ rest =
    drop_on front payload 32768 fits ∙ sym (is' ∙ ap (λ k. drop k payload) at ∙ drop_least m payload) in
    frames_next kind (front ++ payload) (omega (arith, e, some))
    ∙ ap (λ y. frame_of (kind, y) ++ frames_of (cut (kind, drop 32768 (front ++ payload)))) first
    ∙ ap (λ y. frame_of (kind, front ++ piece) ++ frames_of (cut (kind, y))) left

-- the next piece is told
pub piece_more : (kind : Stream) (out out' left piece more : List ℕ) (n : ℕ) → 0 < length left → n ≡ min (length left) 32768
    → piece ≡ take n left → more ≡ drop n left → out' ≡ out ++ frame_of (kind, piece)
    → out' ++ frames_of (cut (kind, more)) ≡ out ++ frames_of (cut (kind, left))
piece_more kind out out' left piece more n some at is is' told =
    let rest : List ℕ = frames_of (cut (kind, more)) in
    let first : piece ≡ take 32768 left = is ∙ ap (λ k. take k left) at ∙ take_least 32768 left in
    let behind : more ≡ drop 32768 left = is' ∙ ap (λ k. drop k left) at ∙ drop_least 32768 left in
    ap (λ y. y ++ rest) told ∙ append_assoc out (frame_of (kind, piece)) rest
    ∙ ap (λ y. out ++ y) (ap (λ y. frame_of (kind, y) ++ rest) first
    ∙ ap (λ y. frame_of (kind, take 32768 left) ++ frames_of (cut (kind, y))) behind
    ∙ sym (frames_next kind left some))

-- none is left
pub pieces_end : (kind : Stream) (out left all : List ℕ) → length left ≡ 0 → out ++ frames_of (cut (kind, left)) ≡ all → out ≡ all
pieces_end kind out [] all none told = sym (append-nil out) ∙ told
pieces_end kind out (x ∷ left) all none told = absurd (omega (arith, none))

-- ---- something was appended

pub longer_same : (old : List ℕ) → Longer old old
longer_same old = ([], sym (append-nil old))

pub longer_by : (old new more : List ℕ) → new ≡ old ++ more → Longer old new
longer_by old new more is = (more, is)

pub longer_on : (old mid new : List ℕ) → Longer old mid → Longer mid new → Longer old new
longer_on old mid new (a, is) (b, is') = (a ++ b, is' ∙ ap (λ y. y ++ b) is ∙ append_assoc old a b)

pub on_err : {A B P : Type 0} (r : Result A B) → P → OnErr r P
on_err (Ok x) p = tt
on_err (Err x) p = p

-- what is cut off behind what stood before
pub longer_cut : (old new : List ℕ) → Longer old new → take (length old) new ≡ old
longer_cut old new (more, is) =
    ap (take (length old)) is ∙ take_on old more (length old) (omega arith) ∙ ap (λ n. old ++ take n more) nothing ∙ append-nil old
  where
    nothing : length old - length old ≡ 0
    nothing = omega arith

-- ---- one record more

pub records_more : (spec : LogSpec) (records : List LogRecord) (i : ℕ) (item d : LogRecord) (old out out' : List ℕ) → i < length records
    → item ≡ get_or records i d → out ≡ old ++ asked_bytes spec (take i records) → out' ≡ out ++ asked_bytes spec (item ∷ [])
    → out' ≡ old ++ asked_bytes spec (take (i + 1) records)
records_more spec records i item d old out out' below is told more =
    let last : take (i + 1) records ≡ take i records ++ item ∷ [] =
    take_more records i d below ∙ ap (λ x. take i records ++ x ∷ []) (sym is) in
    more ∙ ap (λ y. y ++ asked_bytes spec (item ∷ [])) told
    ∙ append_assoc old (asked_bytes spec (take i records)) (asked_bytes spec (item ∷ []))
    ∙ ap (λ y. old ++ y) (sym (asked_append spec (take i records) (item ∷ [])) ∙ ap (asked_bytes spec) (sym last))
