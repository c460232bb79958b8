-- The laws of streams of frames.
use Rattle.std.proofs.Common.{◌≡◌, ℕ, zero, suc, ◌+◌, ◌-◌, ◌≤◌, ◌<◌, ◌^◌, List, [], ◌∷◌, ◌++◌, length, replicate, refl, sym, ap, ◌∙◌, subst, arith, append-nil, append_assoc, length-append}
use Rattle.std.specs.Prelude.{nat_le, Bool, true, false}
use Rattle.std.proofs.lemmas.Bool.Decides.{nat_tests}
use Rattle.std.specs.Int.{w32, to_be_bytes, from_be_bytes}
use Rattle.std.proofs.lemmas.List.{length-replicate}
use Rattle.std.proofs.lemmas.Nat.{from_be_bytes-to_be_bytes_4}
use Rattle.engine_text.specs.declared.script.Stream.{Stream}
use Rattle.engine_text.specs.declared.script.Stream.TheVariants.{Stdin, Stdout, Stderr}
use Rattle.stream_frame.specs.declared.fault.FrameFault.{FrameFault}
use Rattle.stream_frame.specs.declared.fault.FrameFault.TheVariants.{BadType, BadPad}
use Rattle.stream_frame.specs.Frames.{Part, stream_byte, header_of, frame_of, frames_of, AreParts, tagged, IsFront}
use Rattle.stream_frame.specs.Demuxing.{Header, Payload, Faulted, IsHeaderPart, IsWrong, place_behind, EndsInHeader, EndsInPayload}
use Rattle.stream_frame.specs.Steps.{stream_of}
use Rattle.stream_frame.specs.Laws.{OneReading, GoesOn, FirstWrong, GivesBack}
use Rattle.stream_frame.proofs.AddLemmas.{parts_append, frame_more}
use Rattle.stream_frame.proofs.HeaderLemmas.{begins_pad, begins_size, whole}

cons_same : {A : Type 0} {x y : A} {xs ys : List A} → x ∷ xs ≡ y ∷ ys → (x ≡ y) × (xs ≡ ys)
cons_same e = (cc, cc)

-- two fronts of one list that are as long
same_front : (a b x y : List ℕ) → length a ≡ length b → a ++ x ≡ b ++ y → (a ≡ b) × (x ≡ y)
same_front [] [] x y l e = (refl, e)
same_front [] (q ∷ b) x y l e = absurd (omega arith)
same_front (p ∷ a) [] x y l e = absurd (omega arith)
same_front (p ∷ a) (q ∷ b) x y l e = let t = same_front a b x y (omega arith) (cons_same e).1 in (λ i. (cons_same e).0 i ∷ t.0 i, t.1)

stream_is : (a b : Stream) → stream_byte a ≡ stream_byte b → a ≡ b
stream_is Stdin Stdin e = refl
stream_is Stdin Stdout e = absurd (omega arith)
stream_is Stdin Stderr e = absurd (omega arith)
stream_is Stdout Stdin e = absurd (omega arith)
stream_is Stdout Stdout e = refl
stream_is Stdout Stderr e = absurd (omega arith)
stream_is Stderr Stdin e = absurd (omega arith)
stream_is Stderr Stdout e = absurd (omega arith)
stream_is Stderr Stderr e = refl

low_byte : (k : Stream) → stream_byte k ≤ 2
low_byte Stdin = omega arith
low_byte Stdout = omega arith
low_byte Stderr = omega arith

-- one header begins both
same_header : (k j : Stream) (m n : ℕ) (x y : List ℕ) → m < 2 ^ 32 → n < 2 ^ 32 → header_of k m ++ x ≡ header_of j n ++ y → (k ≡ j) × (m ≡ n) × (x ≡ y)
same_header k j m n x y lm ln e =
    let t = same_front (header_of k m) (header_of j n) x y refl e in
    let c = cons_same t.0 in
    let sizes : to_be_bytes w32 m ≡ to_be_bytes w32 n = (cons_same (cons_same (cons_same c.1).1).1).1 in
    (stream_is k j c.0, sym (from_be_bytes-to_be_bytes_4 m lm) ∙ (ap (from_be_bytes w32) sizes ∙ from_be_bytes-to_be_bytes_4 n ln), t.1)

frame_front : (p : Part) (x : List ℕ) → frame_of p ++ x ≡ header_of p.0 (length p.1) ++ (p.1 ++ x)
frame_front p x = append_assoc (header_of p.0 (length p.1)) p.1 x

-- the parts that begin a stream begin its parts
pub front_parts : (ps qs : List Part) (tail : List ℕ) → AreParts ps → AreParts qs → frames_of ps ++ tail ≡ frames_of qs
    → (rs : List Part) × AreParts rs × (qs ≡ ps ++ rs) × (tail ≡ frames_of rs)
front_parts [] qs tail a b e = (qs, b, refl, e)
front_parts (p ∷ ps) [] tail a b e = absurd (cc)
front_parts (p ∷ ps) (q ∷ qs) tail a b e =
    let e' : header_of p.0 (length p.1) ++ (p.1 ++ (frames_of ps ++ tail)) ≡ header_of q.0 (length q.1) ++ (q.1 ++ frames_of qs)
    = sym (append_assoc (frame_of p) (frames_of ps) tail ∙ frame_front p (frames_of ps ++ tail)) ∙ (e ∙ frame_front q (frames_of qs)) in
    let h = same_header p.0 q.0 (length p.1) (length q.1) _ _ a.0 b.0 e' in
    let f = same_front p.1 q.1 _ _ h.1 h.2 in
    let t = front_parts ps qs tail a.1 b.1 f.1 in
    (t.0, t.1, λ i. (sym h.0 i, sym f.0 i) ∷ t.2 i, t.3)

no_frames : (rs : List Part) → [] ≡ frames_of rs → rs ≡ []
no_frames [] e = refl
no_frames (r ∷ rs) e = absurd (cc)

pub one_reading : OneReading
one_reading ps qs a b e =
    let t = front_parts ps qs [] a b (append-nil (frames_of ps) ∙ e) in
    sym (t.2 ∙ (ap (λ l. ps ++ l) (no_frames t.0 t.3) ∙ append-nil ps))

-- ---- what is taken without a fault goes on

-- the header that a part of one goes on to
fill : (n k : ℕ) (xs : List ℕ) → length (k ∷ xs) + n ≡ 7 → IsHeaderPart (k ∷ xs) → (more : List ℕ) × (size : ℕ) × (size < 2 ^ 32) × ((k ∷ xs) ++ more ≡ header_of (stream_of k) size)
fill zero k xs l a = let w = whole (k ∷ xs) 0 a (omega arith) (omega arith) in (0 ∷ [], w.size, w.fits, w.header)
fill (suc n) k xs l a =
    let longer : IsHeaderPart (k ∷ xs ++ 0 ∷ []) = one_more (nat_le (length (k ∷ xs)) 3) refl in
    let size : length (k ∷ xs ++ 0 ∷ []) ≡ length (k ∷ xs) + 1 = length-append (k ∷ xs) (0 ∷ []) in
    let t = fill n k (xs ++ 0 ∷ []) (omega arith) longer in
    (0 ∷ t.0, t.1, t.2, sym (append_assoc (k ∷ xs) (0 ∷ []) t.0) ∙ t.3)
  where
    one_more : (t : Bool) → nat_le (length (k ∷ xs)) 3 ≡ t → IsHeaderPart (k ∷ xs ++ 0 ∷ [])
    one_more true is = let le : length (k ∷ xs) ≤ 3 = grind (arith, nat_tests) in begins_pad (k ∷ xs) a (omega arith) (omega arith)
    one_more false is = let lt : 3 < length (k ∷ xs) = grind (arith, nat_tests) in begins_size (k ∷ xs) 0 a (omega arith) (omega arith)

header_front : (stream : List ℕ) (given : List (Stream × ℕ)) (part : List ℕ) → EndsInHeader stream given part → IsFront stream
header_front stream given part e = by_part part e.stream_is e.short e.begins
  where
    by_part : (xs : List ℕ) → stream ≡ frames_of e.parts ++ xs → length xs < 8 → IsHeaderPart xs → IsFront stream
    by_part [] is short begins = (e.parts, [], e.are_parts, append-nil stream ∙ (is ∙ append-nil (frames_of e.parts)))
    by_part (k ∷ xs) is short begins =
        let t = fill (7 - length (k ∷ xs)) k xs (omega arith) begins in
        let payload : List ℕ = replicate t.1 0 in
        let size : length payload ≡ t.1 = length-replicate t.1 0 in (
          e.parts ++ (stream_of k, payload) ∷ [],
          t.0 ++ payload,
          parts_append e.parts ((stream_of k, payload) ∷ []) e.are_parts ((let lt = t.2 in omega arith), tt),
          ap (λ l. l ++ (t.0 ++ payload)) is
              ∙ (append_assoc (frames_of e.parts) (k ∷ xs) (t.0 ++ payload)
              ∙ (ap (λ l. frames_of e.parts ++ l) (sym (append_assoc (k ∷ xs) t.0 payload) ∙ (ap (λ l. l ++ payload) t.3 ∙ ap (λ n. header_of (stream_of k) n ++ payload) (sym size)))
              ∙ sym (frame_more e.parts (stream_of k) payload))),
        )

payload_front : (stream : List ℕ) (given : List (Stream × ℕ)) (kind : Stream) (missing : ℕ) → EndsInPayload stream given kind missing → IsFront stream
payload_front stream given kind missing e =
    let rest : List ℕ = replicate missing 0 in
    let payload : List ℕ = e.got ++ rest in
    let size : length payload ≡ length e.got + missing = length-append e.got rest ∙ ap (λ n. length e.got + n) (length-replicate missing 0) in (
      e.parts ++ (kind, payload) ∷ [],
      rest,
      parts_append e.parts ((kind, payload) ∷ []) e.are_parts ((let lt = e.size in omega arith), tt),
      ap (λ l. l ++ rest) e.stream_is
          ∙ (append_assoc (frames_of e.parts ++ header_of kind (length e.got + missing)) e.got rest
          ∙ (append_assoc (frames_of e.parts) (header_of kind (length e.got + missing)) payload
          ∙ (ap (λ n. frames_of e.parts ++ (header_of kind n ++ payload)) (sym size)
          ∙ sym (frame_more e.parts kind payload)))),
    )

pub goes_on : GoesOn
goes_on = (header_front, payload_front)

-- ---- a fault

-- no header has that byte there
no_header : (part : List ℕ) (wrong place : ℕ) (fault : FrameFault) (k : Stream) (size : ℕ) (x y : List ℕ) → IsWrong part wrong fault place → part ++ wrong ∷ x ≡ header_of k size ++ y → ⊥
no_header part wrong place (BadType at) k size x y is e =
    let c : wrong ≡ stream_byte k = (cons_same (subst (λ l. l ++ wrong ∷ x ≡ header_of k size ++ y) is.0 e)).0 in
    let low = low_byte k in let high = is.1 in omega arith
no_header [] wrong place (BadPad at) k size x y is e = omega arith
no_header (a ∷ []) wrong place (BadPad at) k size x y is e = let c = (cons_same (cons_same e).1).0 in omega arith
no_header (a ∷ b ∷ []) wrong place (BadPad at) k size x y is e = let c = (cons_same (cons_same (cons_same e).1).1).0 in omega arith
no_header (a ∷ b ∷ d ∷ []) wrong place (BadPad at) k size x y is e = let c = (cons_same (cons_same (cons_same (cons_same e).1).1).1).0 in omega arith
no_header (a ∷ b ∷ d ∷ f ∷ part) wrong place (BadPad at) k size x y is e = omega arith

-- a wrong byte stands in no stream of frames
stands_nowhere : (stream : List ℕ) (given : List (Stream × ℕ)) (part : List ℕ) (wrong place : ℕ) (fault : FrameFault) (more : List ℕ) (qs : List Part) → EndsInHeader stream given part
    → IsWrong part wrong fault place → AreParts qs → stream ++ wrong ∷ more ≡ frames_of qs → ⊥
stands_nowhere stream given part wrong place fault more qs e is b eq =
    let t = front_parts e.parts qs (part ++ wrong ∷ more) e.are_parts b (sym (append_assoc (frames_of e.parts) part (wrong ∷ more)) ∙ (ap (λ l. l ++ wrong ∷ more) (sym e.stream_is) ∙ eq)) in
    by_rest part t.0 is t.3
  where
    by_rest : (xs : List ℕ) (rs : List Part) → IsWrong xs wrong fault place → xs ++ wrong ∷ more ≡ frames_of rs → ⊥
    by_rest [] [] w f = cc
    by_rest (x ∷ xs) [] w f = cc
    by_rest xs (r ∷ rs) w f = no_header xs wrong place fault r.0 (length r.1) more (r.1 ++ frames_of rs) w (f ∙ frame_front r (frames_of rs))

pub first_wrong : FirstWrong
first_wrong stream given fault e = (
  header_front e.front given e.part e.right,
  λ f. stands_nowhere e.front given e.part e.wrong (place_behind e.front) fault f.1 f.0 e.right e.is_wrong f.2 (sym (append_assoc e.front (e.wrong ∷ []) f.1) ∙ f.3),
)

-- ---- a whole stream

-- fewer than eight bytes are no frame
short_frames : (xs : List ℕ) (rs : List Part) → length xs < 8 → xs ≡ frames_of rs → rs ≡ []
short_frames xs [] lt e = refl
short_frames xs (r ∷ rs) lt e =
    let l : length xs ≡ length (header_of r.0 (length r.1)) + length (r.1 ++ frames_of rs) = ap length (e ∙ frame_front r (frames_of rs)) ∙ length-append (header_of r.0 (length r.1)) (r.1 ++ frames_of rs) in
    let eight : length (header_of r.0 (length r.1)) ≡ 8 = refl in absurd (omega arith)

pub gives_back : GivesBack
gives_back qs given (Header part) at b taken =
    let e = taken.0 in
    let t = front_parts e.parts qs part e.are_parts b (sym e.stream_is) in
    let none = short_frames part t.0 e.short t.3 in
    (e.given_is ∙ ap tagged (sym (t.2 ∙ (ap (λ l. e.parts ++ l) none ∙ append-nil e.parts))), ap Header (t.3 ∙ ap frames_of none))
gives_back qs given (Payload kind missing) at b taken =
    let e = taken.0 in
    let t = front_parts e.parts qs (header_of kind (length e.got + missing) ++ e.got) e.are_parts b (sym (append_assoc (frames_of e.parts) (header_of kind (length e.got + missing)) e.got) ∙ sym e.stream_is) in
    absurd (cut t.0 t.1 t.3)
  where
    cut : (rs : List Part) → AreParts rs → header_of kind (length taken.0.got + missing) ++ taken.0.got ≡ frames_of rs → ⊥
    cut [] a f = cc
    cut (r ∷ rs) a f =
        let h = same_header kind r.0 (length taken.0.got + missing) (length r.1) taken.0.got (r.1 ++ frames_of rs) taken.0.size a.0 (f ∙ frame_front r (frames_of rs)) in
        let l : length taken.0.got ≡ length r.1 + length (frames_of rs) = ap length h.2 ∙ length-append r.1 (frames_of rs) in
        let lacks = taken.0.lacks in let size = h.1 in omega arith
gives_back qs given (Faulted fault) at b taken =
    absurd (stands_nowhere taken.front given taken.part taken.wrong (place_behind taken.front) fault taken.more qs taken.right taken.is_wrong b (sym taken.stream_is))
