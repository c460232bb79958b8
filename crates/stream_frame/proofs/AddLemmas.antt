-- What one byte adds to a stream, and then a piece.
use Rattle.std.proofs.Common.{◌≡◌, ℕ, zero, suc, ◌+◌, ◌-◌, ◌≤◌, ◌<◌, List, [], ◌∷◌, ◌++◌, length, map, drop, Bool, true, false, refl, sym, ap, ◌∙◌, subst, arith, append-nil, append_assoc, length-append}
use Rattle.std.specs.Prelude.{nat_le, ◌==◌, if◌then◌else◌, slice_index, get_or, Ok, Err}
use Rattle.std.specs.Int.{w32, from_be_bytes}
use Rattle.std.proofs.lemmas.Bool.Decides.{nat_tests}
use Rattle.std.proofs.lemmas.Grind.{flat_map-append}
use Rattle.std.proofs.lemmas.List.{map-append}
use Rattle.engine_text.specs.declared.script.Stream.{Stream}
use Rattle.stream_frame.specs.declared.fault.FrameFault.{FrameFault}
use Rattle.stream_frame.specs.declared.fault.FrameFault.TheVariants.{BadType, BadPad}
use Rattle.stream_frame.specs.Frames.{Part, header_of, frame_of, frames_of, AreParts, tagged}
use Rattle.stream_frame.specs.Demuxing.{Rest, Header, Payload, Faulted, Held, Item, AreBytes, IsHeaderPart, IsWrong, place_behind, EndsInHeader, EndsInPayload, EndsWrong, HasTaken, Demuxed, told_by, AreFull, Adds}
use Rattle.stream_frame.specs.Steps.{counted, stream_of, behind_header, header_byte, payload_rest, by_byte, held_after, extend, put_byte, items_of}
use Rattle.stream_frame.proofs.HeaderLemmas.{begins_pad, begins_size, Whole, whole}

pub frames_append : (ps qs : List Part) → frames_of (ps ++ qs) ≡ frames_of ps ++ frames_of qs
frames_append [] qs = refl
frames_append (p ∷ ps) qs = ap (λ l. frame_of p ++ l) (frames_append ps qs) ∙ sym (append_assoc (frame_of p) (frames_of ps) (frames_of qs))

pub parts_append : (ps qs : List Part) → AreParts ps → AreParts qs → AreParts (ps ++ qs)
parts_append [] qs a b = b
parts_append (p ∷ ps) qs a b = (a.0, parts_append ps qs a.1 b)

pub tagged_append : (ps qs : List Part) → tagged (ps ++ qs) ≡ tagged ps ++ tagged qs
tagged_append ps qs = flat_map-append (λ part. map (λ byte. (part.0, byte)) part.1) ps qs

-- a whole frame more
pub frame_more : (ps : List Part) (kind : Stream) (payload : List ℕ) → frames_of (ps ++ (kind, payload) ∷ []) ≡ frames_of ps ++ (header_of kind (length payload) ++ payload)
frame_more ps kind payload = frames_append ps ((kind, payload) ∷ []) ∙ ap (λ l. frames_of ps ++ l) (append-nil (header_of kind (length payload) ++ payload))

tag_more : (ps : List Part) (kind : Stream) (payload : List ℕ) → tagged (ps ++ (kind, payload) ∷ []) ≡ tagged ps ++ map (λ byte. (kind, byte)) payload
tag_more ps kind payload = tagged_append ps ((kind, payload) ∷ []) ∙ ap (λ l. tagged ps ++ l) (append-nil (map (λ byte. (kind, byte)) payload))

place_more : (s : List ℕ) (b at : ℕ) → at ≡ place_behind s → counted 1 at ≡ place_behind (s ++ b ∷ [])
place_more s b at e = let l : length (s ++ b ∷ []) ≡ length s + 1 = length-append s (b ∷ []) in omega arith

-- ---- one byte

bare : (n : ℕ) → suc n ≡ length {A = ℕ} [] + suc n
bare n = omega arith

-- behind a whole header
behind : (s : List ℕ) (g : List (Stream × ℕ)) (part : List ℕ) (b at : ℕ) → EndsInHeader s g part → Whole part b → at ≡ place_behind (s ++ b ∷ [])
    → HasTaken (s ++ b ∷ []) g (behind_header (slice_index part 0) (from_be_bytes w32 (drop 4 (part ++ b ∷ [])))) at
behind s g part b at e w p = subst (λ (n : ℕ). HasTaken (s ++ b ∷ []) g (behind_header k n) at) (sym w.size_is) (by_size w.size refl)
  where
    k : ℕ
    k = slice_index part 0

    kind : Stream
    kind = stream_of k

    joined : s ++ b ∷ [] ≡ frames_of e.parts ++ header_of kind w.size
    joined = ap (λ l. l ++ b ∷ []) e.stream_is ∙ (append_assoc (frames_of e.parts) part (b ∷ []) ∙ ap (λ l. frames_of e.parts ++ l) w.header)

    by_size : (n : ℕ) → w.size ≡ n → HasTaken (s ++ b ∷ []) g (behind_header k n) at
    by_size zero z = (
      record {
        parts = e.parts ++ (kind, []) ∷ [];
        are_parts = parts_append e.parts ((kind, []) ∷ []) e.are_parts (omega arith, tt);
        stream_is = joined ∙ (ap (λ n. frames_of e.parts ++ header_of kind n) z ∙ (ap (λ l. frames_of e.parts ++ l) (sym (append-nil (header_of kind 0)))
            ∙ (sym (frame_more e.parts kind []) ∙ sym (append-nil (frames_of (e.parts ++ (kind, []) ∷ []))))));
        short = omega arith;
        begins = tt;
        given_is = e.given_is ∙ (sym (append-nil (tagged e.parts)) ∙ sym (tag_more e.parts kind []));
      },
      p,
    )
    by_size (suc n) z = (
      record {
        parts = e.parts;
        are_parts = e.are_parts;
        got = [];
        stream_is = joined ∙ (ap (λ n. frames_of e.parts ++ header_of kind n) (z ∙ bare n) ∙ sym (append-nil (frames_of e.parts ++ header_of kind (length {A = ℕ} [] + suc n))));
        size = (let f = w.fits in omega arith);
        lacks = omega arith;
        given_is = e.given_is ∙ sym (append-nil (tagged e.parts));
      },
      p,
    )

-- a part of a header that is one byte longer
longer : (s : List ℕ) (g : List (Stream × ℕ)) (part : List ℕ) (b at : ℕ) → EndsInHeader s g part → length part < 7 → IsHeaderPart (part ++ b ∷ []) → at ≡ place_behind (s ++ b ∷ [])
    → HasTaken (s ++ b ∷ []) g (Header (part ++ b ∷ [])) at
longer s g part b at e lt more p = (
  record {
    parts = e.parts;
    are_parts = e.are_parts;
    stream_is = ap (λ l. l ++ b ∷ []) e.stream_is ∙ append_assoc (frames_of e.parts) part (b ∷ []);
    short = (let l : length (part ++ b ∷ []) ≡ length part + 1 = length-append part (b ∷ []) in omega arith);
    begins = more;
    given_is = e.given_is;
  },
  p,
)

-- a byte that can't stand there
wrongs : (s : List ℕ) (g : List (Stream × ℕ)) (part : List ℕ) (b at : ℕ) (fault : FrameFault) → EndsInHeader s g part → IsWrong part b fault (place_behind s)
    → HasTaken (s ++ b ∷ []) g (Faulted fault) at
wrongs s g part b at fault e is = record { front = s; part = part; wrong = b; more = []; stream_is = refl; right = e; is_wrong = is }

no_byte : (xs : List ℕ) → length xs ≤ 0 → xs ≡ []
no_byte [] le = refl
no_byte (x ∷ xs) le = absurd (omega arith)

header_goes : (s : List ℕ) (g : List (Stream × ℕ)) (part : List ℕ) (b at : ℕ) → b < 256 → EndsInHeader s g part → at ≡ place_behind s
    → HasTaken (s ++ b ∷ []) g (header_byte part b at) (counted 1 at)
header_goes s g part b at lt e p =
    by_first (nat_le (length part) 0) refl
  where
    next : counted 1 at ≡ place_behind (s ++ b ∷ [])
    next = place_more s b at p

    by_type : (t : Bool) → nat_le b 2 ≡ t → part ≡ [] → HasTaken (s ++ b ∷ []) g (if t then Header (part ++ b ∷ []) else Faulted (BadType at)) (counted 1 at)
    by_type true is none = longer s g part b (counted 1 at) e (let z : length part ≡ 0 = ap length none in omega arith) (subst (λ l. IsHeaderPart (l ++ b ∷ [])) (sym none) ((grind (arith, nat_tests)), tt)) next
    by_type false is none = wrongs s g part b (counted 1 at) (BadType at) e (none, (grind (arith, nat_tests)), p)

    by_pad : (t : Bool) → (b == 0) ≡ t → 0 < length part → length part < 4 → HasTaken (s ++ b ∷ []) g (if t then Header (part ++ b ∷ []) else Faulted (BadPad at)) (counted 1 at)
    by_pad true is some few = longer s g part b (counted 1 at) e (omega arith) (subst (λ (z : ℕ). IsHeaderPart (part ++ z ∷ [])) (let z : b ≡ 0 = grind (arith, nat_tests) in sym z) (begins_pad part e.begins some few)) next
    by_pad false is some few = wrongs s g part b (counted 1 at) (BadPad at) e (some, few, (grind (arith, nat_tests)), p)

    by_size : (t : Bool) → nat_le (length part) 6 ≡ t → 4 ≤ length part
        → HasTaken (s ++ b ∷ []) g (if t then Header (part ++ b ∷ []) else behind_header (slice_index part 0) (from_be_bytes w32 (drop 4 (part ++ b ∷ [])))) (counted 1 at)
    by_size true is le = longer s g part b (counted 1 at) e (grind (arith, nat_tests)) (begins_size part b e.begins le lt) next
    by_size false is le =
        let seven : length part ≡ 7 = (let short = e.short in let over : 6 < length part = grind (arith, nat_tests) in omega arith) in
        behind s g part b (counted 1 at) e (whole part b e.begins seven lt) next

    by_place : (t : Bool) → nat_le (length part) 3 ≡ t → 0 < length part
        → HasTaken (s ++ b ∷ []) g (if t then (if b == 0 then Header (part ++ b ∷ []) else Faulted (BadPad at))
        else (if nat_le (length part) 6 then Header (part ++ b ∷ []) else behind_header (slice_index part 0) (from_be_bytes w32 (drop 4 (part ++ b ∷ []))))) (counted 1 at)
    by_place true is some = by_pad (b == 0) refl some (grind (arith, nat_tests))
    by_place false is some = by_size (nat_le (length part) 6) refl (grind (arith, nat_tests))

    by_first : (t : Bool) → nat_le (length part) 0 ≡ t
        → HasTaken (s ++ b ∷ []) g (if t then (if nat_le b 2 then Header (part ++ b ∷ []) else Faulted (BadType at))
        else (if nat_le (length part) 3 then (if b == 0 then Header (part ++ b ∷ []) else Faulted (BadPad at))
        else (if nat_le (length part) 6 then Header (part ++ b ∷ []) else behind_header (slice_index part 0) (from_be_bytes w32 (drop 4 (part ++ b ∷ [])))))) (counted 1 at)
    by_first true is = by_type (nat_le b 2) refl (no_byte part (grind (arith, nat_tests)))
    by_first false is = by_place (nat_le (length part) 3) refl (grind (arith, nat_tests))

payload_goes : (s : List ℕ) (g : List (Stream × ℕ)) (kind : Stream) (missing b at : ℕ) → EndsInPayload s g kind missing → at ≡ place_behind s
    → HasTaken (s ++ b ∷ []) (g ++ (kind, b) ∷ []) (payload_rest kind missing 1) (counted 1 at)
payload_goes s g kind missing b at e p = by_last (nat_le missing 1) refl
  where
    next : counted 1 at ≡ place_behind (s ++ b ∷ [])
    next = place_more s b at p

    got : List ℕ
    got = e.got ++ b ∷ []

    size : length got ≡ length e.got + 1
    size = length-append e.got (b ∷ [])

    joined : s ++ b ∷ [] ≡ frames_of e.parts ++ header_of kind (length e.got + missing) ++ got
    joined = ap (λ l. l ++ b ∷ []) e.stream_is ∙ append_assoc (frames_of e.parts ++ header_of kind (length e.got + missing)) e.got (b ∷ [])

    given : g ++ (kind, b) ∷ [] ≡ tagged e.parts ++ map (λ byte. (kind, byte)) got
    given = ap (λ l. l ++ (kind, b) ∷ []) e.given_is
        ∙ (append_assoc (tagged e.parts) (map (λ byte. (kind, byte)) e.got) ((kind, b) ∷ [])
        ∙ ap (λ l. tagged e.parts ++ l) (sym (map-append (λ byte. (kind, byte)) e.got (b ∷ []))))

    by_last : (t : Bool) → nat_le missing 1 ≡ t → HasTaken (s ++ b ∷ []) (g ++ (kind, b) ∷ []) (if t then Header [] else Payload kind (missing - 1)) (counted 1 at)
    by_last true is =
        let lacks = e.lacks in
        let one : missing ≡ 1 = (let le : missing ≤ 1 = grind (arith, nat_tests) in omega arith) in
        let sz = size in
        let is_size : length e.got + missing ≡ length got = omega arith in (
          record {
            parts = e.parts ++ (kind, got) ∷ [];
            are_parts = parts_append e.parts ((kind, got) ∷ []) e.are_parts ((let f = e.size in omega arith), tt);
            stream_is = joined ∙ (ap (λ n. frames_of e.parts ++ header_of kind n ++ got) is_size
                ∙ (append_assoc (frames_of e.parts) (header_of kind (length got)) got ∙ (sym (frame_more e.parts kind got) ∙ sym (append-nil (frames_of (e.parts ++ (kind, got) ∷ []))))));
            short = omega arith;
            begins = tt;
            given_is = given ∙ sym (tag_more e.parts kind got);
          },
          next,
        )
    by_last false is =
        let more : 1 < missing = grind (arith, nat_tests) in
        let sz = size in
        let is_size : length e.got + missing ≡ length got + (missing - 1) = omega arith in (
          record {
            parts = e.parts;
            are_parts = e.are_parts;
            got = got;
            stream_is = joined ∙ ap (λ n. frames_of e.parts ++ header_of kind n ++ got) is_size;
            size = (let f = e.size in omega arith);
            lacks = omega arith;
            given_is = given;
          },
          next,
        )

fault_stays : (s : List ℕ) (g : List (Stream × ℕ)) (fault : FrameFault) (b : ℕ) → EndsWrong s g fault → EndsWrong (s ++ b ∷ []) g fault
fault_stays s g fault b e = record {
  front = e.front;
  part = e.part;
  wrong = e.wrong;
  more = e.more ++ b ∷ [];
  stream_is = ap (λ l. l ++ b ∷ []) e.stream_is ∙ append_assoc e.front (e.wrong ∷ e.more) (b ∷ []);
  right = e.right;
  is_wrong = e.is_wrong;
}

-- ---- a piece

-- a byte of a payload, and then parts
put_part : Stream → ℕ → Bool → List Part → List Part
put_part kind b true parts = (kind, b ∷ []) ∷ parts
put_part kind b false [] = (kind, b ∷ []) ∷ []
put_part kind b false (part ∷ parts) = (part.0, b ∷ part.1) ∷ parts

-- the first of the items is of this stream
abbrev FirstOf : Stream → List Item → Type 0
FirstOf kind [] = Unit {0}
FirstOf kind (Ok part ∷ items) = part.0 ≡ kind
FirstOf kind (Err fault ∷ items) = Unit {0}

extends_first : (kind : Stream) (b : ℕ) (items : List Item) → FirstOf kind items → FirstOf kind (extend kind b items)
extends_first kind b [] f = refl
extends_first kind b (Ok part ∷ items) f = f
extends_first kind b (Err fault ∷ items) f = refl

first_byte : (kind : Stream) (missing at b : ℕ) (piece : List ℕ) → FirstOf kind (items_of (record { rest = Payload kind (missing - 1); at = counted 1 at }) piece) → (t : Bool)
    → FirstOf kind (if t then Ok (kind, b ∷ []) ∷ items_of (record { rest = if t then Header [] else Payload kind (missing - 1); at = counted 1 at }) piece
    else extend kind b (items_of (record { rest = if t then Header [] else Payload kind (missing - 1); at = counted 1 at }) piece))
first_byte kind missing at b piece f true = refl
first_byte kind missing at b piece f false = extends_first kind b _ f

first_of_payload : (kind : Stream) (missing at : ℕ) (piece : List ℕ) → FirstOf kind (items_of (record { rest = Payload kind missing; at = at }) piece)
first_of_payload kind missing at [] = tt
first_of_payload kind missing at (b ∷ piece) = first_byte kind missing at b piece (first_of_payload kind (missing - 1) (counted 1 at) piece) (nat_le missing 1)

-- the items with a byte of a payload before them
pub record Puts (kind : Stream) (b : ℕ) (items : List Item) (parts : List Part) (told : List Item) : Type 0 where
  pub more : List Part
  pub items_are : items ≡ map Ok more ++ told
  pub full : AreFull more
  pub tags : tagged more ≡ (kind, b) ∷ tagged parts

first_part : (kind : Stream) (parts : List Part) (told : List Item) → FirstOf kind (map Ok parts ++ told) → (part : Part) (ps : List Part) → parts ≡ part ∷ ps → part.0 ≡ kind
first_part kind [] told f part ps e = absurd (cc)
first_part kind (p ∷ qs) told f part ps e = ap (λ (x : Part). x.0) (cons_same e) ∙ f
  where
    cons_same : {x y : Part} {xs ys : List Part} → x ∷ xs ≡ y ∷ ys → y ≡ x
    cons_same e = cc

extends : (kind : Stream) (b : ℕ) (fault : Rest) (parts : List Part) → FirstOf kind (map Ok parts ++ told_by fault) → AreFull parts
    → Puts kind b (extend kind b (map Ok parts ++ told_by fault)) parts (told_by fault)
extends kind b (Header part) [] f full = record { more = (kind, b ∷ []) ∷ []; items_are = refl; full = (omega arith, tt); tags = refl }
extends kind b (Payload k m) [] f full = record { more = (kind, b ∷ []) ∷ []; items_are = refl; full = (omega arith, tt); tags = refl }
extends kind b (Faulted fault) [] f full = record { more = (kind, b ∷ []) ∷ []; items_are = refl; full = (omega arith, tt); tags = refl }
extends kind b rest (part ∷ parts) f full = record {
  more = (part.0, b ∷ part.1) ∷ parts;
  items_are = refl;
  full = (omega arith, full.1);
  tags = ap (λ (k : Stream). (k, b) ∷ (map (λ byte. (part.0, byte)) part.1 ++ tagged parts)) f;
}

-- behind a byte of a payload that isn't its last, the same payload goes on
after_payload : (kind : Stream) (missing b at : ℕ) (piece : List ℕ) → nat_le missing 1 ≡ false → FirstOf kind (items_of (by_byte (Payload kind missing) b at) piece)
after_payload kind missing b at piece more =
    subst (λ (t : Bool). FirstOf kind (items_of (record { rest = if t then Header [] else Payload kind (missing - 1); at = counted 1 at }) piece)) (sym more) (first_of_payload kind (missing - 1) (counted 1 at) piece)

byte_adds : (held : Held) (b : ℕ) (piece : List ℕ) → b < 256
    → Adds (by_byte held.rest b held.at) piece (items_of (by_byte held.rest b held.at) piece) (held_after (by_byte held.rest b held.at) piece)
    → Adds held (b ∷ piece) (put_byte held.rest b (items_of (by_byte held.rest b held.at) piece)) (held_after (by_byte held.rest b held.at) piece)
byte_adds held b piece lt r = by_rest held.rest refl
  where
    new : Held
    new = held_after (by_byte held.rest b held.at) piece

    items : List Item
    items = items_of (by_byte held.rest b held.at) piece

    -- a last byte stands alone; behind another the payload goes on
    puts : (kind : Stream) (c missing : ℕ) (t : Bool) → nat_le missing 1 ≡ t → (nat_le missing 1 ≡ false → FirstOf kind items)
        → Puts kind c (if t then Ok (kind, c ∷ []) ∷ items else extend kind c items) r.parts (told_by new.rest)
    puts kind c missing true le first = record { more = (kind, c ∷ []) ∷ r.parts; items_are = ap (λ l. Ok (kind, c ∷ []) ∷ l) r.items_are; full = (omega arith, r.full); tags = refl }
    puts kind c missing false le first =
        subst (λ l. Puts kind c (extend kind c l) r.parts (told_by new.rest)) (sym r.items_are) (extends kind c new.rest r.parts (subst (FirstOf kind) r.items_are (first le)) r.full)

    split : (s : List ℕ) → (s ++ b ∷ []) ++ piece ≡ s ++ b ∷ piece
    split s = append_assoc s (b ∷ []) piece

    taken : (s : List ℕ) (g : List (Stream × ℕ)) (rest : Rest) → held.rest ≡ rest → Demuxed s g held → HasTaken s g rest held.at
    taken s g rest is d = subst (λ (x : Rest). HasTaken s g x held.at) is d

    by_rest : (rest : Rest) → held.rest ≡ rest → Adds held (b ∷ piece) (put_byte rest b items) new
    by_rest (Header part) is = record {
      parts = r.parts;
      items_are = r.items_are;
      full = r.full;
      goes_on = λ s g d. let t = taken s g (Header part) is d in
          subst (λ l. Demuxed l (g ++ tagged r.parts) new) (split s)
          (r.goes_on (s ++ b ∷ []) g (subst (λ (h : Held). Demuxed (s ++ b ∷ []) g h) (ap (λ (x : Rest). by_byte x b held.at) (sym is)) (header_goes s g part b held.at lt t.0 t.1)));
    }
    by_rest (Payload kind missing) is =
        let p = puts kind b missing (nat_le missing 1) refl
        (λ more. subst (λ (x : Rest). FirstOf kind (items_of (by_byte x b held.at) piece)) (sym is) (after_payload kind missing b held.at piece more)) in record {
          parts = p.more;
          items_are = p.items_are;
          full = p.full;
          goes_on = λ s g d. let t = taken s g (Payload kind missing) is d in
              subst (λ l. Demuxed l (g ++ tagged p.more) new) (split s)
              (subst (λ l. Demuxed ((s ++ b ∷ []) ++ piece) l new) (append_assoc g ((kind, b) ∷ []) (tagged r.parts) ∙ ap (λ l. g ++ l) (sym p.tags))
              (r.goes_on (s ++ b ∷ []) (g ++ (kind, b) ∷ []) (subst (λ (h : Held). Demuxed (s ++ b ∷ []) (g ++ (kind, b) ∷ []) h) (ap (λ (x : Rest). by_byte x b held.at) (sym is)) (payload_goes s g kind missing b held.at t.0 t.1))));
        }
    by_rest (Faulted fault) is = record {
      parts = r.parts;
      items_are = r.items_are;
      full = r.full;
      goes_on = λ s g d. let t = taken s g (Faulted fault) is d in
          subst (λ l. Demuxed l (g ++ tagged r.parts) new) (split s)
          (r.goes_on (s ++ b ∷ []) g (subst (λ (h : Held). Demuxed (s ++ b ∷ []) g h) (ap (λ (x : Rest). by_byte x b held.at) (sym is)) (fault_stays s g fault b t)));
    }

pub adds : (held : Held) (piece : List ℕ) → AreBytes piece → Adds held piece (items_of held piece) (held_after held piece)
adds held [] bytes = record { parts = []; items_are = refl; full = tt; goes_on = λ s g d. subst (λ l. Demuxed l (g ++ []) held) (sym (append-nil s)) (subst (λ l. Demuxed s l held) (sym (append-nil g)) d) }
adds held (b ∷ piece) bytes = byte_adds held b piece bytes.0 (adds (by_byte held.rest b held.at) piece bytes.1)

pub bytes_of : (xs : List ℕ) → ((i : ℕ) → get_or xs i 0 < 256) → AreBytes xs
bytes_of [] each = tt
bytes_of (x ∷ xs) each = (each 0, bytes_of xs (λ i. each (suc i)))

-- from what the code has
pub adds_as : (held before new : Held) (piece : List ℕ) → ((i : ℕ) → get_or piece i 0 < 256) → before ≡ held → new ≡ held_after held piece → Adds held piece (items_of before piece) new
adds_as held before new piece each same is =
    subst (λ (x : Held × Held). Adds held piece (items_of x.0 piece) x.1) (λ i. (sym same i, sym is i)) (adds held piece (bytes_of piece each))
