-- The payloads of a stream's pieces are those of the stream.
use Rattle.std.proofs.Common.{arith, ◌≡◌, ◌<◌, ℕ, ◌-◌, List, [], ◌∷◌, ◌++◌, map, length, Bool, true, false, refl, sym, ap, ◌∙◌, subst, append_assoc, append-nil}
use Rattle.std.specs.Prelude.{filter, nat_le, Ok, Err, if◌then◌else◌}
use Rattle.std.proofs.lemmas.Grind.{flat_map-append}
use Rattle.std.proofs.lemmas.List.{map-append}
use Rattle.std.proofs.lemmas.List.Elements.{filter-append}
use Rattle.engine_text.specs.declared.script.Stream.{Stream}
use Rattle.engine_text.specs.declared.script.Stream.TheVariants.{Stdin, Stdout, Stderr}
use Rattle.stream_frame.specs.Frames.{Part, tagged, same_stream, payload_of}
use Rattle.stream_frame.specs.Demuxing.{Rest, Header, Payload, Faulted, Held, Item, told_by}
use Rattle.stream_frame.specs.Steps.{counted, by_byte, held_after, extend, put_byte, items_of}
use Rattle.engine_ports.specs.Sink.{SinkView, SinkTook, WriteSays}
use Rattle.engine_ports.specs.declared.ports.Failed.{Failed}
use Rattle.client_model.specs.Plans.{nothing, to_out, joined}
use Rattle.client_model.specs.declared.fault.Fault.{Fault}
use Rattle.client_model.specs.declared.fault.Fault.TheVariants as F
use Rattle.client_exchange.specs.Outputs.{Outputs, outputs, BothTook, WritesBoth, WasToWrite}
use Rattle.client_exchange.proofs.OutputLemmas.{both_none, both_on, out_took, err_took, out_failed, err_failed, breaks_on, breaks_before, some_bytes, was_behind, was_before}
use Rattle.client_model.specs.Streams.{parts_of, unread, payloads_of}
use Rattle.client_exchange.specs.Writing.{part_written, items_written, piece_written, HaveBytes}

-- the bytes of one stream among tagged ones
abbrev bytes_on : Stream → List (Stream × ℕ) → List ℕ
bytes_on k tags = map (λ tag. tag.1) (filter (λ tag. same_stream k tag.0) tags)

on_append : (k : Stream) (xs ys : List (Stream × ℕ)) → bytes_on k (xs ++ ys) ≡ bytes_on k xs ++ bytes_on k ys
on_append k xs ys =
    ap (map (λ (tag : Stream × ℕ). tag.1)) (filter-append (λ (tag : Stream × ℕ). same_stream k tag.0) xs ys)
    ∙ map-append (λ (tag : Stream × ℕ). tag.1) (filter (λ tag. same_stream k tag.0) xs) (filter (λ tag. same_stream k tag.0) ys)

tagged_more : (p : Part) (ps : List Part) → tagged (p ∷ ps) ≡ tagged (p ∷ []) ++ tagged ps
tagged_more p ps = flat_map-append (λ (part : Part). map (λ byte. (part.0, byte)) part.1) (p ∷ []) ps

pub payload_more : (k : Stream) (p : Part) (ps : List Part) → payload_of k (p ∷ ps) ≡ payload_of k (p ∷ []) ++ payload_of k ps
payload_more k p ps = ap (bytes_on k) (tagged_more p ps) ∙ on_append k (tagged (p ∷ [])) (tagged ps)

-- ---- one part

-- of one stream all bytes or none
kept : (same : Bool) (k kind : Stream) (bytes : List ℕ) → same_stream k kind ≡ same
    → bytes_on k (map (λ byte. (kind, byte)) bytes) ≡ (if same then bytes else [])
kept true k kind [] is = refl
kept false k kind [] is = refl
kept true k kind (b ∷ bs) is = rw is (ap (λ l. b ∷ l) (kept true k kind bs is))
kept false k kind (b ∷ bs) is = rw is (kept false k kind bs is)

of_part : (same : Bool) (k kind : Stream) (bytes : List ℕ) → same_stream k kind ≡ same → payload_of k ((kind, bytes) ∷ []) ≡ (if same then bytes else [])
of_part same k kind bytes is = ap (bytes_on k) (append-nil (map (λ byte. (kind, byte)) bytes)) ∙ kept same k kind bytes is

stdin_written : (bytes : List ℕ) → nothing ≡ part_written (Stdin, bytes)
stdin_written bytes = λ i. record { out = sym (of_part false Stdout Stdin bytes refl) i; err = sym (of_part false Stderr Stdin bytes refl) i }

stdout_written : (bytes : List ℕ) → to_out bytes ≡ part_written (Stdout, bytes)
stdout_written bytes = λ i. record { out = sym (of_part true Stdout Stdout bytes refl) i; err = sym (of_part false Stderr Stdout bytes refl) i }

stderr_written : (bytes : List ℕ) → record { out = []; err = bytes } ≡ part_written (Stderr, bytes)
stderr_written bytes = λ i. record { out = sym (of_part false Stdout Stderr bytes refl) i; err = sym (of_part true Stderr Stderr bytes refl) i }

pub stdin_part : (bytes : List ℕ) (o : Outputs) → BothTook o (part_written (Stdin, bytes)) o
stdin_part bytes o = subst (λ w. BothTook o w o) (stdin_written bytes) (both_none o)

pub stdout_part : (bytes : List ℕ) (u u' e : SinkView) → SinkTook u bytes u' → BothTook (outputs u e) (part_written (Stdout, bytes)) (outputs u' e)
stdout_part bytes u u' e took = subst (λ w. BothTook (outputs u e) w (outputs u' e)) (stdout_written bytes) (out_took bytes u u' e took)

pub stderr_part : (bytes : List ℕ) (u e e' : SinkView) → SinkTook e bytes e' → BothTook (outputs u e) (part_written (Stderr, bytes)) (outputs u e')
stderr_part bytes u e e' took = subst (λ w. BothTook (outputs u e) w (outputs u e')) (stderr_written bytes) (err_took bytes u e e' took)

pub stdout_failed : (x : Failed) (bytes : List ℕ) (u u' e : SinkView) → WriteSays (Err x) bytes u u'
    → WritesBoth (Err F.Output) (part_written (Stdout, bytes)) (outputs u e) (outputs u' e)
stdout_failed x bytes u u' e says = subst (λ w. WritesBoth (Err F.Output) w (outputs u e) (outputs u' e)) (stdout_written bytes) (out_failed x bytes u u' e says)

pub stderr_failed : (x : Failed) (bytes : List ℕ) (u e e' : SinkView) → WriteSays (Err x) bytes e e'
    → WritesBoth (Err F.Errors) (part_written (Stderr, bytes)) (outputs u e) (outputs u e')
stderr_failed x bytes u e e' says = subst (λ w. WritesBoth (Err F.Errors) w (outputs u e) (outputs u e')) (stderr_written bytes) (err_failed x bytes u e e' says)

-- ---- items

parts_append : (xs ys : List Item) → parts_of (xs ++ ys) ≡ parts_of xs ++ parts_of ys
parts_append [] ys = refl
parts_append (Ok part ∷ xs) ys = ap (λ l. part ∷ l) (parts_append xs ys)
parts_append (Err fault ∷ xs) ys = parts_append xs ys

payload_append : (k : Stream) (ps qs : List Part) → payload_of k (ps ++ qs) ≡ payload_of k ps ++ payload_of k qs
payload_append k ps qs = ap (bytes_on k) (flat_map-append (λ (part : Part). map (λ byte. (part.0, byte)) part.1) ps qs) ∙ on_append k (tagged ps) (tagged qs)

items_on : (k : Stream) (xs ys : List Item) → payload_of k (parts_of (xs ++ ys)) ≡ payload_of k (parts_of xs) ++ payload_of k (parts_of ys)
items_on k xs ys = ap (payload_of k) (parts_append xs ys) ∙ payload_append k (parts_of xs) (parts_of ys)

pub items_joined : (xs ys : List Item) → items_written (xs ++ ys) ≡ joined (items_written xs) (items_written ys)
items_joined xs ys = λ i. record { out = items_on Stdout xs ys i; err = items_on Stderr xs ys i }

-- ---- a byte

-- the first of the items is of this stream
abbrev FirstOf : Stream → List Item → Type 0
FirstOf kind [] = Unit {0}
FirstOf kind (Ok part ∷ items) = part.0 ≡ kind
FirstOf kind (Err fault ∷ items) = Unit {0}

extends_first : (kind : Stream) (b : ℕ) (items : List Item) → FirstOf kind items → FirstOf kind (extend kind b items)
extends_first kind b [] f = refl
extends_first kind b (Ok part ∷ items) f = f
extends_first kind b (Err fault ∷ items) f = refl

first_byte : (kind : Stream) (missing at b : ℕ) (piece : List ℕ) → FirstOf kind (items_of (record { rest = Payload kind (missing - 1); at = counted 1 at }) piece) → (t : Bool)
    → FirstOf kind (if t then Ok (kind, b ∷ []) ∷ items_of (record { rest = if t then Header [] else Payload kind (missing - 1); at = counted 1 at }) piece
    else extend kind b (items_of (record { rest = if t then Header [] else Payload kind (missing - 1); at = counted 1 at }) piece))
first_byte kind missing at b piece f true = refl
first_byte kind missing at b piece f false = extends_first kind b _ f

first_of_payload : (kind : Stream) (missing at : ℕ) (piece : List ℕ) → FirstOf kind (items_of (record { rest = Payload kind missing; at = at }) piece)
first_of_payload kind missing at [] = tt
first_of_payload kind missing at (b ∷ piece) = first_byte kind missing at b piece (first_of_payload kind (missing - 1) (counted 1 at) piece) (nat_le missing 1)

-- what a byte is of one stream, behind this rest
abbrev byte_on : Stream → Rest → ℕ → List ℕ
byte_on k (Header part) b = []
byte_on k (Payload kind missing) b = payload_of k ((kind, b ∷ []) ∷ [])
byte_on k (Faulted fault) b = []

on_more : (k kind : Stream) (b : ℕ) (tags : List (Stream × ℕ)) → bytes_on k ((kind, b) ∷ tags) ≡ payload_of k ((kind, b ∷ []) ∷ []) ++ bytes_on k tags
on_more k kind b tags = on_append k ((kind, b) ∷ []) tags

extended : (k kind : Stream) (b : ℕ) (items : List Item) → FirstOf kind items
    → payload_of k (parts_of (extend kind b items)) ≡ payload_of k ((kind, b ∷ []) ∷ []) ++ payload_of k (parts_of items)
extended k kind b [] f = on_more k kind b []
extended k kind b (Ok part ∷ items) f =
    ap (λ s. bytes_on k ((s, b) ∷ tagged (part ∷ parts_of items))) f ∙ on_more k kind b (tagged (part ∷ parts_of items))
extended k kind b (Err fault ∷ items) f = on_more k kind b (tagged (parts_of items))

put_payload : (k kind : Stream) (b missing at : ℕ) (bytes : List ℕ) → (t : Bool)
    → payload_of k (parts_of (if t then Ok (kind, b ∷ []) ∷ items_of (record { rest = if t then Header [] else Payload kind (missing - 1); at = counted 1 at }) bytes
    else extend kind b (items_of (record { rest = if t then Header [] else Payload kind (missing - 1); at = counted 1 at }) bytes)))
    ≡ payload_of k ((kind, b ∷ []) ∷ [])
    ++ payload_of k (parts_of (items_of (record { rest = if t then Header [] else Payload kind (missing - 1); at = counted 1 at }) bytes))
put_payload k kind b missing at bytes true = on_more k kind b (tagged (parts_of (items_of (record { rest = Header []; at = counted 1 at }) bytes)))
put_payload k kind b missing at bytes false = extended k kind b _ (first_of_payload kind (missing - 1) (counted 1 at) bytes)

byte_put : (k : Stream) (rest : Rest) (at b : ℕ) (bytes : List ℕ)
    → payload_of k (parts_of (put_byte rest b (items_of (by_byte rest b at) bytes))) ≡ byte_on k rest b ++ payload_of k (parts_of (items_of (by_byte rest b at) bytes))
byte_put k (Header part) at b bytes = refl
byte_put k (Payload kind missing) at b bytes = put_payload k kind b missing at bytes (nat_le missing 1)
byte_put k (Faulted fault) at b bytes = refl

-- ---- pieces

no_part : (rest : Rest) → [] ≡ parts_of (told_by rest)
no_part (Header part) = refl
no_part (Payload kind missing) = refl
no_part (Faulted fault) = refl

piece_on : (k : Stream) (held : Held) (front more : List ℕ)
    → payload_of k (parts_of (items_of held (front ++ more)))
    ≡ payload_of k (parts_of (items_of held front)) ++ payload_of k (parts_of (items_of (held_after held front) more))
piece_on k held [] more = ap (λ ps. payload_of k ps ++ payload_of k (parts_of (items_of held more))) (no_part held.rest)
piece_on k held (b ∷ front) more =
    let next = by_byte held.rest b held.at in
    let first = byte_on k held.rest b in
    byte_put k held.rest held.at b (front ++ more)
    ∙ (ap (λ l. first ++ l) (piece_on k next front more)
    ∙ (sym (append_assoc first (payload_of k (parts_of (items_of next front))) (payload_of k (parts_of (items_of (held_after next front) more))))
    ∙ ap (λ l. l ++ payload_of k (parts_of (items_of (held_after next front) more))) (sym (byte_put k held.rest held.at b front))))

pub pieces_joined : (body piece : List ℕ) → payloads_of (body ++ piece) ≡ joined (payloads_of body) (piece_written (held_after unread body) piece)
pieces_joined body piece = λ i. record { out = piece_on Stdout unread body piece i; err = piece_on Stderr unread body piece i }

pub held_on : (held : Held) (body piece : List ℕ) → held_after held (body ++ piece) ≡ held_after (held_after held body) piece
held_on held [] piece = refl
held_on held (b ∷ body) piece = held_on (by_byte held.rest b held.at) body piece

-- ---- items, one after another

-- some of the items were written, and these are left
pub record Wrote (all left : List Item) (o o' : Outputs) : Type 0 where
  pub done : List Item
  pub all_are : all ≡ done ++ left
  pub took : BothTook o (items_written done) o'

pub wrote_none : (all left : List Item) (o : Outputs) → left ≡ all → Wrote all left o o
wrote_none all left o is = record { done = []; all_are = sym is; took = both_none o }

done_more : (all done left rest : List Item) (item : Item) → all ≡ done ++ left → left ≡ item ∷ rest → all ≡ (done ++ item ∷ []) ++ rest
done_more all done left rest item is e = is ∙ ap (λ l. done ++ l) e ∙ sym (append_assoc done (item ∷ []) rest)

pub wrote_more : (all left rest : List Item) (item : Item) (o p q : Outputs) (x : Unit {0})
    → Wrote all left o p → left ≡ item ∷ rest → WritesBoth (Ok x) (items_written (item ∷ [])) p q → Wrote all rest o q
wrote_more all left rest item o p q x before e writes = record {
  done = before.done ++ item ∷ [];
  all_are = done_more all before.done left rest item before.all_are e;
  took =
      subst (λ w. BothTook o w q) (sym (items_joined before.done (item ∷ [])))
      (both_on o p q (items_written before.done) (items_written (item ∷ [])) before.took writes);
}

pub wrote_all : (all left : List Item) (o p : Outputs) → Wrote all left o p → left ≡ [] → BothTook o (items_written all) p
wrote_all all left o p before none =
    subst (λ l. BothTook o (items_written l) p) (sym (before.all_are ∙ ap (λ l. before.done ++ l) none ∙ append-nil before.done)) before.took

pub wrote_less : (all left rest : List Item) (item : Item) (o p q : Outputs) (fault : Fault)
    → Wrote all left o p → left ≡ item ∷ rest → WritesBoth (Err fault) (items_written (item ∷ [])) p q → WritesBoth (Err fault) (items_written all) o q
wrote_less all left rest item o p q fault before e writes =
    subst (λ l. WritesBoth (Err fault) (items_written l) o q) (sym (done_more all before.done left rest item before.all_are e))
    (subst (λ l. WritesBoth (Err fault) l o q) (sym (items_joined (before.done ++ item ∷ []) rest))
    (breaks_before o q (items_written (before.done ++ item ∷ [])) (items_written rest) fault
    (subst (λ l. WritesBoth (Err fault) l o q) (sym (items_joined before.done (item ∷ [])))
    (breaks_on o p q (items_written before.done) (items_written (item ∷ [])) fault before.took writes))))

-- ---- what was to be written

pub stdout_was : (bytes : List ℕ) → 0 < length bytes → WasToWrite F.Output (part_written (Stdout, bytes))
stdout_was bytes some = subst (WasToWrite F.Output) (stdout_written bytes) (some_bytes bytes some)

pub stderr_was : (bytes : List ℕ) → 0 < length bytes → WasToWrite F.Errors (part_written (Stderr, bytes))
stderr_was bytes some = subst (WasToWrite F.Errors) (stderr_written bytes) (some_bytes bytes some)

extended_has : (kind : Stream) (b : ℕ) (items : List Item) → HaveBytes items → HaveBytes (extend kind b items)
extended_has kind b [] have = (omega arith, tt)
extended_has kind b (Ok part ∷ items) have = (omega arith, have.1)
extended_has kind b (Err fault ∷ items) have = (omega arith, have)

put_has : (rest : Rest) (b : ℕ) (items : List Item) → HaveBytes items → HaveBytes (put_byte rest b items)
put_has (Header part) b items have = have
put_has (Payload kind missing) b items have = by (nat_le missing 1)
  where
    by : (t : Bool) → HaveBytes (if t then Ok (kind, b ∷ []) ∷ items else extend kind b items)
    by true = (omega arith, have)
    by false = extended_has kind b items have
put_has (Faulted fault) b items have = have

told_has : (rest : Rest) → HaveBytes (told_by rest)
told_has (Header part) = tt
told_has (Payload kind missing) = tt
told_has (Faulted fault) = tt

-- no item of a piece is empty
items_have : (held : Held) (piece : List ℕ) → HaveBytes (items_of held piece)
items_have held [] = told_has held.rest
items_have held (b ∷ piece) =
    put_has held.rest b (items_of (by_byte held.rest b held.at) piece) (items_have (by_byte held.rest b held.at) piece)

has_of : (done rest : List Item) (item : Item) → HaveBytes (done ++ item ∷ rest) → HaveBytes (item ∷ [])
has_of [] rest (Ok part) have = (have.0, tt)
has_of [] rest (Err fault) have = tt
has_of (Ok part ∷ done) rest item have = has_of done rest item have.1
has_of (Err fault ∷ done) rest item have = has_of done rest item have

-- what an item was to write, the piece was
pub was_written : (held : Held) (piece : List ℕ) (left rest : List Item) (item : Item) (o p : Outputs) (fault : Fault)
    → Wrote (items_of held piece) left o p → left ≡ item ∷ rest → (HaveBytes (item ∷ []) → WasToWrite fault (items_written (item ∷ [])))
    → WasToWrite fault (piece_written held piece)
was_written held piece left rest item o p fault before e was =
    let some = was (has_of before.done rest item (subst HaveBytes (before.all_are ∙ ap (λ l. before.done ++ l) e) (items_have held piece))) in
    subst (λ l. WasToWrite fault (items_written l)) (sym (done_more (items_of held piece) before.done left rest item before.all_are e))
    (subst (WasToWrite fault) (sym (items_joined (before.done ++ item ∷ []) rest))
    (was_before fault (items_written (before.done ++ item ∷ [])) (items_written rest)
    (subst (WasToWrite fault) (sym (items_joined before.done (item ∷ [])))
    (was_behind fault (items_written before.done) (items_written (item ∷ [])) some))))
