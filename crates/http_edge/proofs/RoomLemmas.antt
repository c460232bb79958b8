use Rattle.std.proofs.Common.{arith, ◌≤◌, ℕ, List, [], ◌∷◌, length, ◌+◌, ◌*◌, ◌++◌, ap, length-append}
use Rattle.std.specs.Prelude.{All}
use Rattle.std.specs.List.{flat_map}
use Rattle.std.proofs.lemmas.List.Elements.{All-head, All-tail}
use Rattle.httparse.specs.Grammar.{Field, IsField, LineEnd, crlf, lf, print_end, print_field, print_section, RequestHead, IsRequestHead, print_request}
use Rattle.std.proofs.lemmas.List.{append-nil}
use Rattle.httparse.proofs.GrammarLemmas.{print_request-append}
use Rattle.httparse.specs.Spans.{RequestExceeds, SectionExceeds}

pub end_takes : (e : LineEnd) → 1 ≤ length (print_end e)
end_takes crlf = omega arith
end_takes lf = omega arith

-- a field line has three bytes at least
pub field_takes : (f : Field) → IsField f → 3 ≤ length (print_field f)
field_takes f is = omega (arith, end_takes f.end, is.name.0, length-append (f.name ++ 58 ∷ f.raw) (print_end f.end), length-append f.name (58 ∷ f.raw))

fields_take : (fs : List Field) → All IsField fs → 3 * length fs ≤ length (flat_map print_field fs)
fields_take [] all = omega arith
fields_take (f ∷ fs) all =
    let here = field_takes f (All-head IsField f fs all) in
    let later = fields_take fs (All-tail IsField f fs all) in
    omega (arith, here, later, length-append (print_field f) (flat_map print_field fs))

-- a head is longer than its fields
pub head_takes : (h : RequestHead) → IsRequestHead h → 3 * length h.fields + 13 ≤ length (print_request h)
head_takes h is =
    let e = ap length (print_request-append h []) in
    let fields = fields_take h.fields is.fields in
    let total = simp (length-append, append-nil) at e in
    omega (arith, total, fields, is.method.0, is.target.0, end_takes h.line_end, end_takes h.last)

-- in 16,384 bytes no more than 5,461 fields have room
pub fields_have_room : (bytes : List ℕ) (room : ℕ) → length bytes ≤ 16384 → 5462 ≤ room → RequestExceeds room bytes → ⊥
fields_have_room bytes room le big e =
    let takes = head_takes e.3 e.4.0 in
    let same = ap length e.4.1 in
    let whole = ap length e.2 in
    omega (arith, takes, same, whole, e.5, length-append e.0 e.1, length-append e.0 (print_end lf), length-append (print_request e.3) [])

-- in 4,096 bytes no more than 1,365 fields have room
pub trailers_have_room : (bytes : List ℕ) (room : ℕ) → length bytes ≤ 4096 → 1366 ≤ room → SectionExceeds room bytes → ⊥
trailers_have_room bytes room le big e =
    let takes = fields_take e.3 e.4.0 in
    let same = ap length e.4.1 in
    let whole = ap length e.2 in
    omega (arith, takes, same, whole, e.5, length-append e.0 e.1, length-append e.0 (print_end lf), length-append (print_section e.3 lf) [], length-append (flat_map print_field e.3) (print_end lf))
