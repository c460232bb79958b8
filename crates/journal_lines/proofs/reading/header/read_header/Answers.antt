use Rattle.std.proofs.Common.{◌≡◌, ℕ, List, true, false, refl, sym, ap, ◌∙◌, subst, not, Bool, bytes_eq, arith, Result, Ok, Err, IfErr, IsErrAnd}
use Rattle.std.proofs.lemmas.Slice.Eq.{bytes_eq-Decides}
use Rattle.serde_json.specs.View.{view}
use Rattle.journal_lines.specs.JournalLines.{header_value, header_line}
use Rattle.journal_lines.specs.Line.{IsHeaderFault}
use Rattle.journal_lines.specs.declared.fault.LineFault.{LineFault}
use Rattle.journal_lines.specs.declared.header.Header.{Header}
use Rattle.journal_lines.proofs.HeaderLemmas.{header_same, is_carried, not_read}
use Rattle.journal_lines.proofs.reading.header.read_header.Goals as goal

not_false : (b : Bool) → not b ≡ false → b ≡ true
not_false true e = refl
not_false false e = cc e

pub returns-in_default-clause-refused : goal.returns-in_default-clause-refused
returns-in_default-clause-refused c = λ seed opening h is.
    (rw c.in_default.is at c.in_ok-value.ensures.none) (header_value seed opening) (is_carried seed opening h) is

passed_on : (r : Result Header LineFault) (fault : LineFault) (line : List ℕ) → IsErrAnd r (λ e. e ≡ fault) → IsHeaderFault line fault
    → IfErr r (λ e. IsHeaderFault line e)
passed_on (Ok x) fault line is refused = tt
passed_on (Err e) fault line is refused = subst (λ (f : LineFault). IsHeaderFault line f) (sym is) refused

pub returns-in_err-header-clause-refused : goal.returns-in_err-header-clause-refused
returns-in_err-header-clause-refused c =
    let fault = c.in_err-header.field-0.0 in
    let refused = not_read c.args.line.now (view c.in-Some.value) fault
    (λ seed opening h is. (rw c.in-Some.is at c.in_ok-value.ensures.some) (header_value seed opening) (is_carried seed opening h) is)
    c.in_err-header.ensures in
    passed_on c.from_residual-in_err-header.result fault c.args.line.now c.from_residual-in_err-header.ensures.1 refused

pub returns-then-header-gt-GREATEST_MOMENT-clause-refused : goal.returns-then-header-gt-GREATEST_MOMENT-clause-refused
returns-then-header-gt-GREATEST_MOMENT-clause-refused c = λ seed opening h is.
    let value = (rw c.in-Some.is at c.in_ok-value.ensures.some) (header_value seed opening) (is_carried seed opening h) is in
    let same = header_same (view c.in-Some.value) c.in_ok-header.header seed opening c.in_ok-header.ensures value h in
    let moment : c.in_ok-header.header.opening ≡ opening = ap (λ (x : Header). x.opening) same in
    omega (arith, h.low, c.if-header-gt-GREATEST_MOMENT.true, moment)

pub returns-then-ne-clause-refused : goal.returns-then-ne-clause-refused
returns-then-ne-clause-refused c = λ seed opening h is.
    let value = (rw c.in-Some.is at c.in_ok-value.ensures.some) (header_value seed opening) (is_carried seed opening h) is in
    let same = header_same (view c.in-Some.value) c.in_ok-header.header seed opening c.in_ok-header.ensures value h in
    let equal : c.in_ok-again.again.items ≡ c.args.line.now = c.in_ok-again.ensures ∙ ap (λ (x : Header). header_line x.seed x.opening) same ∙ is in
    let true_one = (bytes_eq-Decides c.as_slice.result.now c.args.line.now).1 (c.as_slice.ensures.value ∙ equal) in
    cc (sym c.if-ne.true ∙ c.ne.ensures ∙ ap not true_one)

pub returns-clause-taken : goal.returns-clause-taken
returns-clause-taken c =
    let equal = (bytes_eq-Decides c.as_slice.result.now c.args.line.now).0 (not_false (bytes_eq c.as_slice.result.now c.args.line.now) (sym c.ne.ensures ∙ c.if-ne.false)) in (
      record { bytes = c.seed_bytes.ensures.bytes; long = c.seed_bytes.ensures.long; low = omega (arith, c.if-header-gt-GREATEST_MOMENT.false) },
      sym c.in_ok-again.ensures ∙ sym c.as_slice.ensures.value ∙ equal,
    )
