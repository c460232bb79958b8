use Rattle.std.proofs.Common.{◌≡◌, ℕ, List, Result, Ok, Err, sym, ap, ◌∙◌, arith}
use Rattle.std.proofs.lemmas.Fmt.{parse-decimal}
use Rattle.engine_text.specs.Texts.{same_bytes}
use Rattle.api_json.proofs.DecimalLemmas.{decimal_below-false, decimal_below-only}
use Rattle.api_json.proofs.event_rules.is_decimal_below.Goals as goal

same_ok : {E : Type 0} (a b : ℕ) (r : Result ℕ E) → r ≡ Ok a → r ≡ Ok b → a ≡ b
same_ok {E = E} a b r p q = sym (ap value_or p) ∙ ap value_or q
  where
    value_or : Result ℕ E → ℕ
    value_or (Ok x) = x
    value_or (Err y) = a

pub returns-in_default : goal.returns-in_default
returns-in_default c = sym (decimal_below-false c.args.limit c.args.text.now (λ n lt is.
    cc (sym c.in_default.is ∙ parse-decimal 16 n c.args.text.now c.parse.result (omega (arith, c.ranges.limit.fits)) (omega (arith, c.ranges.limit.fits)) is c.parse.ensures.value.0)))

pub returns-then-n-limit : goal.returns-then-n-limit
returns-then-n-limit c = sym (decimal_below-false c.args.limit c.args.text.now (λ n lt is.
    let read = parse-decimal 16 n c.args.text.now c.parse.result (omega (arith, c.ranges.limit.fits)) (omega (arith, c.ranges.limit.fits)) is c.parse.ensures.value.0 in
    let one : n ≡ c.in-Ok.n = same_ok n c.in-Ok.n c.parse.result read c.in-Ok.is in
    omega (arith, c.if-n-limit.true)))

pub returns : goal.returns
returns c =
    let only = decimal_below-only c.args.limit c.in-Ok.n c.args.text.now (omega (arith, c.if-n-limit.false)) (λ n lt is.
    same_ok n c.in-Ok.n c.parse.result (parse-decimal 16 n c.args.text.now c.parse.result (omega (arith, c.ranges.limit.fits)) (omega (arith, c.ranges.limit.fits)) is c.parse.ensures.value.0) c.in-Ok.is) in
    c.eq.ensures ∙ ap (λ (l : List ℕ). same_bytes l c.args.text.now) c.format.ensures.text ∙ only
