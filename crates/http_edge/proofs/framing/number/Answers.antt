use Rattle.std.proofs.Common.{arith, ◌≡◌, get_or}
use Rattle.std.specs.Char.{digit_value}
use Rattle.std.proofs.lemmas.Bool.Decides.{nat_tests}
use Rattle.std.proofs.lemmas.Int.Digits.{digits_value_more}
use Rattle.http_edge.proofs.DigitLemmas.{small_value, digit_range}
use Rattle.http_edge.proofs.framing.number.Goals as goal

pub overflow_mul-number : goal.overflow_mul-number
overflow_mul-number c = omega (arith, small_value c.args.digits.now c.loop-digit.digit-index c.requires c.loop-digit-test.true, c.loop-digit.invariant)

pub overflow_add-number : goal.overflow_add-number
overflow_add-number c = omega (arith, small_value c.args.digits.now c.loop-digit.digit-index c.requires c.loop-digit-test.true, c.loop-digit.invariant, digit_range c.args.digits.now c.loop-digit.digit-index c.requires c.loop-digit-test.true)

pub loop-digit-preserved : goal.loop-digit-preserved
loop-digit-preserved c =
    let range = digit_range c.args.digits.now c.loop-digit.digit-index c.requires c.loop-digit-test.true in
    let digit : digit_value (get_or c.args.digits.now c.loop-digit.digit-index 0) ≡ c.from.result = grind (arith, nat_tests) in
    omega (arith, digits_value_more 10 c.args.digits.now _ c.loop-digit-test.true, c.loop-digit.invariant)
