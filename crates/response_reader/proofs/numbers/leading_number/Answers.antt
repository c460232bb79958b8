use Rattle.std.proofs.Common.{ap, ◌∙◌}
use Rattle.std.specs.Result.{result_unwrap_or}
use Rattle.std.proofs.lemmas.Fmt.{parse-decimal}
use Rattle.response_reader.proofs.NumberLemmas.{digits_taken, front_digits, digits_text, read_or_zero}
use Rattle.response_reader.proofs.numbers.leading_number.Goals as goal

pub returns-in-Ok-clause-told : goal.returns-in-Ok-clause-told
returns-in-Ok-clause-told c =
    read_or_zero c.args.bytes.now c.in-Ok.digits.now c.parse.result c.unwrap_or.result
    (c.in-Ok.ensures.cases.0 ∙ front_digits c.args.bytes.now c.digits_end.result c.digits_end.ensures) c.parse.ensures.value.0 c.unwrap_or.ensures

pub returns-in-Ok-clause-written : goal.returns-in-Ok-clause-written
returns-in-Ok-clause-written c = λ n fits starts.
    let text = c.in-Ok.ensures.cases.0 ∙ digits_taken c.args.bytes.now c.digits_end.result n c.digits_end.ensures fits starts in
    let parsed = parse-decimal 64 n c.in-Ok.digits.now c.parse.result fits fits text c.parse.ensures.value.0 in
    c.unwrap_or.ensures ∙ ap (λ r. result_unwrap_or r 0) parsed

pub returns-in-Err : goal.returns-in-Err
returns-in-Err c =
    absurd (c.in-Err.ensures.cases.0 (digits_text c.args.bytes.now _ (front_digits c.args.bytes.now c.digits_end.result c.digits_end.ensures)))
