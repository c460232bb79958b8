use Rattle.std.proofs.Common.{arith, ◌<◌, ◌^◌, ℕ, List, subst, sym, ap, ◌∙◌, Some}
use Rattle.std.proofs.lemmas.List.{take_rest}
use Rattle.response_reader.specs.Numbers.{BeginsWithNumber}
use Rattle.engine_drill.proofs.AnswerLemmas.{drop_cut}
use Rattle.engine_drill.proofs.answers.status_in.Goals as goal

pub returns-then-number-lt200-clause-found : goal.returns-then-number-lt200-clause-found
returns-then-number-lt200-clause-found c = λ status final begins.
    let cut = take_rest c.args.bytes.now c.min.result ∙ drop_cut 9 c.min.result c.args.bytes.now c.min.ensures in
    let small : status < 2 ^ 64 = omega (arith, final.1) in
    let is = c.leading_number-number.ensures.written status small (subst (λ (b : List ℕ). BeginsWithNumber b status) (sym cut) begins) in
    absurd (omega (arith, is, final.0, c.if-number-lt200.true))

pub returns-then-number-ge600-clause-found : goal.returns-then-number-ge600-clause-found
returns-then-number-ge600-clause-found c = λ status final begins.
    let cut = take_rest c.args.bytes.now c.min.result ∙ drop_cut 9 c.min.result c.args.bytes.now c.min.ensures in
    let small : status < 2 ^ 64 = omega (arith, final.1) in
    let is = c.leading_number-number.ensures.written status small (subst (λ (b : List ℕ). BeginsWithNumber b status) (sym cut) begins) in
    absurd (omega (arith, is, final.1, c.if-number-ge600.true))

pub returns-clause-found : goal.returns-clause-found
returns-clause-found c = λ status final begins.
    let cut = take_rest c.args.bytes.now c.min.result ∙ drop_cut 9 c.min.result c.args.bytes.now c.min.ensures in
    let small : status < 2 ^ 64 = omega (arith, final.1) in
    ap Some (c.leading_number-number.ensures.written status small (subst (λ (b : List ℕ). BeginsWithNumber b status) (sym cut) begins))
