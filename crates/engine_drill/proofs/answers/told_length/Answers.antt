use Rattle.std.proofs.Common.{◌-◌, ℕ, List, drop, length, subst, sym, ap, ◌∙◌}
use Rattle.std.proofs.lemmas.List.{take_rest}
use Rattle.response_reader.specs.Numbers.{BeginsWithNumber}
use Rattle.engine_drill.proofs.AnswerLemmas.{drop_cut, length_place}
use Rattle.engine_drill.proofs.answers.told_length.Goals as goal

pub returns : goal.returns
returns c = λ n fits begins.
    let bytes = c.args.bytes.now in
    let place = ap (λ (k : ℕ). k - 54) (c.len-place.ensures ∙ ap length c.head_line.ensures.text) ∙ length_place c.args.status in
    let cut = take_rest bytes c.min.result ∙ drop_cut (c.len-place.result - 54) c.min.result bytes c.min.ensures ∙ ap (λ (k : ℕ). drop k bytes) place in
    c.leading_number.ensures.written n fits (subst (λ (b : List ℕ). BeginsWithNumber b n) (sym cut) begins)
