use Rattle.std.proofs.Common.{arith, ◌<◌, ◌^◌, ap, sym, subst, ◌∙◌}
use Rattle.std.proofs.lemmas.List.{take_rest}
use Rattle.http_edge.specs.Response.{head_text}
use Rattle.response_reader.specs.Numbers.{FirstDiffer, BeginsWithNumber}
use Rattle.response_reader.specs.Matching.{FrontSays, IsOne, IsNumbered}
use Rattle.response_reader.proofs.FormLemmas.{numbered_says}
use Rattle.response_reader.proofs.heads.numbered_front.Goals as goal

pub returns : goal.returns
returns c =
    let bytes = c.args.bytes.now in
    let text = c.as_slice.ensures ∙ c.head_line.ensures.text ∙ ap head_text c.head_with-zero.ensures in
    let small : c.leading_number-number.result < 2 ^ 64 = omega (arith, c.leading_number-number.type_inv) in
    let zero_front = subst (λ h. FrontSays (IsOne h) c.front_by.result bytes) c.head_with-zero.ensures c.front_by.ensures in
    let told_front = subst (λ h. FrontSays (IsOne h) c.front_by-2.result bytes) c.head_with.ensures c.front_by-2.ensures in
    let says = numbered_says c.args.kind c.args.status c.args.close bytes c.first_difference-place.result c.leading_number-number.result c.requires small
    (λ k differ. c.first_difference-place.ensures.first k (subst (λ l. FirstDiffer bytes l k) (sym text) differ))
    (λ n fits starts. c.leading_number-number.ensures.written n fits (subst (λ l. BeginsWithNumber l n) (sym (take_rest bytes c.first_difference-place.result)) starts)) c.front_by.result c.front_by-2.result zero_front told_front in
    subst (λ r. FrontSays (IsNumbered c.args.kind c.args.status c.args.close) r bytes) (sym c.either.ensures) says
