use Rattle.std.proofs.Common.{arith, ◌≡◌, length, take, ap, sym, ◌∙◌}
use Rattle.http_edge.specs.Response.{head_text}
use Rattle.response_reader.proofs.MatchLemmas.{same_by, differ_by, one_never, one_part, one_head}
use Rattle.response_reader.proofs.heads.front_by.Goals as goal

pub returns-then-ne : goal.returns-then-ne
returns-then-ne c =
    let text : c.as_slice-text.result.now ≡ head_text c.args.head = c.as_slice-text.ensures ∙ c.head_line-line.ensures.text in
    let len = c.min-len.ensures in
    one_never c.args.bytes.now c.args.head c.min-len.result c.requires (omega (arith, len)) (omega (arith, len, ap length text))
    (λ same. differ_by _ _ c.ne.result c.ne.ensures c.if-ne.true (same ∙ ap (take c.min-len.result) (sym text)))

pub returns-then-len-text : goal.returns-then-len-text
returns-then-len-text c =
    let text : c.as_slice-text.result.now ≡ head_text c.args.head = c.as_slice-text.ensures ∙ c.head_line-line.ensures.text in
    let len = c.min-len.ensures in
    let less = c.if-len-text.true in
    one_part c.args.bytes.now c.args.head c.min-len.result c.requires (omega (arith, len, less)) (omega (arith, less, ap length text))
    (omega (arith, c.head_line-line.ensures.short, ap length c.head_line-line.ensures.text))
    (same_by _ _ c.ne.result c.ne.ensures c.if-ne.false ∙ ap (take c.min-len.result) text)

pub returns : goal.returns
returns c =
    let text : c.as_slice-text.result.now ≡ head_text c.args.head = c.as_slice-text.ensures ∙ c.head_line-line.ensures.text in
    let len = c.min-len.ensures in
    let all = c.if-len-text.false in
    one_head c.args.bytes.now c.args.head c.min-len.result c.requires (omega (arith, len)) (omega (arith, len, all, ap length text))
    (same_by _ _ c.ne.result c.ne.ensures c.if-ne.false ∙ ap (take c.min-len.result) text)
