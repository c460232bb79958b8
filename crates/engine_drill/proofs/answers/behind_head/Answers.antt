use Rattle.std.proofs.Common.{◌≡◌, take, length, sym, ap, ◌∙◌}
use Rattle.std.proofs.lemmas.List.{take_at}
use Rattle.http_edge.specs.Response.{head_text}
use Rattle.response_reader.proofs.MatchLemmas.{differ_by}
use Rattle.engine_drill.proofs.answers.behind_head.Goals as goal

pub returns-then-ne-clause-none : goal.returns-then-ne-clause-none
returns-then-ne-clause-none c =
    let text : c.as_slice.result.now ≡ head_text c.args.head.now = c.as_slice.ensures ∙ c.head_line-line.ensures.text in
    let long : length (head_text c.args.head.now) ≡ c.len-2.result = sym (c.len-2.ensures ∙ ap length c.head_line-line.ensures.text) in
    λ b e. differ_by _ _ c.ne.result c.ne.ensures c.if-ne.true
    (c.split_at.ensures.front ∙ ap (take c.len-2.result) e ∙ take_at (head_text c.args.head.now) b c.len-2.result long ∙ sym text)
