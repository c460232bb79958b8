use Rattle.std.proofs.Common.{◌∙◌}
use Rattle.http_edge.proofs.LineLemmas.{pushed_6, push_as}
use Rattle.http_edge.proofs.head.push_first.Goals as goal

pub returns-clause-text : goal.returns-clause-text
returns-clause-text c =
    let digits = push_as _ _ _ _ c.push-2.ensures (c.as_bytes.ensures.value ∙ c.format.ensures.text) in
    let phrase = push_as _ _ _ _ c.push-4.ensures (c.as_bytes-2.ensures.value ∙ c.phrase.ensures.text) in
    let close = push_as _ _ _ _ c.push-6.ensures c.connection_line.ensures.text in
    pushed_6 _ _ _ _ _ _ _ _ _ _ _ _ _ c.push.ensures digits c.push-3.ensures phrase c.push-5.ensures close
