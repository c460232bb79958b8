use Rattle.std.proofs.Common.{◌∙◌}
use Rattle.http_edge.proofs.LineLemmas.{pushed_5, push_as}
use Rattle.http_edge.proofs.head.push_sized.Goals as goal

pub returns-clause-text : goal.returns-clause-text
returns-clause-text c =
    let digits = push_as _ _ _ _ c.push-2.ensures (c.as_bytes.ensures.value ∙ c.format.ensures.text) in
    pushed_5 _ _ _ _ _ _ _ _ _ _ _ c.push.ensures digits c.push-3.ensures c.push-4.ensures c.push-5.ensures
