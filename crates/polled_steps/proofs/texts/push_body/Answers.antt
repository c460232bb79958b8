use Rattle.std.proofs.Common.{◌∙◌}
use Rattle.http_edge.proofs.LineLemmas.{pushed_3, push_as}
use Rattle.polled_steps.proofs.texts.push_body.Goals as goal

pub returns : goal.returns
returns c =
    let phrase = push_as _ _ _ _ c.push-2.ensures (c.as_bytes.ensures.value ∙ c.phrase.ensures.text) in
    pushed_3 _ _ _ _ _ _ _ c.push.ensures phrase c.push-3.ensures
