use Rattle.std.proofs.Common.{◌∙◌, ◌++◌, ap, sym}
use Rattle.http_edge.specs.Response.{from_line}
use Rattle.http_edge.proofs.LineLemmas.{pushed_3, push_as}
use Rattle.http_edge.proofs.head.push_from.Goals as goal

pub returns-in-Some-clause-text : goal.returns-in-Some-clause-text
returns-in-Some-clause-text c =
    let digits = push_as _ _ _ _ c.push-in-Some.ensures (c.as_bytes.ensures.value ∙ c.format.ensures.text) in
    let all = pushed_3 _ _ _ _ _ _ _ c.push.ensures digits c.push-in-Some-2.ensures in
    all ∙ ap (λ f. c.args.line.now ++ from_line f) (sym c.in-Some.is)
