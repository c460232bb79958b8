use Rattle.std.proofs.Common.{◌∙◌, ◌++◌, ap, sym}
use Rattle.http_edge.specs.Response.{form_lines}
use Rattle.http_edge.proofs.LineLemmas.{pushed_2}
use Rattle.http_edge.proofs.head.push_form.Goals as goal

pub returns-in-ChunkedJson-clause-text : goal.returns-in-ChunkedJson-clause-text
returns-in-ChunkedJson-clause-text c =
    let all = pushed_2 _ _ _ _ _ c.push_chunked-in-ChunkedJson.ensures.text c.push_from.ensures.text in
    all ∙ ap (λ f. c.args.line.now ++ form_lines f) (sym c.in-ChunkedJson.is)

pub returns-in-ChunkedPlain-clause-text : goal.returns-in-ChunkedPlain-clause-text
returns-in-ChunkedPlain-clause-text c =
    c.push_chunked-in-ChunkedPlain.ensures.text ∙ ap (λ f. c.args.line.now ++ form_lines f) (sym c.in-ChunkedPlain.is)
